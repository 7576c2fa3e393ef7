-- The conflicts that are counted while groups are filled in, and the group that an error names.
use Rattle.std.specs.Prelude.{◌≡◌, ℕ, true, List, Some, find, option_map, if◌then◌else◌}
use Rattle.term_model.specs.Tree.{Tree}
use Rattle.group_model.specs.declared.Group.{Group}
use Rattle.set_laws.specs.Spent.{is_wide, place_and_width}
use Rattle.set_laws.specs.Found.{group_conflicts, is_spent}
use Rattle.report_maker.specs.declared.error.MakeError.{MakeError}
use Rattle.report_maker.specs.declared.error.MakeError.TheVariants.{Spent}

-- how many conflicts the search counts for a group: none where it isn't wide
abbrev pub conflicts_at : List Tree → List ℕ → Group → ℕ
conflicts_at trees mask group = if is_wide group.places then group_conflicts trees mask group else 0

-- where the error is for spent conflicts, the group is spent, and named
abbrev pub NamesGroup : List Tree → List ℕ → ℕ → Group → MakeError → Type 0
NamesGroup trees mask budget group error = (first width : ℕ) → error ≡ Spent first width →
    (is_spent trees mask budget group ≡ true) × (place_and_width group.places ≡ (first, width))

-- the first spent group is named
abbrev pub NamesFirst : List Tree → List ℕ → ℕ → List Group → MakeError → Type 0
NamesFirst trees mask budget groups error = (first width : ℕ) → error ≡ Spent first width →
    option_map (λ g. place_and_width g.places) (find (is_spent trees mask budget) groups) ≡ Some (first, width)
