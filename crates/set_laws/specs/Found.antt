-- What is found group by group, for groups of an arena.
use Rattle.std.specs.Prelude.{◌≡◌, ℕ, ◌&&◌, Bool, List, nat_le, Contains}
use Rattle.term_model.specs.Tree.{Tree}
use Rattle.term_arena.specs.Trees.{trees_of}
use Rattle.input_laws.specs.Sets.{set_at}
use Rattle.group_model.specs.declared.Group.{Group}
use Rattle.wide_laws.specs.Roots.{conflicts_of}
use Rattle.set_laws.specs.Sets.{values_in}
use Rattle.set_laws.specs.Spent.{is_wide}

-- at each of the group's places stands the set of its values
abbrev pub HasValues : List Tree → List ℕ → List (ℕ → Bool) → Group → Type 0
HasValues trees first sets group =
    (i : ℕ) → Contains group.places i → set_at sets i ≡ values_in (trees_of trees group.conditions) group.places first i

-- how many conflicts the search counts for the group
abbrev pub group_conflicts : List Tree → List ℕ → Group → ℕ
group_conflicts trees mask group = conflicts_of mask (trees_of trees group.conditions) group.places

-- the group is wide, and they are at least as many as the budget
abbrev pub is_spent : List Tree → List ℕ → ℕ → Group → Bool
is_spent trees mask budget group = is_wide group.places && nat_le budget (group_conflicts trees mask group)
