-- The values that each byte of the first input may take, from the conditions and that input alone.
use Rattle.std.specs.Prelude.{ℕ, ◌==◌, Bool, List, [], ◌∷◌, filter, length, map, nat_lt, if◌then◌else◌}
use Rattle.std.specs.List.{list_any, range_with_len}
use Rattle.term_model.specs.Tree.{Tree}
use Rattle.term_model.specs.Places.{reads}
use Rattle.term_model.specs.Conditions.{holds}
use Rattle.input_laws.specs.Sets.{freed}
use Rattle.input_laws.specs.Narrow.{freed_beside}
use Rattle.group_laws.specs.Groups.{group_with}
use Rattle.wide_laws.specs.Roots.{wide_values}

-- the places of the group that has place i: none where no condition reads it
abbrev pub group_at : List Tree → ℕ → ℕ → List ℕ
group_at conditions n i = if list_any (λ t. reads t i) conditions then group_with conditions n i else []

-- the conditions of a group: those that read one of its places, in their order
abbrev pub conditions_on : List Tree → List ℕ → List Tree
conditions_on conditions places = filter (λ t. list_any (reads t) places) conditions

-- The inputs that pass a test: the values of place i with the others as they are, where it is the first of its group, and
-- else beside every value of the first.
abbrev pub values_beside : (List ℕ → Bool) → List ℕ → ℕ → ℕ → ℕ → Bool
values_beside test y first i = if first == i then freed test y i else freed_beside test (freed test y first) y first i

-- The values of place i, by the size of its group, which has these conditions and places.
abbrev pub values_in : List Tree → List ℕ → List ℕ → ℕ → ℕ → Bool
-- of no group: all bytes
values_in conditions [] first i = λ v. nat_lt v 256
-- alone: those that meet the conditions
values_in conditions (place ∷ []) first i = freed (holds conditions) first i
-- of two: at the lower place those that meet the conditions beside the other's byte, at the higher place those that meet
-- them beside every value of the lower
values_in conditions (low ∷ high ∷ []) first i = values_beside (holds conditions) first low i
-- of more: those that the bits that stay fixed leave
values_in conditions (a ∷ b ∷ c ∷ places) first i = wide_values conditions first (a ∷ b ∷ c ∷ places) i

unfoldable pub values_of : List Tree → List ℕ → ℕ → ℕ → Bool
values_of conditions first i =
    let places = group_at conditions (length first) i in
    values_in (conditions_on conditions places) places first i

-- a set of values for each byte of the first input
abbrev pub sets_from : List Tree → List ℕ → List (ℕ → Bool)
sets_from conditions first = map (values_of conditions first) (range_with_len 0 (length first))
