-- The groups of places that conditions tie together, from the conditions alone. The places are those below n, and a group
-- is told by the first of its places.
use Rattle.std.specs.Prelude.{ℕ, ◌&&◌, Bool, List, [], ◌∷◌, nat_eq, nat_lt, length, map, filter, find, unwrap_or, if◌then◌else◌}
use Rattle.std.specs.List.{list_any, range_with_len}
use Rattle.term_model.specs.Tree.{Tree}
use Rattle.term_model.specs.Places.{reads}

-- the condition reads a place of the group that has place i
abbrev pub meets : (ℕ → ℕ) → ℕ → Tree → ℕ → Bool
meets first n t i = list_any (λ j. reads t j && nat_eq (first j) (first i)) (range_with_len 0 n)

-- the first place of the group that has place i, once all groups that the condition meets are one
abbrev pub first_with : (ℕ → ℕ) → ℕ → Tree → ℕ → ℕ
first_with first n t i = if meets first n t i then unwrap_or (find (meets first n t) (range_with_len 0 n)) i else first i

-- the first place of the group that has place i: each condition makes one group of those that it meets
unfoldable pub first_of : List Tree → ℕ → ℕ → ℕ
first_of [] n i = i
first_of (t ∷ conditions) n i = first_with (first_of conditions n) n t i

-- the places of the group that has place i
abbrev pub group_with : List Tree → ℕ → ℕ → List ℕ
group_with conditions n i = filter (λ j. nat_eq (first_of conditions n j) (first_of conditions n i)) (range_with_len 0 n)

-- some condition reads the place, and it is the first of its group
abbrev pub begins_group : List Tree → ℕ → ℕ → Bool
begins_group conditions n i = list_any (λ t. reads t i) conditions && nat_eq (first_of conditions n i) i

-- the groups of the places that are read, in the order of their first places
unfoldable pub groups_of : List Tree → ℕ → List (List ℕ)
groups_of conditions n = map (group_with conditions n) (filter (begins_group conditions n) (range_with_len 0 n))

-- some group has more than two places
abbrev pub has_wide_group : List Tree → ℕ → Bool
has_wide_group conditions n = list_any (λ places. nat_lt 2 (length places)) (groups_of conditions n)
