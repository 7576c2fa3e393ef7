-- Conditions dealt into the lists of the places that they read.
use Rattle.std.specs.Prelude.{◌≡◌, ℕ, ◌<◌, List, Bool, false, Option, Some, None, filter, length, nat_eq, slice_index, slice_index_or}
use Rattle.std.specs.Ordering.{nat_cmp}
use Rattle.std.specs.BTreeMap.{BTreeMap, get}
use Rattle.byte_groups.specs.Gathered.{number_at}

-- the number of the list of a place's label
abbrev pub number_by : List ℕ → List (Option ℕ) → Option ℕ → Option ℕ
number_by labels numbers (Some place) = number_at numbers (slice_index labels place)
number_by labels numbers None = None

-- the number of the list of a term's places
abbrev pub number_of : List ℕ → List (Option ℕ) → BTreeMap ℕ ℕ → ℕ → Option ℕ
number_of labels numbers leaves t = number_by labels numbers (get nat_cmp leaves t)

-- the number is this
abbrev pub is_number : ℕ → Option ℕ → Bool
is_number q (Some p) = nat_eq p q
is_number q None = false

-- each list has the terms of its number, in their order
pub record AreDealt (number : ℕ → Option ℕ) (count : ℕ) (terms : List ℕ) (lists : List (List ℕ)) : Type 0 where
  pub long : length lists ≡ count
  pub each : (q : ℕ) (d : List ℕ) → q < count → slice_index_or lists q d ≡ filter (λ t. is_number q (number t)) terms
