-- Where each term of a list stands in it.
use Rattle.std.specs.Prelude.{◌≡◌, ℕ, List, slice_get, Some}
use Rattle.std.specs.Ordering.{nat_cmp}
use Rattle.std.specs.BTreeMap.{BTreeMap, get}

-- The map has the place of each term of the list. What it has of other terms says nothing.
abbrev pub HasPlaces : List ℕ → BTreeMap ℕ ℕ → Type 0
HasPlaces terms places = (k t : ℕ) → slice_get terms k ≡ Some t → get nat_cmp places t ≡ Some k
