-- The order of inputs under a mask, and the member that comes first.
use Rattle.std.specs.Prelude.{◌≡◌, ◌<◌, ◌⊎◌, ℕ, Bool, true, List, [], ◌∷◌, Option, map, flat_map, find, slice_index, bit_xor, IsTrue}
use Rattle.input_laws.specs.Inputs.{IsInput, bytes}

-- y and z have the same byte at each of these places.
abbrev pub SameOn : (ℕ → Bool) → List ℕ → List ℕ → Type 0
SameOn places y z = (k : ℕ) → IsTrue (places k) → slice_index y k ≡ slice_index z k

-- At the first of these places where y and z differ, y's byte xor the mask's is less.
pub record ComesBeforeOn (places : ℕ → Bool) (mask y z : List ℕ) : Type 0 where
  pub at : ℕ
  pub inside : IsTrue (places at)
  pub same_below : (k : ℕ) → k < at → IsTrue (places k) → slice_index y k ≡ slice_index z k
  pub less : bit_xor (slice_index y at) (slice_index mask at) < bit_xor (slice_index z at) (slice_index mask at)

-- Every place.
abbrev pub everywhere : ℕ → Bool
everywhere _ = true

-- At the first place where y and z differ, y's byte xor the mask's is less.
abbrev pub ComesBefore : List ℕ → List ℕ → List ℕ → Type 0
ComesBefore mask y z = ComesBeforeOn everywhere mask y z

-- y is the member of n bytes that comes before every other.
pub record IsFirst (n : ℕ) (mask : List ℕ) (member : List ℕ → Bool) (y : List ℕ) : Type 0 where
  pub is_input : IsInput n y
  pub is_member : IsTrue (member y)
  pub before : (z : List ℕ) → IsInput n z → IsTrue (member z) → (y ≡ z) ⊎ ComesBefore mask y z

-- All inputs that are as long as the mask, in the mask's order.
unfoldable pub inputs_in_order : List ℕ → List (List ℕ)
inputs_in_order [] = [] ∷ []
inputs_in_order (m ∷ mask) = flat_map (λ v. map (λ rest. bit_xor v m ∷ rest) (inputs_in_order mask)) bytes

-- The first input, in the mask's order, that is a member.
unfoldable pub first : List ℕ → (List ℕ → Bool) → Option (List ℕ)
first mask member = find member (inputs_in_order mask)
