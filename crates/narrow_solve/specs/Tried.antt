-- What is found by trying values at one place of an input, or at two.
use Rattle.std.specs.Prelude.{◌≡◌, ℕ, ◌<◌, ◌≤◌, ◌⊎◌, List, Bool, false, bit_xor, slice_set, IsTrue}

-- no value at the place passes
abbrev pub NoneAt : (List ℕ → Bool) → List ℕ → ℕ → Type 0
NoneAt test y i = (v : ℕ) → v < 256 → test (slice_set y i v) ≡ false

-- the value at the place passes, and each other that passes comes after it in the mask's order
pub record IsFirstAt (test : List ℕ → Bool) (mask : ℕ) (y : List ℕ) (i first : ℕ) : Type 0 where
  pub passes : IsTrue (test (slice_set y i first))
  pub before : (v : ℕ) → v < 256 → IsTrue (test (slice_set y i v)) → bit_xor first mask ≤ bit_xor v mask

-- the input with one value at a lower place and another at a higher place
abbrev pub with_pair : List ℕ → ℕ → ℕ → ℕ → ℕ → List ℕ
with_pair y low high v w = slice_set (slice_set y low v) high w

-- no values at the two places pass
abbrev pub NoPairAt : (List ℕ → Bool) → List ℕ → ℕ → ℕ → Type 0
NoPairAt test y low high = (v w : ℕ) → v < 256 → w < 256 → test (with_pair y low high v w) ≡ false

-- the values at the two places pass, and all others that pass come after them: by the lower place, and then by the higher
pub record IsFirstPair (test : List ℕ → Bool) (low_mask high_mask : ℕ) (y : List ℕ) (low high first second : ℕ) : Type 0 where
  pub passes : IsTrue (test (with_pair y low high first second))
  pub before : (v w : ℕ) → v < 256 → w < 256 → IsTrue (test (with_pair y low high v w)) →
      (bit_xor first low_mask < bit_xor v low_mask) ⊎ ((first ≡ v) × (bit_xor second high_mask ≤ bit_xor w high_mask))
