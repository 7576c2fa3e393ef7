-- Inputs of bytes, with and without the places past their end.
use Rattle.std.proofs.Common.{◌≡◌, ℕ, ◌<◌, inl, inr, List, length, get_or, arith}
use Rattle.std.specs.Prelude.{All, slice_index}
use Rattle.std.proofs.lemmas.List.{get_or_past, get_or_default}
use Rattle.std.proofs.lemmas.Bool.{cases_lt}
use Rattle.term_model.specs.Words.{AreBytes}

-- numbers that are all below 256 are bytes, also past their end
pub bytes_everywhere : (y : List ℕ) → All (λ b. b < 256) y → AreBytes y
bytes_everywhere y h i = elim (cases_lt i (length y)) [
  | inl l ↦ h i 0 l
  | inr past ↦ let e : slice_index y i ≡ 0 = get_or_past y i 0 past in omega arith
]

-- and the other way round
pub bytes_within : (y : List ℕ) → AreBytes y → All (λ b. b < 256) y
bytes_within y h k d l =
    let e : get_or y k d ≡ get_or y k 0 = get_or_default y k d 0 l in
    let b : slice_index y k < 256 = h k in
    omega arith
