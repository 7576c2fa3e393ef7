-- An integer as a word.
use Rattle.std.proofs.Common.{◌≡◌, ◌<◌, ◌^◌, ℤ, pos, negsuc, arith}
use Rattle.std.specs.Int.{cast_unsigned, w32}
use Rattle.std.specs.Int.RustNames.{FitsSigned}
use Rattle.std.proofs.lemmas.Int.{ints}
use Rattle.rv_word.specs.Word.{bits}

-- of an integer that fits in 32 bits, it has the integer's two's complement
pub bits_is : (z : ℤ) → FitsSigned w32 z → cast_unsigned w32 z ≡ bits z
bits_is (pos n) fits = grind (arith, ints)
bits_is (negsuc n) fits = grind (arith, ints)

-- it is a word
pub bits_below : (z : ℤ) → bits z < 2 ^ 32
bits_below (pos n) = omega arith
bits_below (negsuc n) = omega arith
