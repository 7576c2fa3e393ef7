-- A sign is extended by a shift up and a signed shift down.
use Rattle.std.proofs.Common.{◌≡◌, ℕ, ◌<◌, arith}
use Rattle.std.specs.Int.{cast_unsigned, w32}
use Rattle.std.proofs.lemmas.Int.{ints}
use Rattle.rv_word.specs.Word.{alu}
use Rattle.rv_word.specs.declared.AluOp.TheVariants.{Sll, Sra}
use Rattle.rv_decode.specs.Fields.{sign_extended}

-- the sign of a byte, by shifts
pub extended_byte : (b : ℕ) → b < 256 → cast_unsigned w32 (sign_extended 8 b) ≡ alu Sra (alu Sll b 24) 24
extended_byte b h = grind (arith, ints)

-- the sign of a half word, by shifts
pub extended_half : (b : ℕ) → b < 65536 → cast_unsigned w32 (sign_extended 16 b) ≡ alu Sra (alu Sll b 16) 16
extended_half b h = grind (arith, ints)
