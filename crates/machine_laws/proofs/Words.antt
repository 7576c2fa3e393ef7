-- Values of operations are words.
use Rattle.std.proofs.Common.{ℕ, ◌-◌, ◌*◌, ◌/◌, ◌%◌, ◌^◌, ◌<◌, ◌==◌, Bool, true, false, cond, nat_lt, ℤ, pos, negsuc, arith}
use Rattle.std.specs.Int.{cast_unsigned, w32, from_bool}
use Rattle.std.proofs.lemmas.Int.{ints}
use Rattle.std.specs.Int.Bits.{and_lt}
use Rattle.std.proofs.lemmas.Nat.{or_lt, xor_lt}
use Rattle.std.proofs.Math.Nat.{div-le_self, mod-le, div-lt_iff_lt-mul}
use Rattle.rv_decode.specs.Fields.{sign_extended}
use Rattle.rv_word.specs.declared.AluOp.{AluOp}
use Rattle.rv_word.specs.declared.AluOp.TheVariants.{Add, Sub, Sll, Slt, Sltu, Xor, Srl, Sra, Or, And, Mul, Mulh, Mulhsu, Mulhu, Div, Divu, Rem, Remu}
use Rattle.rv_word.specs.Word.{alu}
use Rattle.rv_word.proofs.Words.{bits_below}

pub pos_fits : (n : ℕ) → n < 2 ^ 32 → cast_unsigned w32 (pos n) < 2 ^ 32
pos_fits n h = omega (arith, ints)

neg_fits : (n : ℕ) → cast_unsigned w32 (negsuc n) < 2 ^ 32
neg_fits n = omega (arith, ints)

either_sign : (t : Bool) (n m : ℕ) → n < 2 ^ 32 → cast_unsigned w32 (cond t (pos n) (negsuc m)) < 2 ^ 32
either_sign true n m h = pos_fits n h
either_sign false n m h = neg_fits m

pub extended_fits : (k n : ℕ) → n < 2 ^ 32 → cast_unsigned w32 (sign_extended k n) < 2 ^ 32
extended_fits k n h = either_sign (nat_lt n (2 ^ (k - 1))) n (2 ^ k - 1 - n) h

bool_fits : (b : Bool) → from_bool b < 2 ^ 32
bool_fits true = omega arith
bool_fits false = omega arith

either : (t : Bool) (a b : ℕ) → a < 2 ^ 32 → b < 2 ^ 32 → cond t a b < 2 ^ 32
either true a b h l = h
either false a b h l = l

below : (n k : ℕ) → n < 2 ^ 32 → n / k < 2 ^ 32
below n k h = omega (arith, div-le_self n k)

upper : (a b : ℕ) → a < 2 ^ 32 → b < 2 ^ 32 → a * b / 2 ^ 32 < 2 ^ 32
upper a b h l = grind (arith, div-lt_iff_lt-mul)

rest : (a b : ℕ) → a < 2 ^ 32 → b < 2 ^ 32 → a % b < 2 ^ 32
rest a b h l = omega (arith, mod-le a b)

pub alu_fits : (op : AluOp) (a b : ℕ) → a < 2 ^ 32 → b < 2 ^ 32 → alu op a b < 2 ^ 32
alu_fits Add a b h l = omega arith
alu_fits Sub a b h l = omega arith
alu_fits Sll a b h l = omega arith
alu_fits Slt a b h l = bool_fits _
alu_fits Sltu a b h l = bool_fits _
alu_fits Xor a b h l = xor_lt 32 a b h l
alu_fits Srl a b h l = below a _ h
alu_fits Sra a b h l = bits_below _
alu_fits Or a b h l = or_lt 32 a b h l
alu_fits And a b h l = and_lt 32 a b h l
alu_fits Mul a b h l = omega arith
alu_fits Mulh a b h l = bits_below _
alu_fits Mulhsu a b h l = bits_below _
alu_fits Mulhu a b h l = upper a b h l
alu_fits Div a b h l = either (b == 0) _ _ (omega arith) (bits_below _)
alu_fits Divu a b h l = either (b == 0) _ _ (omega arith) (below a b h)
alu_fits Rem a b h l = either (b == 0) _ _ h (bits_below _)
alu_fits Remu a b h l = either (b == 0) _ _ h (rest a b h l)
