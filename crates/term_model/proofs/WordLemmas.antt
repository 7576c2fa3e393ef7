-- Values are words.
use Rattle.std.proofs.Common.{◌≡◌, ℕ, ◌*◌, ◌/◌, ◌%◌, ◌^◌, ◌<◌, ◌≤◌, Bool, true, false, ◌==◌, if◌then◌else◌, nat_eq, List, arith}
use Rattle.std.specs.Int.{from_bool}
use Rattle.std.proofs.lemmas.Nat.{and_le_l, and_le_r, or_of_32, xor_of_32, shr_le, div_below, mul-lt}
use Rattle.std.proofs.lemmas.Bool.Decides.{nat_tests}
use Rattle.rv_word.specs.Word.{alu}
use Rattle.rv_word.proofs.Words.{bits_below}
use Rattle.rv_word.specs.declared.AluOp.{AluOp}
use Rattle.rv_word.specs.declared.AluOp.TheVariants.{Add, Sub, Sll, Slt, Sltu, Xor, Srl, Sra, Or, And, Mul, Mulh, Mulhsu, Mulhu, Div, Divu, Rem, Remu}
use Rattle.term_model.specs.declared.Op.{Op}
use Rattle.term_model.specs.declared.Op.TheVariants.{Alu, Eq, Byte, Pair, Half}
use Rattle.term_model.specs.Tree.{Tree, Const, Input, Apply}
use Rattle.term_model.specs.Value.{op_value, val}
use Rattle.term_model.specs.Words.{HasWords, AreBytes}
use Rattle.term_model.specs.Truth.{is_truth}

-- a truth value is 0 or 1
pub bit_below : (b : Bool) → from_bool b < 2
bit_below true = omega arith
bit_below false = omega arith

-- a choice between two words
either_below : (b : Bool) (m n : ℕ) → m < 2 ^ 32 → n < 2 ^ 32 → (if b then m else n) < 2 ^ 32
either_below true m n h k = h
either_below false m n h k = k

-- a quotient of a word
quotient_below : (a b : ℕ) → a < 2 ^ 32 → (a / b) < 2 ^ 32
quotient_below a b h = omega (arith, div_le a b)
  where
    div_le : (m n : ℕ) → m / n ≤ m
    div_le m n = grind arith

-- a remainder of a word
remainder_below : (a b : ℕ) → a < 2 ^ 32 → (a % b) < 2 ^ 32
remainder_below a b h = omega (arith, mod_le a b)
  where
    mod_le : (m n : ℕ) → m % n ≤ m
    mod_le m n = grind arith

-- an operation of the processor makes words of words
pub alu_below : (f : AluOp) (a b : ℕ) → a < 2 ^ 32 → b < 2 ^ 32 → alu f a b < 2 ^ 32
alu_below Add a b h k = omega arith
alu_below Sub a b h k = omega arith
alu_below Sll a b h k = omega arith
alu_below Slt a b h k = omega (arith, bit_below)
alu_below Sltu a b h k = omega (arith, bit_below)
alu_below Xor a b h k = xor_of_32 a b h k
alu_below Srl a b h k = omega (arith, shr_le a (b % 32))
alu_below Sra a b h k = bits_below _
alu_below Or a b h k = or_of_32 a b h k
alu_below And a b h k = omega (arith, and_le_l a b)
alu_below Mul a b h k = omega arith
alu_below Mulh a b h k = bits_below _
alu_below Mulhsu a b h k = bits_below _
alu_below Mulhu a b h k = div_below (a * b) (2 ^ 32) (2 ^ 32) (omega arith) (mul-lt a b (2 ^ 32) (2 ^ 32) h k)
alu_below Div a b h k = either_below (b == 0) _ _ (omega arith) (bits_below _)
alu_below Divu a b h k = either_below (b == 0) _ _ (omega arith) (quotient_below a b h)
alu_below Rem a b h k = either_below (b == 0) _ _ h (bits_below _)
alu_below Remu a b h k = either_below (b == 0) _ _ h (remainder_below a b h)

-- so does each operation
pub op_below : (op : Op) (a b : ℕ) → a < 2 ^ 32 → b < 2 ^ 32 → op_value op a b < 2 ^ 32
op_below (Alu f) a b h k = alu_below f a b h k
op_below Eq a b h k = omega (arith, bit_below (nat_eq a b))
op_below Byte a b h k = omega arith
op_below Pair a b h k = omega arith
op_below Half a b h k = omega arith

-- the value of a term is a word
pub value_below : (t : Tree) (input : List ℕ) → HasWords t → AreBytes input → val t input < 2 ^ 32
value_below (Const c) input h k = h
value_below (Input i) input h k = omega (arith, k i)
value_below (Apply op a b) input h k =
    op_below op (val a input) (val b input) (value_below a input h.0 k) (value_below b input h.1 k)

-- a truth term is 0 or 1
pub truth_below : (t : Tree) (input : List ℕ) → is_truth t ≡ true → val t input < 2
truth_below (Apply Eq a b) input e = bit_below _
truth_below (Apply (Alu Slt) a b) input e = bit_below _
truth_below (Apply (Alu Sltu) a b) input e = bit_below _
truth_below (Apply (Alu And) a (Const c)) input e =
    let one : c ≡ 1 = grind (arith, nat_tests) in
    omega (arith, and_le_r (val a input) c)
truth_below t input e = cc
