-- Rules for bytes of words, and for words of bytes.
use Rattle.std.specs.Prelude.{◌+◌, ◌-◌, ◌/◌, ℕ, Bool, false, ◌&&◌, nat_eq, nat_lt, nat_le, None}
use Rattle.rv_word.specs.declared.AluOp.TheVariants.{Xor, Or, And, Sll, Srl, Sra}
use Rattle.term_model.specs.declared.Op.TheVariants.{Alu, Byte, Pair, Half}
use Rattle.term_model.specs.Tree.{Tree, Const, Apply}
use Rattle.rv_word.specs.Word.{byte_of}
use Rattle.term_model.specs.ZeroBytes.{is_zero_byte, is_byte_shift, is_one_byte, is_half_word}
use Rattle.term_model.specs.Same.{same_tree}
use Rattle.normal_form.specs.Plan.{Is, Rule, only_if, or_else, with_constant}

-- Byte(x, k) is 0, where byte k of x is zero
abbrev pub byte_is_zero : Rule
byte_is_zero Byte x (Const k) = only_if (is_zero_byte x k) (Is (Const 0))
byte_is_zero op a b = None

-- Byte(x, 0) is x, where x is one byte
abbrev pub byte_of_one_byte : Rule
byte_of_one_byte Byte x (Const k) = only_if (nat_eq k 0 && is_one_byte x) (Is x)
byte_of_one_byte op a b = None

-- Byte(Pair(x, y), 0) is Byte(x, 0), and Byte(Pair(x, y), 1) is Byte(y, 0)
abbrev pub byte_of_pair : Rule
byte_of_pair Byte (Apply Pair x y) (Const k) = or_else (only_if (nat_eq k 0) (with_constant Byte x 0)) (only_if (nat_eq k 1) (with_constant Byte y 0))
byte_of_pair op a b = None

-- Byte(Half(x, y), k) is Byte(x, k) for k below 2, else Byte(y, k - 2)
abbrev pub byte_of_half : Rule
byte_of_half Byte (Apply Half x y) (Const k) = or_else (only_if (nat_lt k 2) (with_constant Byte x k)) (only_if (nat_le 2 k) (with_constant Byte y (k - 2)))
byte_of_half op a b = None

-- Byte of Or(x, y) or Xor(x, y) at k is Byte(x, k) where byte k of y is zero, else Byte(y, k) where that of x is
abbrev pub byte_beside_zero : Rule
byte_beside_zero Byte (Apply (Alu Or) x y) (Const k) = or_else (only_if (is_zero_byte y k) (with_constant Byte x k)) (only_if (is_zero_byte x k) (with_constant Byte y k))
byte_beside_zero Byte (Apply (Alu Xor) x y) (Const k) = or_else (only_if (is_zero_byte y k) (with_constant Byte x k)) (only_if (is_zero_byte x k) (with_constant Byte y k))
byte_beside_zero op a b = None

-- Byte(And(x, c), k) is Byte(x, k), where byte k of c is FF
abbrev pub byte_under_mask : Rule
byte_under_mask Byte (Apply (Alu And) x (Const c)) (Const k) = only_if (nat_eq (byte_of k c) 255) (with_constant Byte x k)
byte_under_mask op a b = None

-- Byte(Sll(x, 8j), k) is Byte(x, k - j), for j from 1 to 3 and k at least j
abbrev pub byte_of_left_shift : Rule
byte_of_left_shift Byte (Apply (Alu Sll) x (Const c)) (Const k) = only_if (is_byte_shift c && nat_le (c / 8) k) (with_constant Byte x (k - c / 8))
byte_of_left_shift op a b = None

-- Byte of Srl(x, 8j) or Sra(x, 8j) at k is Byte(x, k + j), for j from 1 to 3 and k + j at most 3
abbrev pub byte_of_right_shift : Rule
byte_of_right_shift Byte (Apply (Alu Srl) x (Const c)) (Const k) = only_if (is_byte_shift c && nat_le (k + c / 8) 3) (with_constant Byte x (k + c / 8))
byte_of_right_shift Byte (Apply (Alu Sra) x (Const c)) (Const k) = only_if (is_byte_shift c && nat_le (k + c / 8) 3) (with_constant Byte x (k + c / 8))
byte_of_right_shift op a b = None

-- Pair(x, 0) is Byte(x, 0)
abbrev pub pair_with_zero : Rule
pair_with_zero Pair x (Const c) = only_if (nat_eq c 0) (with_constant Byte x 0)
pair_with_zero op a b = None

-- Half(x, 0) is x, where the two upper bytes of x are zero
abbrev pub half_with_zero : Rule
half_with_zero Half x (Const c) = only_if (nat_eq c 0 && is_half_word x) (Is x)
half_with_zero op a b = None

-- the term is Byte(x, k)
abbrev pub is_byte_of : Tree → ℕ → Tree → Bool
is_byte_of x k (Apply Byte y (Const j)) = nat_eq j k && same_tree y x
is_byte_of x k t = false

-- Pair(Byte(x, 0), Byte(x, 1)) is x, where the two upper bytes of x are zero
abbrev pub pair_of_own_bytes : Rule
pair_of_own_bytes Pair (Apply Byte x j) b =
    only_if ((is_byte_of x 0 (Apply Byte x j) && is_byte_of x 1 b) && is_half_word x) (Is x)
pair_of_own_bytes op a b = None

-- Half(Pair(Byte(x, 0), Byte(x, 1)), Pair(Byte(x, 2), Byte(x, 3))) is x
abbrev pub half_of_own_bytes : Rule
half_of_own_bytes Half (Apply Pair (Apply Byte x j) q) (Apply Pair r s) =
    only_if ((is_byte_of x 0 (Apply Byte x j) && is_byte_of x 1 q) && (is_byte_of x 2 r && is_byte_of x 3 s)) (Is x)
half_of_own_bytes op a b = None
