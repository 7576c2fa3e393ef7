-- Bytes of a term's value that are zero whatever the input is, as far as the term's form shows.
use Rattle.std.specs.Prelude.{ℕ, ◌+◌, ◌-◌, ◌/◌, Bool, false, ◌&&◌, ◌||◌, nat_eq, nat_lt}
use Rattle.rv_word.specs.declared.AluOp.TheVariants.{Slt, Sltu, Xor, Or, And, Sll, Srl}
use Rattle.term_model.specs.declared.Op.TheVariants.{Alu, Eq, Byte, Pair, Half}
use Rattle.term_model.specs.Tree.{Tree, Const, Input, Apply}
use Rattle.term_model.specs.Value.{byte_of}

-- a shift by one, two or three whole bytes
abbrev pub is_byte_shift : ℕ → Bool
is_byte_shift c = nat_eq c 8 || nat_eq c 16 || nat_eq c 24

-- Byte k of the term, for k below 4, is zero by the term's form.
abbrev pub is_zero_by_form : Tree → ℕ → Bool
-- the zero bytes of a constant
is_zero_by_form (Const c) k = nat_eq (byte_of k c) 0
-- all but the lowest of a byte, and of a truth value
is_zero_by_form (Input i) k = nat_lt 0 k
is_zero_by_form (Apply Byte a b) k = nat_lt 0 k
is_zero_by_form (Apply Eq a b) k = nat_lt 0 k
is_zero_by_form (Apply (Alu Slt) a b) k = nat_lt 0 k
is_zero_by_form (Apply (Alu Sltu) a b) k = nat_lt 0 k
-- the upper two of a pair of bytes, and those of the two that are zero
is_zero_by_form (Apply Pair a b) k =
    nat_lt 1 k || (nat_eq k 0 && is_zero_by_form a 0) || (nat_eq k 1 && is_zero_by_form b 0)
-- those of the lower halves of a and b
is_zero_by_form (Apply Half a b) k =
    (nat_lt k 2 && is_zero_by_form a k) || (nat_lt 1 k && is_zero_by_form b (k - 2))
-- those of either operand
is_zero_by_form (Apply (Alu And) a b) k = is_zero_by_form a k || is_zero_by_form b k
-- those of both operands
is_zero_by_form (Apply (Alu Or) a b) k = is_zero_by_form a k && is_zero_by_form b k
is_zero_by_form (Apply (Alu Xor) a b) k = is_zero_by_form a k && is_zero_by_form b k
-- those that are shifted in, and those that were zero where they come from
is_zero_by_form (Apply (Alu Sll) a (Const c)) k =
    is_byte_shift c && (nat_lt k (c / 8) || is_zero_by_form a (k - c / 8))
is_zero_by_form (Apply (Alu Srl) a (Const c)) k =
    is_byte_shift c && (nat_lt 3 (k + c / 8) || is_zero_by_form a (k + c / 8))
-- none of any other
is_zero_by_form (Apply op a b) k = false

-- k is the number of a byte, and that byte of the term is zero
abbrev pub is_zero_byte : Tree → ℕ → Bool
is_zero_byte t k = nat_lt k 4 && is_zero_by_form t k

-- all bytes but the lowest are zero
abbrev pub is_one_byte : Tree → Bool
is_one_byte t = is_zero_byte t 1 && is_zero_byte t 2 && is_zero_byte t 3

-- the two upper bytes are zero
abbrev pub is_half_word : Tree → Bool
is_half_word t = is_zero_byte t 2 && is_zero_byte t 3
