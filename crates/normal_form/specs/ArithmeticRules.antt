-- Rules for constants, arithmetic, bitwise operations and shifts.
use Rattle.std.specs.Prelude.{ℕ, ◌+◌, ◌-◌, ◌%◌, ◌^◌, Bool, true, false, ◌&&◌, ◌||◌, not, nat_eq, nat_lt, nat_le, bit_and, bit_or, bit_xor, Some, None}
use Rattle.rv_word.specs.declared.AluOp.TheVariants.{Add, Sub, Sll, Slt, Sltu, Xor, Srl, Sra, Or, And, Mul, Mulh, Mulhsu, Mulhu, Div, Divu, Rem, Remu}
use Rattle.term_model.specs.declared.Op.{Op}
use Rattle.term_model.specs.declared.Op.TheVariants.{Alu, Eq}
use Rattle.term_model.specs.Tree.{Tree, Const, Apply, is_const}
use Rattle.term_model.specs.Value.{op_value}
use Rattle.rv_word.specs.Word.{byte_of}
use Rattle.term_model.specs.ZeroBytes.{is_zero_byte}
use Rattle.term_model.specs.Same.{same_tree}
use Rattle.normal_form.specs.Plan.{Is, Rule, only_if, with_constant, at_every_byte}

-- an operation on two constants is the constant of the value
abbrev pub fold_constants : Rule
fold_constants op (Const c) (Const d) = Some (Is (Const (op_value op c d)))
fold_constants op a b = None

-- the operation is the same with its operands turned
abbrev pub commutes : Op → Bool
commutes (Alu Add) = true
commutes (Alu Mul) = true
commutes (Alu Mulh) = true
commutes (Alu Mulhu) = true
commutes (Alu And) = true
commutes (Alu Or) = true
commutes (Alu Xor) = true
commutes Eq = true
commutes op = false

-- op(c, x) is op(x, c), where the operation commutes and x is no constant
abbrev pub constant_to_the_right : Rule
constant_to_the_right op (Const c) x = only_if (commutes op && not (is_const x)) (with_constant op x c)
constant_to_the_right op a b = None

-- a shift to the left or to the right
abbrev pub is_shift : Op → Bool
is_shift (Alu Sll) = true
is_shift (Alu Srl) = true
is_shift (Alu Sra) = true
is_shift op = false

-- a shift by c above 31 is the shift by c mod 32
abbrev pub reduce_shift_amount : Rule
reduce_shift_amount op x (Const c) = only_if (is_shift op && nat_lt 31 c) (with_constant op x (c % 32))
reduce_shift_amount op a b = None

-- the operation with 0 leaves the other operand
abbrev pub keeps_with_zero : Op → Bool
keeps_with_zero (Alu Add) = true
keeps_with_zero (Alu Sub) = true
keeps_with_zero (Alu Xor) = true
keeps_with_zero (Alu Or) = true
keeps_with_zero (Alu Sll) = true
keeps_with_zero (Alu Srl) = true
keeps_with_zero (Alu Sra) = true
keeps_with_zero op = false

-- Add, Sub, Xor, Or and the shifts of (x, 0) are x
abbrev pub drop_zero : Rule
drop_zero op x (Const c) = only_if (keeps_with_zero op && nat_eq c 0) (Is x)
drop_zero op a b = None

-- Sub(x, c) is Add(x, -c)
abbrev pub subtract_by_adding : Rule
subtract_by_adding (Alu Sub) x (Const c) = Some (with_constant (Alu Add) x ((2 ^ 32 - c) % 2 ^ 32))
subtract_by_adding op a b = None

-- Add(Add(x, c), d) is Add(x, c + d)
abbrev pub combine_added_constants : Rule
combine_added_constants (Alu Add) (Apply (Alu Add) x (Const c)) (Const d) = Some (with_constant (Alu Add) x ((c + d) % 2 ^ 32))
combine_added_constants op a b = None

-- the operation with 0 as its second operand is 0
abbrev pub is_zero_with_zero : Op → Bool
is_zero_with_zero (Alu And) = true
is_zero_with_zero (Alu Mul) = true
is_zero_with_zero (Alu Mulh) = true
is_zero_with_zero (Alu Mulhu) = true
is_zero_with_zero (Alu Mulhsu) = true
is_zero_with_zero op = false

-- the constant 0
abbrev pub is_zero : Tree → Bool
is_zero (Const c) = nat_eq c 0
is_zero t = false

-- And, Mul, Mulh, Mulhu and Mulhsu of (x, 0) are 0, and so is Mulhsu(0, x)
abbrev pub absorb_zero : Rule
absorb_zero (Alu Mulhsu) a b = only_if (is_zero a || is_zero b) (Is (Const 0))
absorb_zero op a b = only_if (is_zero_with_zero op && is_zero b) (Is (Const 0))

-- And(x, FFFFFFFF), Mul(x, 1), Div(x, 1) and Divu(x, 1) are x
abbrev pub drop_neutral_constant : Rule
drop_neutral_constant (Alu And) x (Const c) = only_if (nat_eq c (2 ^ 32 - 1)) (Is x)
drop_neutral_constant (Alu Mul) x (Const c) = only_if (nat_eq c 1) (Is x)
drop_neutral_constant (Alu Div) x (Const c) = only_if (nat_eq c 1) (Is x)
drop_neutral_constant (Alu Divu) x (Const c) = only_if (nat_eq c 1) (Is x)
drop_neutral_constant op a b = None

-- Rem(x, 1) and Remu(x, 1) are 0
abbrev pub remainder_by_one : Rule
remainder_by_one (Alu Rem) x (Const c) = only_if (nat_eq c 1) (Is (Const 0))
remainder_by_one (Alu Remu) x (Const c) = only_if (nat_eq c 1) (Is (Const 0))
remainder_by_one op a b = None

-- Or(x, FFFFFFFF) is FFFFFFFF
abbrev pub or_with_all_ones : Rule
or_with_all_ones (Alu Or) x (Const c) = only_if (nat_eq c (2 ^ 32 - 1)) (Is (Const (2 ^ 32 - 1)))
or_with_all_ones op a b = None

-- And(x, x) and Or(x, x) are x
abbrev pub drop_repeated_operand : Rule
drop_repeated_operand (Alu And) a b = only_if (same_tree a b) (Is a)
drop_repeated_operand (Alu Or) a b = only_if (same_tree a b) (Is a)
drop_repeated_operand op a b = None

-- Xor(x, x), Sub(x, x), Slt(x, x) and Sltu(x, x) are 0
abbrev pub cancel_repeated_operand : Rule
cancel_repeated_operand (Alu Xor) a b = only_if (same_tree a b) (Is (Const 0))
cancel_repeated_operand (Alu Sub) a b = only_if (same_tree a b) (Is (Const 0))
cancel_repeated_operand (Alu Slt) a b = only_if (same_tree a b) (Is (Const 0))
cancel_repeated_operand (Alu Sltu) a b = only_if (same_tree a b) (Is (Const 0))
cancel_repeated_operand op a b = None

-- Eq(x, x) is 1
abbrev pub equal_to_itself : Rule
equal_to_itself Eq a b = only_if (same_tree a b) (Is (Const 1))
equal_to_itself op a b = None

-- And(And(x, c), d) is And(x, c and d), Or(Or(x, c), d) is Or(x, c or d), Xor(Xor(x, c), d) is Xor(x, c xor d)
abbrev pub combine_bitwise_constants : Rule
combine_bitwise_constants (Alu And) (Apply (Alu And) x (Const c)) (Const d) = Some (with_constant (Alu And) x (bit_and c d))
combine_bitwise_constants (Alu Or) (Apply (Alu Or) x (Const c)) (Const d) = Some (with_constant (Alu Or) x (bit_or c d))
combine_bitwise_constants (Alu Xor) (Apply (Alu Xor) x (Const c)) (Const d) = Some (with_constant (Alu Xor) x (bit_xor c d))
combine_bitwise_constants op a b = None

-- byte k of the mask is FF, or byte k of the term is zero
abbrev pub passes_byte : Tree → ℕ → ℕ → Bool
passes_byte x c k = nat_eq (byte_of k c) 255 || is_zero_byte x k

-- And(x, c) is x, where the mask c passes each byte that may not be zero
abbrev pub drop_mask : Rule
drop_mask (Alu And) x (Const c) = only_if (at_every_byte (passes_byte x c)) (Is x)
drop_mask op a b = None

-- Sll(Sll(x, c), d) is Sll(x, c + d) and Srl(Srl(x, c), d) is Srl(x, c + d), for c + d below 32
abbrev pub combine_shifts : Rule
combine_shifts (Alu Sll) (Apply (Alu Sll) x (Const c)) (Const d) = only_if (nat_lt (c + d) 32) (with_constant (Alu Sll) x (c + d))
combine_shifts (Alu Srl) (Apply (Alu Srl) x (Const c)) (Const d) = only_if (nat_lt (c + d) 32) (with_constant (Alu Srl) x (c + d))
combine_shifts op a b = None

-- Sll(Sll(x, c), d) and Srl(Srl(x, c), d) are 0, for c + d of at least 32
abbrev pub shift_all_out : Rule
shift_all_out (Alu Sll) (Apply (Alu Sll) x (Const c)) (Const d) = only_if (nat_le 32 (c + d)) (Is (Const 0))
shift_all_out (Alu Srl) (Apply (Alu Srl) x (Const c)) (Const d) = only_if (nat_le 32 (c + d)) (Is (Const 0))
shift_all_out op a b = None
