-- Rules for equality.
use Rattle.std.specs.Prelude.{ℕ, ◌+◌, ◌-◌, ◌%◌, ◌^◌, Bool, ◌&&◌, not, nat_eq, nat_lt, bit_xor, Some, None}
use Rattle.rv_word.specs.declared.AluOp.TheVariants.{Add, Sub, Xor}
use Rattle.term_model.specs.declared.Op.TheVariants.{Alu, Eq}
use Rattle.term_model.specs.Tree.{Tree, Const, Apply}
use Rattle.rv_word.specs.Word.{byte_of}
use Rattle.term_model.specs.ZeroBytes.{is_zero_byte}
use Rattle.term_model.specs.Truth.{is_truth}
use Rattle.normal_form.specs.Plan.{Is, Make, Rule, only_if, with_constant, at_some_byte}

-- Eq(Xor(x, c), d) is Eq(x, c xor d)
abbrev pub xor_across_equality : Rule
xor_across_equality Eq (Apply (Alu Xor) x (Const c)) (Const d) = Some (with_constant Eq x (bit_xor c d))
xor_across_equality op a b = None

-- Eq(Add(x, c), d) is Eq(x, d - c)
abbrev pub add_across_equality : Rule
add_across_equality Eq (Apply (Alu Add) x (Const c)) (Const d) = Some (with_constant Eq x ((d + (2 ^ 32 - c)) % 2 ^ 32))
add_across_equality op a b = None

-- Eq(Xor(x, y), 0) and Eq(Sub(x, y), 0) are Eq(x, y)
abbrev pub difference_is_zero : Rule
difference_is_zero Eq (Apply (Alu Xor) x y) (Const d) = only_if (nat_eq d 0) (Make Eq (Is x) (Is y))
difference_is_zero Eq (Apply (Alu Sub) x y) (Const d) = only_if (nat_eq d 0) (Make Eq (Is x) (Is y))
difference_is_zero op a b = None

-- Eq(t, 1) is t, where t is a truth term
abbrev pub truth_is_one : Rule
truth_is_one Eq t (Const c) = only_if (is_truth t && nat_eq c 1) (Is t)
truth_is_one op a b = None

-- Eq(Eq(t, 0), 0) is t, where t is a truth term
abbrev pub double_negation : Rule
double_negation Eq (Apply Eq t (Const c)) (Const d) = only_if (is_truth t && (nat_eq c 0 && nat_eq d 0)) (Is t)
double_negation op a b = None

-- Eq(t, c) is 0, where t is a truth term and c is above 1
abbrev pub truth_is_no_larger : Rule
truth_is_no_larger Eq t (Const c) = only_if (is_truth t && nat_lt 1 c) (Is (Const 0))
truth_is_no_larger op a b = None

-- byte k is zero in the term, and not in the constant
abbrev pub differs_at_byte : Tree → ℕ → ℕ → Bool
differs_at_byte x c k = not (nat_eq (byte_of k c) 0) && is_zero_byte x k

-- Eq(x, c) is 0, where a byte that is zero in x isn't zero in c
abbrev pub zero_byte_differs : Rule
zero_byte_differs Eq x (Const c) = only_if (at_some_byte (differs_at_byte x c)) (Is (Const 0))
zero_byte_differs op a b = None
