-- What the rules make of normal operands is built of normal terms.
use Rattle.std.proofs.Common.{◌≡◌, ◌+◌, ◌-◌, ◌/◌, ◌%◌, ◌^◌, ◌<◌, true, not, ◌&&◌, ◌||◌, nat_eq, nat_lt, nat_le, arith}
use Rattle.std.specs.Prelude.{IfSome}
use Rattle.rv_word.specs.declared.AluOp.TheVariants.{Add, Sub, Sll, Slt, Sltu, Xor, Srl, Sra, Or, And, Mul, Mulhsu, Div, Divu, Rem, Remu}
use Rattle.term_model.specs.declared.Op.{Op}
use Rattle.term_model.specs.declared.Op.TheVariants.{Alu, Eq, Byte, Pair, Half}
use Rattle.term_model.specs.Tree.{Tree, Const, Apply, is_const}
use Rattle.rv_word.specs.Word.{byte_of}
use Rattle.term_model.specs.ZeroBytes.{is_zero_byte, is_byte_shift, is_one_byte, is_half_word}
use Rattle.term_model.specs.Truth.{is_truth}
use Rattle.term_model.specs.Same.{same_tree}
use Rattle.term_model.proofs.WordLemmas.{op_below, alu_below}
use Rattle.term_model.proofs.SameLemmas.{both}
use Rattle.normal_form.specs.Plan.{Plan, Is, Make, only_if, with_constant, at_every_byte, at_some_byte}
use Rattle.normal_form.specs.ArithmeticRules.{fold_constants, constant_to_the_right, reduce_shift_amount, drop_zero, subtract_by_adding, combine_added_constants, absorb_zero, drop_neutral_constant, remainder_by_one, or_with_all_ones, drop_repeated_operand, cancel_repeated_operand, equal_to_itself, combine_bitwise_constants, drop_mask, combine_shifts, shift_all_out, commutes, is_shift, keeps_with_zero, is_zero_with_zero, is_zero, passes_byte}
use Rattle.normal_form.specs.EqualityRules.{xor_across_equality, add_across_equality, difference_is_zero, truth_is_one, double_negation, truth_is_no_larger, zero_byte_differs, differs_at_byte}
use Rattle.normal_form.specs.OrderRules.{less_than_zero, less_than_one, more_than_zero, one_byte_is_less}
use Rattle.normal_form.specs.ByteRules.{byte_is_zero, byte_of_one_byte, byte_of_pair, byte_of_half, byte_beside_zero, byte_under_mask, byte_of_left_shift, byte_of_right_shift, pair_with_zero, half_with_zero, pair_of_own_bytes, half_of_own_bytes, is_byte_of}
use Rattle.normal_form.specs.Rules.{first_fit, first_rule, ordering_rules, arithmetic_rules, bitwise_rules, equality_rules, order_rules, byte_rules, joining_rules}
use Rattle.normal_form.specs.Normal.{IsNormal}
use Rattle.term_model.specs.ByteNumber.{TakesByteNumber}
use Rattle.normal_form.specs.Norm.{carried_out}
use Rattle.normal_form.proofs.PlanLemmas.{when, either, first_fit_holds}
use Rattle.normal_form.proofs.ValueLemmas.{less_is, at_most_is}

pub record AreNormal (op : Op) (a b : Tree) : Type 0 where
  pub first : IsNormal a
  pub second : IsNormal b
  pub byte : TakesByteNumber op b

-- the second operand of a plan names a byte, where the operation takes one
abbrev pub PlansByteNumber : Op → Plan → Type 0
PlansByteNumber Byte (Is t) = TakesByteNumber Byte t
PlansByteNumber Byte (Make op p q) = ⊥
PlansByteNumber op p = Unit {0}

-- each term of the plan is normal
abbrev pub IsFine : Plan → Type 0
IsFine (Is t) = IsNormal t
IsFine (Make op p q) = IsFine p × IsFine q × PlansByteNumber op q

abbrev pub Fine : Op → Tree → Tree → Plan → Type 0
Fine op a b p = IsFine p

pub planned_byte : (made : Op → Tree → Tree → Tree) (op : Op) (q : Plan) → PlansByteNumber op q → TakesByteNumber op (carried_out made q)
planned_byte made Byte (Is t) h = h
planned_byte made Byte (Make op p q) h = absurd h
planned_byte made op q h = tt

-- no operation that takes a byte number commutes or shifts
commuting_byte : (op : Op) (t : Tree) → commutes op ≡ true → PlansByteNumber op (Is t)
commuting_byte Byte t e = cc
commuting_byte op t e = tt

shifting_byte : (op : Op) (t : Tree) → is_shift op ≡ true → PlansByteNumber op (Is t)
shifting_byte Byte t e = cc
shifting_byte op t e = tt

pub fold_constants_fine : (op : Op) (a b : Tree) → AreNormal op a b → IfSome (fold_constants op a b) IsFine
fold_constants_fine op (Const c) (Const d) g = op_below op c d g.first g.second
fold_constants_fine op a b g = tt

pub constant_to_the_right_fine : (op : Op) (a b : Tree) → AreNormal op a b → IfSome (constant_to_the_right op a b) IsFine
constant_to_the_right_fine op (Const c) x g = when IsFine (commutes op && not (is_const x)) (with_constant op x c) (λ h. (g.second, g.first, commuting_byte op (Const c) (both (commutes op) (not (is_const x)) h).0))
constant_to_the_right_fine op a b g = tt

pub reduce_shift_amount_fine : (op : Op) (a b : Tree) → AreNormal op a b → IfSome (reduce_shift_amount op a b) IsFine
reduce_shift_amount_fine op x (Const c) g = when IsFine (is_shift op && nat_lt 31 c) (with_constant op x (c % 32)) (λ h. (g.first, omega arith, shifting_byte op (Const (c % 32)) (both (is_shift op) (nat_lt 31 c) h).0))
reduce_shift_amount_fine op a b g = tt

pub drop_zero_fine : (op : Op) (a b : Tree) → AreNormal op a b → IfSome (drop_zero op a b) IsFine
drop_zero_fine op x (Const c) g = when IsFine (keeps_with_zero op && nat_eq c 0) (Is x) (λ h. g.first)
drop_zero_fine op a b g = tt

pub subtract_by_adding_fine : (op : Op) (a b : Tree) → AreNormal op a b → IfSome (subtract_by_adding op a b) IsFine
subtract_by_adding_fine (Alu Sub) x (Const c) g = (g.first, omega arith, tt)
subtract_by_adding_fine op a b g = tt

pub combine_added_constants_fine : (op : Op) (a b : Tree) → AreNormal op a b → IfSome (combine_added_constants op a b) IsFine
combine_added_constants_fine (Alu Add) (Apply (Alu Add) x (Const c)) (Const d) g = (g.first.0, omega arith, tt)
combine_added_constants_fine op a b g = tt

pub absorb_zero_fine : (op : Op) (a b : Tree) → AreNormal op a b → IfSome (absorb_zero op a b) IsFine
absorb_zero_fine (Alu Mulhsu) a b g = when IsFine (is_zero a || is_zero b) (Is (Const 0)) (λ h. omega arith)
absorb_zero_fine op a b g = when IsFine (is_zero_with_zero op && is_zero b) (Is (Const 0)) (λ h. omega arith)

pub drop_neutral_constant_fine : (op : Op) (a b : Tree) → AreNormal op a b → IfSome (drop_neutral_constant op a b) IsFine
drop_neutral_constant_fine (Alu And) x (Const c) g = when IsFine (nat_eq c (2 ^ 32 - 1)) (Is x) (λ h. g.first)
drop_neutral_constant_fine (Alu Mul) x (Const c) g = when IsFine (nat_eq c 1) (Is x) (λ h. g.first)
drop_neutral_constant_fine (Alu Div) x (Const c) g = when IsFine (nat_eq c 1) (Is x) (λ h. g.first)
drop_neutral_constant_fine (Alu Divu) x (Const c) g = when IsFine (nat_eq c 1) (Is x) (λ h. g.first)
drop_neutral_constant_fine op a b g = tt

pub remainder_by_one_fine : (op : Op) (a b : Tree) → AreNormal op a b → IfSome (remainder_by_one op a b) IsFine
remainder_by_one_fine (Alu Rem) x (Const c) g = when IsFine (nat_eq c 1) (Is (Const 0)) (λ h. omega arith)
remainder_by_one_fine (Alu Remu) x (Const c) g = when IsFine (nat_eq c 1) (Is (Const 0)) (λ h. omega arith)
remainder_by_one_fine op a b g = tt

pub or_with_all_ones_fine : (op : Op) (a b : Tree) → AreNormal op a b → IfSome (or_with_all_ones op a b) IsFine
or_with_all_ones_fine (Alu Or) x (Const c) g = when IsFine (nat_eq c (2 ^ 32 - 1)) (Is (Const (2 ^ 32 - 1))) (λ h. omega arith)
or_with_all_ones_fine op a b g = tt

pub drop_repeated_operand_fine : (op : Op) (a b : Tree) → AreNormal op a b → IfSome (drop_repeated_operand op a b) IsFine
drop_repeated_operand_fine (Alu And) a b g = when IsFine (same_tree a b) (Is a) (λ h. g.first)
drop_repeated_operand_fine (Alu Or) a b g = when IsFine (same_tree a b) (Is a) (λ h. g.first)
drop_repeated_operand_fine op a b g = tt

pub cancel_repeated_operand_fine : (op : Op) (a b : Tree) → AreNormal op a b → IfSome (cancel_repeated_operand op a b) IsFine
cancel_repeated_operand_fine (Alu Xor) a b g = when IsFine (same_tree a b) (Is (Const 0)) (λ h. omega arith)
cancel_repeated_operand_fine (Alu Sub) a b g = when IsFine (same_tree a b) (Is (Const 0)) (λ h. omega arith)
cancel_repeated_operand_fine (Alu Slt) a b g = when IsFine (same_tree a b) (Is (Const 0)) (λ h. omega arith)
cancel_repeated_operand_fine (Alu Sltu) a b g = when IsFine (same_tree a b) (Is (Const 0)) (λ h. omega arith)
cancel_repeated_operand_fine op a b g = tt

pub equal_to_itself_fine : (op : Op) (a b : Tree) → AreNormal op a b → IfSome (equal_to_itself op a b) IsFine
equal_to_itself_fine Eq a b g = when IsFine (same_tree a b) (Is (Const 1)) (λ h. omega arith)
equal_to_itself_fine op a b g = tt

pub combine_bitwise_constants_fine : (op : Op) (a b : Tree) → AreNormal op a b → IfSome (combine_bitwise_constants op a b) IsFine
combine_bitwise_constants_fine (Alu And) (Apply (Alu And) x (Const c)) (Const d) g = (g.first.0, alu_below And c d g.first.1 g.second, tt)
combine_bitwise_constants_fine (Alu Or) (Apply (Alu Or) x (Const c)) (Const d) g = (g.first.0, alu_below Or c d g.first.1 g.second, tt)
combine_bitwise_constants_fine (Alu Xor) (Apply (Alu Xor) x (Const c)) (Const d) g = (g.first.0, alu_below Xor c d g.first.1 g.second, tt)
combine_bitwise_constants_fine op a b g = tt

pub drop_mask_fine : (op : Op) (a b : Tree) → AreNormal op a b → IfSome (drop_mask op a b) IsFine
drop_mask_fine (Alu And) x (Const c) g = when IsFine (at_every_byte (passes_byte x c)) (Is x) (λ h. g.first)
drop_mask_fine op a b g = tt

pub combine_shifts_fine : (op : Op) (a b : Tree) → AreNormal op a b → IfSome (combine_shifts op a b) IsFine
combine_shifts_fine (Alu Sll) (Apply (Alu Sll) x (Const c)) (Const d) g = when IsFine (nat_lt (c + d) 32) (with_constant (Alu Sll) x (c + d)) (λ h. (g.first.0, omega (arith, less_is (c + d) 32 h), tt))
combine_shifts_fine (Alu Srl) (Apply (Alu Srl) x (Const c)) (Const d) g = when IsFine (nat_lt (c + d) 32) (with_constant (Alu Srl) x (c + d)) (λ h. (g.first.0, omega (arith, less_is (c + d) 32 h), tt))
combine_shifts_fine op a b g = tt

pub shift_all_out_fine : (op : Op) (a b : Tree) → AreNormal op a b → IfSome (shift_all_out op a b) IsFine
shift_all_out_fine (Alu Sll) (Apply (Alu Sll) x (Const c)) (Const d) g = when IsFine (nat_le 32 (c + d)) (Is (Const 0)) (λ h. omega arith)
shift_all_out_fine (Alu Srl) (Apply (Alu Srl) x (Const c)) (Const d) g = when IsFine (nat_le 32 (c + d)) (Is (Const 0)) (λ h. omega arith)
shift_all_out_fine op a b g = tt

pub xor_across_equality_fine : (op : Op) (a b : Tree) → AreNormal op a b → IfSome (xor_across_equality op a b) IsFine
xor_across_equality_fine Eq (Apply (Alu Xor) x (Const c)) (Const d) g = (g.first.0, alu_below Xor c d g.first.1 g.second, tt)
xor_across_equality_fine op a b g = tt

pub add_across_equality_fine : (op : Op) (a b : Tree) → AreNormal op a b → IfSome (add_across_equality op a b) IsFine
add_across_equality_fine Eq (Apply (Alu Add) x (Const c)) (Const d) g = (g.first.0, omega arith, tt)
add_across_equality_fine op a b g = tt

pub difference_is_zero_fine : (op : Op) (a b : Tree) → AreNormal op a b → IfSome (difference_is_zero op a b) IsFine
difference_is_zero_fine Eq (Apply (Alu Xor) x y) (Const d) g = when IsFine (nat_eq d 0) (Make Eq (Is x) (Is y)) (λ h. (g.first.0, g.first.1, tt))
difference_is_zero_fine Eq (Apply (Alu Sub) x y) (Const d) g = when IsFine (nat_eq d 0) (Make Eq (Is x) (Is y)) (λ h. (g.first.0, g.first.1, tt))
difference_is_zero_fine op a b g = tt

pub truth_is_one_fine : (op : Op) (a b : Tree) → AreNormal op a b → IfSome (truth_is_one op a b) IsFine
truth_is_one_fine Eq t (Const c) g = when IsFine (is_truth t && nat_eq c 1) (Is t) (λ h. g.first)
truth_is_one_fine op a b g = tt

pub double_negation_fine : (op : Op) (a b : Tree) → AreNormal op a b → IfSome (double_negation op a b) IsFine
double_negation_fine Eq (Apply Eq t (Const c)) (Const d) g = when IsFine (is_truth t && (nat_eq c 0 && nat_eq d 0)) (Is t) (λ h. g.first.0)
double_negation_fine op a b g = tt

pub truth_is_no_larger_fine : (op : Op) (a b : Tree) → AreNormal op a b → IfSome (truth_is_no_larger op a b) IsFine
truth_is_no_larger_fine Eq t (Const c) g = when IsFine (is_truth t && nat_lt 1 c) (Is (Const 0)) (λ h. omega arith)
truth_is_no_larger_fine op a b g = tt

pub zero_byte_differs_fine : (op : Op) (a b : Tree) → AreNormal op a b → IfSome (zero_byte_differs op a b) IsFine
zero_byte_differs_fine Eq x (Const c) g = when IsFine (at_some_byte (differs_at_byte x c)) (Is (Const 0)) (λ h. omega arith)
zero_byte_differs_fine op a b g = tt

pub less_than_zero_fine : (op : Op) (a b : Tree) → AreNormal op a b → IfSome (less_than_zero op a b) IsFine
less_than_zero_fine (Alu Sltu) x (Const c) g = when IsFine (nat_eq c 0) (Is (Const 0)) (λ h. omega arith)
less_than_zero_fine op a b g = tt

pub less_than_one_fine : (op : Op) (a b : Tree) → AreNormal op a b → IfSome (less_than_one op a b) IsFine
less_than_one_fine (Alu Sltu) x (Const c) g = when IsFine (nat_eq c 1) (with_constant Eq x 0) (λ h. (g.first, omega arith, tt))
less_than_one_fine op a b g = tt

pub more_than_zero_fine : (op : Op) (a b : Tree) → AreNormal op a b → IfSome (more_than_zero op a b) IsFine
more_than_zero_fine (Alu Sltu) (Const c) x g = when IsFine (nat_eq c 0) (Make Eq (with_constant Eq x 0) (Is (Const 0))) (λ h. ((g.second, omega arith, tt), omega arith, tt))
more_than_zero_fine op a b g = tt

pub one_byte_is_less_fine : (op : Op) (a b : Tree) → AreNormal op a b → IfSome (one_byte_is_less op a b) IsFine
one_byte_is_less_fine (Alu Sltu) x (Const c) g = when IsFine (is_one_byte x && nat_lt 255 c) (Is (Const 1)) (λ h. omega arith)
one_byte_is_less_fine op a b g = tt

pub byte_is_zero_fine : (op : Op) (a b : Tree) → AreNormal op a b → IfSome (byte_is_zero op a b) IsFine
byte_is_zero_fine Byte x (Const k) g = when IsFine (is_zero_byte x k) (Is (Const 0)) (λ h. omega arith)
byte_is_zero_fine op a b g = tt

pub byte_of_one_byte_fine : (op : Op) (a b : Tree) → AreNormal op a b → IfSome (byte_of_one_byte op a b) IsFine
byte_of_one_byte_fine Byte x (Const k) g = when IsFine (nat_eq k 0 && is_one_byte x) (Is x) (λ h. g.first)
byte_of_one_byte_fine op a b g = tt

pub byte_of_pair_fine : (op : Op) (a b : Tree) → AreNormal op a b → IfSome (byte_of_pair op a b) IsFine
byte_of_pair_fine Byte (Apply Pair x y) (Const k) g =
    either IsFine (only_if (nat_eq k 0) (with_constant Byte x 0)) (only_if (nat_eq k 1) (with_constant Byte y 0))
    (when IsFine (nat_eq k 0) (with_constant Byte x 0) (λ h. (g.first.0, omega arith, omega arith)))
    (when IsFine (nat_eq k 1) (with_constant Byte y 0) (λ h. (g.first.1, omega arith, omega arith)))
byte_of_pair_fine op a b g = tt

pub byte_of_half_fine : (op : Op) (a b : Tree) → AreNormal op a b → IfSome (byte_of_half op a b) IsFine
byte_of_half_fine Byte (Apply Half x y) (Const k) g =
    let l : k < 4 = g.byte in
    either IsFine (only_if (nat_lt k 2) (with_constant Byte x k)) (only_if (nat_le 2 k) (with_constant Byte y (k - 2)))
    (when IsFine (nat_lt k 2) (with_constant Byte x k) (λ h. (g.first.0, omega arith, l)))
    (when IsFine (nat_le 2 k) (with_constant Byte y (k - 2)) (λ h. (g.first.1, omega arith, omega arith)))
byte_of_half_fine op a b g = tt

pub byte_beside_zero_fine : (op : Op) (a b : Tree) → AreNormal op a b → IfSome (byte_beside_zero op a b) IsFine
byte_beside_zero_fine Byte (Apply (Alu Or) x y) (Const k) g =
    either IsFine (only_if (is_zero_byte y k) (with_constant Byte x k)) (only_if (is_zero_byte x k) (with_constant Byte y k))
    (when IsFine (is_zero_byte y k) (with_constant Byte x k) (λ h. (g.first.0, g.second, g.byte)))
    (when IsFine (is_zero_byte x k) (with_constant Byte y k) (λ h. (g.first.1, g.second, g.byte)))
byte_beside_zero_fine Byte (Apply (Alu Xor) x y) (Const k) g =
    either IsFine (only_if (is_zero_byte y k) (with_constant Byte x k)) (only_if (is_zero_byte x k) (with_constant Byte y k))
    (when IsFine (is_zero_byte y k) (with_constant Byte x k) (λ h. (g.first.0, g.second, g.byte)))
    (when IsFine (is_zero_byte x k) (with_constant Byte y k) (λ h. (g.first.1, g.second, g.byte)))
byte_beside_zero_fine op a b g = tt

pub byte_under_mask_fine : (op : Op) (a b : Tree) → AreNormal op a b → IfSome (byte_under_mask op a b) IsFine
byte_under_mask_fine Byte (Apply (Alu And) x (Const c)) (Const k) g = when IsFine (nat_eq (byte_of k c) 255) (with_constant Byte x k) (λ h. (g.first.0, g.second, g.byte))
byte_under_mask_fine op a b g = tt

pub byte_of_left_shift_fine : (op : Op) (a b : Tree) → AreNormal op a b → IfSome (byte_of_left_shift op a b) IsFine
byte_of_left_shift_fine Byte (Apply (Alu Sll) x (Const c)) (Const k) g =
    let l : k < 4 = g.byte in
    when IsFine (is_byte_shift c && nat_le (c / 8) k) (with_constant Byte x (k - c / 8)) (λ h. (g.first.0, omega arith, omega arith))
byte_of_left_shift_fine op a b g = tt

pub byte_of_right_shift_fine : (op : Op) (a b : Tree) → AreNormal op a b → IfSome (byte_of_right_shift op a b) IsFine
byte_of_right_shift_fine Byte (Apply (Alu Srl) x (Const c)) (Const k) g =
    when IsFine (is_byte_shift c && nat_le (k + c / 8) 3) (with_constant Byte x (k + c / 8)) (λ h. let m = at_most_is (k + c / 8) 3 (both (is_byte_shift c) (nat_le (k + c / 8) 3) h).1 in (g.first.0, omega arith, omega arith))
byte_of_right_shift_fine Byte (Apply (Alu Sra) x (Const c)) (Const k) g =
    when IsFine (is_byte_shift c && nat_le (k + c / 8) 3) (with_constant Byte x (k + c / 8)) (λ h. let m = at_most_is (k + c / 8) 3 (both (is_byte_shift c) (nat_le (k + c / 8) 3) h).1 in (g.first.0, omega arith, omega arith))
byte_of_right_shift_fine op a b g = tt

pub pair_with_zero_fine : (op : Op) (a b : Tree) → AreNormal op a b → IfSome (pair_with_zero op a b) IsFine
pair_with_zero_fine Pair x (Const c) g = when IsFine (nat_eq c 0) (with_constant Byte x 0) (λ h. (g.first, omega arith, omega arith))
pair_with_zero_fine op a b g = tt

pub half_with_zero_fine : (op : Op) (a b : Tree) → AreNormal op a b → IfSome (half_with_zero op a b) IsFine
half_with_zero_fine Half x (Const c) g = when IsFine (nat_eq c 0 && is_half_word x) (Is x) (λ h. g.first)
half_with_zero_fine op a b g = tt

pub pair_of_own_bytes_fine : (op : Op) (a b : Tree) → AreNormal op a b → IfSome (pair_of_own_bytes op a b) IsFine
pair_of_own_bytes_fine Pair (Apply Byte x j) b g = when IsFine ((is_byte_of x 0 (Apply Byte x j) && is_byte_of x 1 b) && is_half_word x) (Is x) (λ h. g.first.0)
pair_of_own_bytes_fine op a b g = tt

pub half_of_own_bytes_fine : (op : Op) (a b : Tree) → AreNormal op a b → IfSome (half_of_own_bytes op a b) IsFine
half_of_own_bytes_fine Half (Apply Pair (Apply Byte x j) q) (Apply Pair r s) g =
    when IsFine ((is_byte_of x 0 (Apply Byte x j) && is_byte_of x 1 q) && (is_byte_of x 2 r && is_byte_of x 3 s)) (Is x) (λ h. g.first.0.0)
half_of_own_bytes_fine op a b g = tt

ordering_rules_fine : (op : Op) (a b : Tree) → AreNormal op a b → IfSome (first_fit ordering_rules op a b) IsFine
unfolding ordering_rules
ordering_rules_fine =
    first_fit_holds AreNormal Fine ordering_rules
    (fold_constants_fine, (constant_to_the_right_fine, (reduce_shift_amount_fine, tt)))

arithmetic_rules_fine : (op : Op) (a b : Tree) → AreNormal op a b → IfSome (first_fit arithmetic_rules op a b) IsFine
unfolding arithmetic_rules
arithmetic_rules_fine =
    first_fit_holds AreNormal Fine arithmetic_rules
    (drop_zero_fine, (subtract_by_adding_fine, (combine_added_constants_fine, (absorb_zero_fine, (drop_neutral_constant_fine, (remainder_by_one_fine, (or_with_all_ones_fine, tt)))))))

bitwise_rules_fine : (op : Op) (a b : Tree) → AreNormal op a b → IfSome (first_fit bitwise_rules op a b) IsFine
unfolding bitwise_rules
bitwise_rules_fine =
    first_fit_holds AreNormal Fine bitwise_rules
    (drop_repeated_operand_fine, (cancel_repeated_operand_fine, (equal_to_itself_fine, (combine_bitwise_constants_fine, (drop_mask_fine, (combine_shifts_fine, (shift_all_out_fine, tt)))))))

equality_rules_fine : (op : Op) (a b : Tree) → AreNormal op a b → IfSome (first_fit equality_rules op a b) IsFine
unfolding equality_rules
equality_rules_fine =
    first_fit_holds AreNormal Fine equality_rules
    (xor_across_equality_fine, (add_across_equality_fine, (difference_is_zero_fine, (truth_is_one_fine, (double_negation_fine, (truth_is_no_larger_fine, (zero_byte_differs_fine, tt)))))))

order_rules_fine : (op : Op) (a b : Tree) → AreNormal op a b → IfSome (first_fit order_rules op a b) IsFine
unfolding order_rules
order_rules_fine =
    first_fit_holds AreNormal Fine order_rules
    (less_than_zero_fine, (less_than_one_fine, (more_than_zero_fine, (one_byte_is_less_fine, tt))))

byte_rules_fine : (op : Op) (a b : Tree) → AreNormal op a b → IfSome (first_fit byte_rules op a b) IsFine
unfolding byte_rules
byte_rules_fine =
    first_fit_holds AreNormal Fine byte_rules
    (byte_is_zero_fine, (byte_of_one_byte_fine, (byte_of_pair_fine, (byte_of_half_fine, (byte_beside_zero_fine, (byte_under_mask_fine, (byte_of_left_shift_fine, (byte_of_right_shift_fine, tt))))))))

joining_rules_fine : (op : Op) (a b : Tree) → AreNormal op a b → IfSome (first_fit joining_rules op a b) IsFine
unfolding joining_rules
joining_rules_fine =
    first_fit_holds AreNormal Fine joining_rules
    (pair_with_zero_fine, (half_with_zero_fine, (pair_of_own_bytes_fine, (half_of_own_bytes_fine, tt))))

pub rule_fine : (op : Op) (a b : Tree) → AreNormal op a b → IfSome (first_rule op a b) IsFine
unfolding first_rule
rule_fine op a b g =
    let more = either IsFine in
    more (first_fit ordering_rules op a b) _ (ordering_rules_fine op a b g)
    (more (first_fit arithmetic_rules op a b) _ (arithmetic_rules_fine op a b g)
    (more (first_fit bitwise_rules op a b) _ (bitwise_rules_fine op a b g)
    (more (first_fit equality_rules op a b) _ (equality_rules_fine op a b g)
    (more (first_fit order_rules op a b) _ (order_rules_fine op a b g)
    (more (first_fit byte_rules op a b) _ (byte_rules_fine op a b g) (joining_rules_fine op a b g))))))
