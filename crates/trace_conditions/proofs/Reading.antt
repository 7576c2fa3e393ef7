-- A rule writes no Input leaf that its operands lack, and so the normal form reads no other places than they do.
use Rattle.std.proofs.Common.{ℕ, zero, suc, ◌+◌, ◌-◌, ◌/◌, ◌%◌, ◌^◌, ◌&&◌, nat_eq, nat_lt, nat_le, Option, Some, None}
use Rattle.std.specs.Prelude.{IfSome}
use Rattle.rv_word.specs.declared.AluOp.TheVariants.{Add, Sub, Sll, Slt, Sltu, Xor, Srl, Sra, Or, And, Mul, Mulhsu, Div, Divu, Rem, Remu}
use Rattle.term_model.specs.declared.Op.{Op}
use Rattle.term_model.specs.declared.Op.TheVariants.{Alu, Eq, Byte, Pair, Half}
use Rattle.term_model.specs.Tree.{Tree, Const, Apply}
use Rattle.term_model.specs.Places.{ReadsBelow}
use Rattle.term_model.specs.ZeroBytes.{is_zero_byte}
use Rattle.normal_form.specs.Plan.{Plan, Is, Make, only_if, with_constant}
use Rattle.normal_form.specs.ArithmeticRules.{fold_constants, constant_to_the_right, reduce_shift_amount, drop_zero, subtract_by_adding, combine_added_constants, absorb_zero, drop_neutral_constant, remainder_by_one, or_with_all_ones, drop_repeated_operand, cancel_repeated_operand, equal_to_itself, combine_bitwise_constants, drop_mask, combine_shifts, shift_all_out, is_zero, is_zero_with_zero}
use Rattle.normal_form.specs.EqualityRules.{xor_across_equality, add_across_equality, difference_is_zero, truth_is_one, double_negation, truth_is_no_larger, zero_byte_differs}
use Rattle.normal_form.specs.OrderRules.{less_than_zero, less_than_one, more_than_zero, one_byte_is_less}
use Rattle.normal_form.specs.ByteRules.{byte_is_zero, byte_of_one_byte, byte_of_pair, byte_of_half, byte_beside_zero, byte_under_mask, byte_of_left_shift, byte_of_right_shift, pair_with_zero, half_with_zero, pair_of_own_bytes, half_of_own_bytes}
use Rattle.normal_form.specs.Rules.{first_fit, ordering_rules, arithmetic_rules, bitwise_rules, equality_rules, order_rules, byte_rules, joining_rules, first_rule}
use Rattle.normal_form.specs.Norm.{carried_out, after_rule, norm_within, norm}
use Rattle.normal_form.proofs.PlanLemmas.{when, either, first_fit_holds}

-- what a plan writes reads only places below n
abbrev pub PlanReads : ℕ → Plan → Type 0
PlanReads n (Is t) = ReadsBelow n t
PlanReads n (Make op p q) = PlanReads n p × PlanReads n q

-- the operands read only places below n
abbrev BothRead : ℕ → Op → Tree → Tree → Type 0
BothRead n op a b = ReadsBelow n a × ReadsBelow n b

-- the rule's plan reads only places below n where the operands do
abbrev RuleReads : ℕ → (Op → Tree → Tree → Option Plan) → Type 0
RuleReads n rule = (op : Op) (a b : Tree) → BothRead n op a b → IfSome (rule op a b) (PlanReads n)

-- the rule `fold_constants`
fold_constants_reads : (n : ℕ) → RuleReads n fold_constants
fold_constants_reads n op (Const c) (Const d) h = tt
fold_constants_reads n op a b h = tt

-- the rule `constant_to_the_right`
constant_to_the_right_reads : (n : ℕ) → RuleReads n constant_to_the_right
constant_to_the_right_reads n op (Const c) x h = when (PlanReads n) _ (with_constant op x c) (λ _. (h.1, tt))
constant_to_the_right_reads n op a b h = tt

-- the rule `reduce_shift_amount`
reduce_shift_amount_reads : (n : ℕ) → RuleReads n reduce_shift_amount
reduce_shift_amount_reads n op x (Const c) h = when (PlanReads n) _ (with_constant op x (c % 32)) (λ _. (h.0, tt))
reduce_shift_amount_reads n op a b h = tt

-- the rule `drop_zero`
drop_zero_reads : (n : ℕ) → RuleReads n drop_zero
drop_zero_reads n op x (Const c) h = when (PlanReads n) _ (Is x) (λ _. h.0)
drop_zero_reads n op a b h = tt

-- the rule `subtract_by_adding`
subtract_by_adding_reads : (n : ℕ) → RuleReads n subtract_by_adding
subtract_by_adding_reads n (Alu Sub) x (Const c) h = (h.0, tt)
subtract_by_adding_reads n op a b h = tt

-- the rule `combine_added_constants`
combine_added_constants_reads : (n : ℕ) → RuleReads n combine_added_constants
combine_added_constants_reads n (Alu Add) (Apply (Alu Add) x (Const c)) (Const d) h = (h.0.0, tt)
combine_added_constants_reads n op a b h = tt

-- the rule `absorb_zero`
absorb_zero_reads : (n : ℕ) → RuleReads n absorb_zero
absorb_zero_reads n (Alu Mulhsu) a b h = when (PlanReads n) _ (Is (Const 0)) (λ _. tt)
absorb_zero_reads n op a b h = when (PlanReads n) (is_zero_with_zero op && is_zero b) (Is (Const 0)) (λ _. tt)

-- the rule `drop_neutral_constant`
drop_neutral_constant_reads : (n : ℕ) → RuleReads n drop_neutral_constant
drop_neutral_constant_reads n (Alu And) x (Const c) h = when (PlanReads n) _ (Is x) (λ _. h.0)
drop_neutral_constant_reads n (Alu Mul) x (Const c) h = when (PlanReads n) _ (Is x) (λ _. h.0)
drop_neutral_constant_reads n (Alu Div) x (Const c) h = when (PlanReads n) _ (Is x) (λ _. h.0)
drop_neutral_constant_reads n (Alu Divu) x (Const c) h = when (PlanReads n) _ (Is x) (λ _. h.0)
drop_neutral_constant_reads n op a b h = tt

-- the rule `remainder_by_one`
remainder_by_one_reads : (n : ℕ) → RuleReads n remainder_by_one
remainder_by_one_reads n (Alu Rem) x (Const c) h = when (PlanReads n) _ (Is (Const 0)) (λ _. tt)
remainder_by_one_reads n (Alu Remu) x (Const c) h = when (PlanReads n) _ (Is (Const 0)) (λ _. tt)
remainder_by_one_reads n op a b h = tt

-- the rule `or_with_all_ones`
or_with_all_ones_reads : (n : ℕ) → RuleReads n or_with_all_ones
or_with_all_ones_reads n (Alu Or) x (Const c) h = when (PlanReads n) _ (Is (Const (2 ^ 32 - 1))) (λ _. tt)
or_with_all_ones_reads n op a b h = tt

-- the rule `drop_repeated_operand`
drop_repeated_operand_reads : (n : ℕ) → RuleReads n drop_repeated_operand
drop_repeated_operand_reads n (Alu And) a b h = when (PlanReads n) _ (Is a) (λ _. h.0)
drop_repeated_operand_reads n (Alu Or) a b h = when (PlanReads n) _ (Is a) (λ _. h.0)
drop_repeated_operand_reads n op a b h = tt

-- the rule `cancel_repeated_operand`
cancel_repeated_operand_reads : (n : ℕ) → RuleReads n cancel_repeated_operand
cancel_repeated_operand_reads n (Alu Xor) a b h = when (PlanReads n) _ (Is (Const 0)) (λ _. tt)
cancel_repeated_operand_reads n (Alu Sub) a b h = when (PlanReads n) _ (Is (Const 0)) (λ _. tt)
cancel_repeated_operand_reads n (Alu Slt) a b h = when (PlanReads n) _ (Is (Const 0)) (λ _. tt)
cancel_repeated_operand_reads n (Alu Sltu) a b h = when (PlanReads n) _ (Is (Const 0)) (λ _. tt)
cancel_repeated_operand_reads n op a b h = tt

-- the rule `equal_to_itself`
equal_to_itself_reads : (n : ℕ) → RuleReads n equal_to_itself
equal_to_itself_reads n Eq a b h = when (PlanReads n) _ (Is (Const 1)) (λ _. tt)
equal_to_itself_reads n op a b h = tt

-- the rule `combine_bitwise_constants`
combine_bitwise_constants_reads : (n : ℕ) → RuleReads n combine_bitwise_constants
combine_bitwise_constants_reads n (Alu And) (Apply (Alu And) x (Const c)) (Const d) h = (h.0.0, tt)
combine_bitwise_constants_reads n (Alu Or) (Apply (Alu Or) x (Const c)) (Const d) h = (h.0.0, tt)
combine_bitwise_constants_reads n (Alu Xor) (Apply (Alu Xor) x (Const c)) (Const d) h = (h.0.0, tt)
combine_bitwise_constants_reads n op a b h = tt

-- the rule `drop_mask`
drop_mask_reads : (n : ℕ) → RuleReads n drop_mask
drop_mask_reads n (Alu And) x (Const c) h = when (PlanReads n) _ (Is x) (λ _. h.0)
drop_mask_reads n op a b h = tt

-- the rule `combine_shifts`
combine_shifts_reads : (n : ℕ) → RuleReads n combine_shifts
combine_shifts_reads n (Alu Sll) (Apply (Alu Sll) x (Const c)) (Const d) h = when (PlanReads n) _ (with_constant (Alu Sll) x (c + d)) (λ _. (h.0.0, tt))
combine_shifts_reads n (Alu Srl) (Apply (Alu Srl) x (Const c)) (Const d) h = when (PlanReads n) _ (with_constant (Alu Srl) x (c + d)) (λ _. (h.0.0, tt))
combine_shifts_reads n op a b h = tt

-- the rule `shift_all_out`
shift_all_out_reads : (n : ℕ) → RuleReads n shift_all_out
shift_all_out_reads n (Alu Sll) (Apply (Alu Sll) x (Const c)) (Const d) h = when (PlanReads n) _ (Is (Const 0)) (λ _. tt)
shift_all_out_reads n (Alu Srl) (Apply (Alu Srl) x (Const c)) (Const d) h = when (PlanReads n) _ (Is (Const 0)) (λ _. tt)
shift_all_out_reads n op a b h = tt

-- the rule `xor_across_equality`
xor_across_equality_reads : (n : ℕ) → RuleReads n xor_across_equality
xor_across_equality_reads n Eq (Apply (Alu Xor) x (Const c)) (Const d) h = (h.0.0, tt)
xor_across_equality_reads n op a b h = tt

-- the rule `add_across_equality`
add_across_equality_reads : (n : ℕ) → RuleReads n add_across_equality
add_across_equality_reads n Eq (Apply (Alu Add) x (Const c)) (Const d) h = (h.0.0, tt)
add_across_equality_reads n op a b h = tt

-- the rule `difference_is_zero`
difference_is_zero_reads : (n : ℕ) → RuleReads n difference_is_zero
difference_is_zero_reads n Eq (Apply (Alu Xor) x y) (Const d) h = when (PlanReads n) _ (Make Eq (Is x) (Is y)) (λ _. h.0)
difference_is_zero_reads n Eq (Apply (Alu Sub) x y) (Const d) h = when (PlanReads n) _ (Make Eq (Is x) (Is y)) (λ _. h.0)
difference_is_zero_reads n op a b h = tt

-- the rule `truth_is_one`
truth_is_one_reads : (n : ℕ) → RuleReads n truth_is_one
truth_is_one_reads n Eq t (Const c) h = when (PlanReads n) _ (Is t) (λ _. h.0)
truth_is_one_reads n op a b h = tt

-- the rule `double_negation`
double_negation_reads : (n : ℕ) → RuleReads n double_negation
double_negation_reads n Eq (Apply Eq t (Const c)) (Const d) h = when (PlanReads n) _ (Is t) (λ _. h.0.0)
double_negation_reads n op a b h = tt

-- the rule `truth_is_no_larger`
truth_is_no_larger_reads : (n : ℕ) → RuleReads n truth_is_no_larger
truth_is_no_larger_reads n Eq t (Const c) h = when (PlanReads n) _ (Is (Const 0)) (λ _. tt)
truth_is_no_larger_reads n op a b h = tt

-- the rule `zero_byte_differs`
zero_byte_differs_reads : (n : ℕ) → RuleReads n zero_byte_differs
zero_byte_differs_reads n Eq x (Const c) h = when (PlanReads n) _ (Is (Const 0)) (λ _. tt)
zero_byte_differs_reads n op a b h = tt

-- the rule `less_than_zero`
less_than_zero_reads : (n : ℕ) → RuleReads n less_than_zero
less_than_zero_reads n (Alu Sltu) x (Const c) h = when (PlanReads n) _ (Is (Const 0)) (λ _. tt)
less_than_zero_reads n op a b h = tt

-- the rule `less_than_one`
less_than_one_reads : (n : ℕ) → RuleReads n less_than_one
less_than_one_reads n (Alu Sltu) x (Const c) h = when (PlanReads n) _ (with_constant Eq x 0) (λ _. (h.0, tt))
less_than_one_reads n op a b h = tt

-- the rule `more_than_zero`
more_than_zero_reads : (n : ℕ) → RuleReads n more_than_zero
more_than_zero_reads n (Alu Sltu) (Const c) x h = when (PlanReads n) _ (Make Eq (with_constant Eq x 0) (Is (Const 0))) (λ _. ((h.1, tt), tt))
more_than_zero_reads n op a b h = tt

-- the rule `one_byte_is_less`
one_byte_is_less_reads : (n : ℕ) → RuleReads n one_byte_is_less
one_byte_is_less_reads n (Alu Sltu) x (Const c) h = when (PlanReads n) _ (Is (Const 1)) (λ _. tt)
one_byte_is_less_reads n op a b h = tt

-- the rule `byte_is_zero`
byte_is_zero_reads : (n : ℕ) → RuleReads n byte_is_zero
byte_is_zero_reads n Byte x (Const k) h = when (PlanReads n) _ (Is (Const 0)) (λ _. tt)
byte_is_zero_reads n op a b h = tt

-- the rule `byte_of_one_byte`
byte_of_one_byte_reads : (n : ℕ) → RuleReads n byte_of_one_byte
byte_of_one_byte_reads n Byte x (Const k) h = when (PlanReads n) _ (Is x) (λ _. h.0)
byte_of_one_byte_reads n op a b h = tt

-- the rule `byte_of_pair`
byte_of_pair_reads : (n : ℕ) → RuleReads n byte_of_pair
byte_of_pair_reads n Byte (Apply Pair x y) (Const k) h =
    either (PlanReads n) (only_if (nat_eq k 0) (with_constant Byte x 0)) (only_if (nat_eq k 1) (with_constant Byte y 0)) (when (PlanReads n) (nat_eq k 0) (with_constant Byte x 0) (λ _. (h.0.0, tt))) (when (PlanReads n) (nat_eq k 1) (with_constant Byte y 0) (λ _. (h.0.1, tt)))
byte_of_pair_reads n op a b h = tt

-- the rule `byte_of_half`
byte_of_half_reads : (n : ℕ) → RuleReads n byte_of_half
byte_of_half_reads n Byte (Apply Half x y) (Const k) h =
    either (PlanReads n) (only_if (nat_lt k 2) (with_constant Byte x k)) (only_if (nat_le 2 k) (with_constant Byte y (k - 2))) (when (PlanReads n) (nat_lt k 2) (with_constant Byte x k) (λ _. (h.0.0, tt))) (when (PlanReads n) (nat_le 2 k) (with_constant Byte y (k - 2)) (λ _. (h.0.1, tt)))
byte_of_half_reads n op a b h = tt

-- the rule `byte_beside_zero`
byte_beside_zero_reads : (n : ℕ) → RuleReads n byte_beside_zero
byte_beside_zero_reads n Byte (Apply (Alu Or) x y) (Const k) h =
    either (PlanReads n) (only_if (is_zero_byte y k) (with_constant Byte x k)) (only_if (is_zero_byte x k) (with_constant Byte y k)) (when (PlanReads n) (is_zero_byte y k) (with_constant Byte x k) (λ _. (h.0.0, tt))) (when (PlanReads n) (is_zero_byte x k) (with_constant Byte y k) (λ _. (h.0.1, tt)))
byte_beside_zero_reads n Byte (Apply (Alu Xor) x y) (Const k) h =
    either (PlanReads n) (only_if (is_zero_byte y k) (with_constant Byte x k)) (only_if (is_zero_byte x k) (with_constant Byte y k)) (when (PlanReads n) (is_zero_byte y k) (with_constant Byte x k) (λ _. (h.0.0, tt))) (when (PlanReads n) (is_zero_byte x k) (with_constant Byte y k) (λ _. (h.0.1, tt)))
byte_beside_zero_reads n op a b h = tt

-- the rule `byte_under_mask`
byte_under_mask_reads : (n : ℕ) → RuleReads n byte_under_mask
byte_under_mask_reads n Byte (Apply (Alu And) x (Const c)) (Const k) h = when (PlanReads n) _ (with_constant Byte x k) (λ _. (h.0.0, tt))
byte_under_mask_reads n op a b h = tt

-- the rule `byte_of_left_shift`
byte_of_left_shift_reads : (n : ℕ) → RuleReads n byte_of_left_shift
byte_of_left_shift_reads n Byte (Apply (Alu Sll) x (Const c)) (Const k) h = when (PlanReads n) _ (with_constant Byte x (k - c / 8)) (λ _. (h.0.0, tt))
byte_of_left_shift_reads n op a b h = tt

-- the rule `byte_of_right_shift`
byte_of_right_shift_reads : (n : ℕ) → RuleReads n byte_of_right_shift
byte_of_right_shift_reads n Byte (Apply (Alu Srl) x (Const c)) (Const k) h = when (PlanReads n) _ (with_constant Byte x (k + c / 8)) (λ _. (h.0.0, tt))
byte_of_right_shift_reads n Byte (Apply (Alu Sra) x (Const c)) (Const k) h = when (PlanReads n) _ (with_constant Byte x (k + c / 8)) (λ _. (h.0.0, tt))
byte_of_right_shift_reads n op a b h = tt

-- the rule `pair_with_zero`
pair_with_zero_reads : (n : ℕ) → RuleReads n pair_with_zero
pair_with_zero_reads n Pair x (Const c) h = when (PlanReads n) _ (with_constant Byte x 0) (λ _. (h.0, tt))
pair_with_zero_reads n op a b h = tt

-- the rule `half_with_zero`
half_with_zero_reads : (n : ℕ) → RuleReads n half_with_zero
half_with_zero_reads n Half x (Const c) h = when (PlanReads n) _ (Is x) (λ _. h.0)
half_with_zero_reads n op a b h = tt

-- the rule `pair_of_own_bytes`
pair_of_own_bytes_reads : (n : ℕ) → RuleReads n pair_of_own_bytes
pair_of_own_bytes_reads n Pair (Apply Byte x j) b h = when (PlanReads n) _ (Is x) (λ _. h.0.0)
pair_of_own_bytes_reads n op a b h = tt

-- the rule `half_of_own_bytes`
half_of_own_bytes_reads : (n : ℕ) → RuleReads n half_of_own_bytes
half_of_own_bytes_reads n Half (Apply Pair (Apply Byte x j) q) (Apply Pair r s) h = when (PlanReads n) _ (Is x) (λ _. h.0.0.0)
half_of_own_bytes_reads n op a b h = tt

-- the ordering rules
ordering_rules_read : (n : ℕ) → RuleReads n (first_fit ordering_rules)
unfolding ordering_rules
ordering_rules_read n op a b h =
    first_fit_holds (BothRead n) (λ f s t. PlanReads n) ordering_rules (fold_constants_reads n, (constant_to_the_right_reads n, (reduce_shift_amount_reads n, tt))) op a b h

-- the arithmetic rules
arithmetic_rules_read : (n : ℕ) → RuleReads n (first_fit arithmetic_rules)
unfolding arithmetic_rules
arithmetic_rules_read n op a b h =
    first_fit_holds (BothRead n) (λ f s t. PlanReads n) arithmetic_rules (drop_zero_reads n, (subtract_by_adding_reads n, (combine_added_constants_reads n, (absorb_zero_reads n, (drop_neutral_constant_reads n, (remainder_by_one_reads n, (or_with_all_ones_reads n, tt))))))) op a b h

-- the bitwise rules
bitwise_rules_read : (n : ℕ) → RuleReads n (first_fit bitwise_rules)
unfolding bitwise_rules
bitwise_rules_read n op a b h =
    first_fit_holds (BothRead n) (λ f s t. PlanReads n) bitwise_rules (drop_repeated_operand_reads n, (cancel_repeated_operand_reads n, (equal_to_itself_reads n, (combine_bitwise_constants_reads n, (drop_mask_reads n, (combine_shifts_reads n, (shift_all_out_reads n, tt))))))) op a b h

-- the equality rules
equality_rules_read : (n : ℕ) → RuleReads n (first_fit equality_rules)
unfolding equality_rules
equality_rules_read n op a b h =
    first_fit_holds (BothRead n) (λ f s t. PlanReads n) equality_rules (xor_across_equality_reads n, (add_across_equality_reads n, (difference_is_zero_reads n, (truth_is_one_reads n, (double_negation_reads n, (truth_is_no_larger_reads n, (zero_byte_differs_reads n, tt))))))) op a b h

-- the order rules
order_rules_read : (n : ℕ) → RuleReads n (first_fit order_rules)
unfolding order_rules
order_rules_read n op a b h =
    first_fit_holds (BothRead n) (λ f s t. PlanReads n) order_rules (less_than_zero_reads n, (less_than_one_reads n, (more_than_zero_reads n, (one_byte_is_less_reads n, tt)))) op a b h

-- the byte rules
byte_rules_read : (n : ℕ) → RuleReads n (first_fit byte_rules)
unfolding byte_rules
byte_rules_read n op a b h =
    first_fit_holds (BothRead n) (λ f s t. PlanReads n) byte_rules (byte_is_zero_reads n, (byte_of_one_byte_reads n, (byte_of_pair_reads n, (byte_of_half_reads n, (byte_beside_zero_reads n, (byte_under_mask_reads n, (byte_of_left_shift_reads n, (byte_of_right_shift_reads n, tt)))))))) op a b h

-- the joining rules
joining_rules_read : (n : ℕ) → RuleReads n (first_fit joining_rules)
unfolding joining_rules
joining_rules_read n op a b h =
    first_fit_holds (BothRead n) (λ f s t. PlanReads n) joining_rules (pair_with_zero_reads n, (half_with_zero_reads n, (pair_of_own_bytes_reads n, (half_of_own_bytes_reads n, tt)))) op a b h

-- the first rule that fits
rule_reads : (n : ℕ) → RuleReads n first_rule
unfolding first_rule
rule_reads n op a b h =
    let more = either (PlanReads n) in
    more (first_fit ordering_rules op a b) _ (ordering_rules_read n op a b h)
    (more (first_fit arithmetic_rules op a b) _ (arithmetic_rules_read n op a b h)
    (more (first_fit bitwise_rules op a b) _ (bitwise_rules_read n op a b h)
    (more (first_fit equality_rules op a b) _ (equality_rules_read n op a b h)
    (more (first_fit order_rules op a b) _ (order_rules_read n op a b h)
    (more (first_fit byte_rules op a b) _ (byte_rules_read n op a b h) (joining_rules_read n op a b h))))))

-- a maker that reads only what its operands do
abbrev MakerReads : ℕ → (Op → Tree → Tree → Tree) → Type 0
MakerReads n made = (op : Op) (a b : Tree) → ReadsBelow n a → ReadsBelow n b → ReadsBelow n (made op a b)

-- a plan that is carried out
carried_out_reads : (n : ℕ) (made : Op → Tree → Tree → Tree) → MakerReads n made → (p : Plan) → PlanReads n p → ReadsBelow n (carried_out made p)
carried_out_reads n made m (Is t) h = h
carried_out_reads n made m (Make op p q) h = m op (carried_out made p) (carried_out made q) (carried_out_reads n made m p h.0) (carried_out_reads n made m q h.1)

-- after the first rule
after_rule_reads : (n : ℕ) (made : Op → Tree → Tree → Tree) → MakerReads n made → (op : Op) (a b : Tree) (o : Option Plan) → ReadsBelow n a → ReadsBelow n b → IfSome o (PlanReads n) → ReadsBelow n (after_rule made op a b o)
after_rule_reads n made m op a b None h k i = (h, k)
after_rule_reads n made m op a b (Some p) h k i = carried_out_reads n made m p i

-- after at most k rules
within_reads : (n k : ℕ) → MakerReads n (norm_within k)
unfolding norm_within
within_reads n zero op a b h i = (h, i)
within_reads n (suc k) op a b h i = after_rule_reads n (norm_within k) (within_reads n k) op a b (first_rule op a b) h i (rule_reads n op a b (h, i))

-- the normal form reads no other places than its operands do
pub norm_reads : (n : ℕ) → MakerReads n norm
unfolding norm
norm_reads n op a b h k = within_reads n _ op a b h k
