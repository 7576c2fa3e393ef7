-- The normal form of a comparison is a truth term or a constant.
use Rattle.std.proofs.Common.{◌≡◌, ℕ, zero, suc, ◌%◌, ◌&&◌, not, nat_eq, nat_lt, Option, Some, None, refl, inl, inr}
use Rattle.std.specs.Prelude.{IfSome}
use Rattle.rv_word.specs.declared.AluOp.TheVariants.{Sub, Slt, Sltu, Xor, Add}
use Rattle.term_model.specs.declared.Op.{Op}
use Rattle.term_model.specs.declared.Op.TheVariants.{Alu, Eq}
use Rattle.term_model.specs.Tree.{Tree, Const, Apply, is_const}
use Rattle.term_model.specs.Truth.{is_truth}
use Rattle.term_model.proofs.SameLemmas.{both}
use Rattle.normal_form.specs.Plan.{Plan, Is, Make, Rule, with_constant}
use Rattle.normal_form.specs.ArithmeticRules.{fold_constants, constant_to_the_right, reduce_shift_amount, drop_zero, subtract_by_adding, combine_added_constants, absorb_zero, drop_neutral_constant, remainder_by_one, or_with_all_ones, drop_repeated_operand, cancel_repeated_operand, equal_to_itself, combine_bitwise_constants, drop_mask, combine_shifts, shift_all_out, commutes, is_shift}
use Rattle.normal_form.specs.EqualityRules.{xor_across_equality, add_across_equality, difference_is_zero, truth_is_one, double_negation, truth_is_no_larger, zero_byte_differs}
use Rattle.normal_form.specs.OrderRules.{less_than_zero, less_than_one, more_than_zero, one_byte_is_less}
use Rattle.normal_form.specs.ByteRules.{byte_is_zero, byte_of_one_byte, byte_of_pair, byte_of_half, byte_beside_zero, byte_under_mask, byte_of_left_shift, byte_of_right_shift, pair_with_zero, half_with_zero, pair_of_own_bytes, half_of_own_bytes}
use Rattle.normal_form.specs.Rules.{first_fit, ordering_rules, arithmetic_rules, bitwise_rules, equality_rules, order_rules, byte_rules, joining_rules, first_rule}
use Rattle.normal_form.specs.Norm.{carried_out, after_rule, norm_within, norm}
use Rattle.normal_form.proofs.PlanLemmas.{when, either, first_fit_holds}
use Rattle.replay_law.specs.Making.{IsTruthOrConstant}

-- an operation that compares
abbrev pub IsComparison : Op → Type 0
IsComparison Eq = Unit {0}
IsComparison (Alu Slt) = Unit {0}
IsComparison (Alu Sltu) = Unit {0}
IsComparison op = ⊥

-- a plan that gives a truth term or a constant, or compares
abbrev pub Compares : Plan → Type 0
Compares (Is t) = IsTruthOrConstant t
Compares (Make op p q) = IsComparison op

-- what the lemmas on lists of rules ask of the operation
abbrev Compared : Op → Tree → Tree → Type 0
Compared op a b = IsComparison op

-- the rule's plan for a comparison is such a plan
abbrev RuleCompares : Rule → Type 0
RuleCompares rule = (op : Op) (a b : Tree) → IsComparison op → IfSome (rule op a b) Compares

-- a constant
constant : (c : ℕ) → IsTruthOrConstant (Const c)
constant c = inr (c, refl)

-- a rule that doesn't fit
none_compares : (o : Option Plan) → o ≡ None → IfSome o Compares
none_compares None e = tt
none_compares (Some p) e = cc

-- a rule for other operations
for_others : (rule : Rule) → ((a b : Tree) → rule Eq a b ≡ None) → ((a b : Tree) → rule (Alu Slt) a b ≡ None) → ((a b : Tree) → rule (Alu Sltu) a b ≡ None) → RuleCompares rule
for_others rule eq less below Eq a b h = none_compares (rule Eq a b) (eq a b)
for_others rule eq less below (Alu Slt) a b h = none_compares (rule (Alu Slt) a b) (less a b)
for_others rule eq less below (Alu Sltu) a b h = none_compares (rule (Alu Sltu) a b) (below a b)
for_others rule eq less below op a b h = absurd h

-- the rule `fold_constants`
fold_constants_compares : RuleCompares fold_constants
fold_constants_compares op (Const c) (Const d) h = constant _
fold_constants_compares op a b h = tt

-- the rule `constant_to_the_right`
constant_to_the_right_compares : RuleCompares constant_to_the_right
constant_to_the_right_compares op (Const c) x h = when Compares (commutes op && not (is_const x)) (with_constant op x c) (λ _. h)
constant_to_the_right_compares op a b h = tt

-- the rule `reduce_shift_amount`
reduce_shift_amount_compares : RuleCompares reduce_shift_amount
reduce_shift_amount_compares op x (Const c) h = when Compares (is_shift op && nat_lt 31 c) (with_constant op x (c % 32)) (λ _. h)
reduce_shift_amount_compares op a b h = tt

-- the rule `drop_zero`
drop_zero_compares : RuleCompares drop_zero
drop_zero_compares Eq x (Const c) h = tt
drop_zero_compares (Alu Slt) x (Const c) h = tt
drop_zero_compares (Alu Sltu) x (Const c) h = tt
drop_zero_compares op x (Const c) h = absurd h
drop_zero_compares op a b h = tt

-- the rule `cancel_repeated_operand`
cancel_repeated_operand_compares : RuleCompares cancel_repeated_operand
cancel_repeated_operand_compares Eq a b h = tt
cancel_repeated_operand_compares (Alu Slt) a b h = when Compares _ (Is (Const 0)) (λ _. constant 0)
cancel_repeated_operand_compares (Alu Sltu) a b h = when Compares _ (Is (Const 0)) (λ _. constant 0)
cancel_repeated_operand_compares op a b h = absurd h

-- the rule `equal_to_itself`
equal_to_itself_compares : RuleCompares equal_to_itself
equal_to_itself_compares Eq a b h = when Compares _ (Is (Const 1)) (λ _. constant 1)
equal_to_itself_compares op a b h = tt

-- the rule `xor_across_equality`
xor_across_equality_compares : RuleCompares xor_across_equality
xor_across_equality_compares Eq (Apply (Alu Xor) x (Const c)) (Const d) h = tt
xor_across_equality_compares op a b h = tt

-- the rule `add_across_equality`
add_across_equality_compares : RuleCompares add_across_equality
add_across_equality_compares Eq (Apply (Alu Add) x (Const c)) (Const d) h = tt
add_across_equality_compares op a b h = tt

-- the rule `difference_is_zero`
difference_is_zero_compares : RuleCompares difference_is_zero
difference_is_zero_compares Eq (Apply (Alu Xor) x y) (Const d) h = when Compares _ (Make Eq (Is x) (Is y)) (λ _. tt)
difference_is_zero_compares Eq (Apply (Alu Sub) x y) (Const d) h = when Compares _ (Make Eq (Is x) (Is y)) (λ _. tt)
difference_is_zero_compares op a b h = tt

-- the rule `truth_is_one`
truth_is_one_compares : RuleCompares truth_is_one
truth_is_one_compares Eq t (Const c) h = when Compares (is_truth t && nat_eq c 1) (Is t) (λ e. inl (both (is_truth t) (nat_eq c 1) e).0)
truth_is_one_compares op a b h = tt

-- the rule `double_negation`
double_negation_compares : RuleCompares double_negation
double_negation_compares Eq (Apply Eq t (Const c)) (Const d) h = when Compares (is_truth t && (nat_eq c 0 && nat_eq d 0)) (Is t) (λ e. inl (both (is_truth t) (nat_eq c 0 && nat_eq d 0) e).0)
double_negation_compares op a b h = tt

-- the rule `truth_is_no_larger`
truth_is_no_larger_compares : RuleCompares truth_is_no_larger
truth_is_no_larger_compares Eq t (Const c) h = when Compares _ (Is (Const 0)) (λ _. constant 0)
truth_is_no_larger_compares op a b h = tt

-- the rule `zero_byte_differs`
zero_byte_differs_compares : RuleCompares zero_byte_differs
zero_byte_differs_compares Eq x (Const c) h = when Compares _ (Is (Const 0)) (λ _. constant 0)
zero_byte_differs_compares op a b h = tt

-- the rule `less_than_zero`
less_than_zero_compares : RuleCompares less_than_zero
less_than_zero_compares (Alu Sltu) x (Const c) h = when Compares _ (Is (Const 0)) (λ _. constant 0)
less_than_zero_compares op a b h = tt

-- the rule `less_than_one`
less_than_one_compares : RuleCompares less_than_one
less_than_one_compares (Alu Sltu) x (Const c) h = when Compares _ (with_constant Eq x 0) (λ _. tt)
less_than_one_compares op a b h = tt

-- the rule `more_than_zero`
more_than_zero_compares : RuleCompares more_than_zero
more_than_zero_compares (Alu Sltu) (Const c) x h = when Compares _ (Make Eq (with_constant Eq x 0) (Is (Const 0))) (λ _. tt)
more_than_zero_compares op a b h = tt

-- the rule `one_byte_is_less`
one_byte_is_less_compares : RuleCompares one_byte_is_less
one_byte_is_less_compares (Alu Sltu) x (Const c) h = when Compares _ (Is (Const 1)) (λ _. constant 1)
one_byte_is_less_compares op a b h = tt

-- the ordering rules
ordering_rules_compare : RuleCompares (first_fit ordering_rules)
unfolding ordering_rules
ordering_rules_compare op a b h =
    first_fit_holds Compared (λ f s t. Compares) ordering_rules (fold_constants_compares, (constant_to_the_right_compares, (reduce_shift_amount_compares, tt))) op a b h

-- the arithmetic rules
arithmetic_rules_compare : RuleCompares (first_fit arithmetic_rules)
unfolding arithmetic_rules
arithmetic_rules_compare op a b h =
    first_fit_holds Compared (λ f s t. Compares) arithmetic_rules (drop_zero_compares, (for_others subtract_by_adding (λ a b. refl) (λ a b. refl) (λ a b. refl), (for_others combine_added_constants (λ a b. refl) (λ a b. refl) (λ a b. refl), (for_others absorb_zero (λ a b. refl) (λ a b. refl) (λ a b. refl), (for_others drop_neutral_constant (λ a b. refl) (λ a b. refl) (λ a b. refl), (for_others remainder_by_one (λ a b. refl) (λ a b. refl) (λ a b. refl), (for_others or_with_all_ones (λ a b. refl) (λ a b. refl) (λ a b. refl), tt))))))) op a b h

-- the bitwise rules
bitwise_rules_compare : RuleCompares (first_fit bitwise_rules)
unfolding bitwise_rules
bitwise_rules_compare op a b h =
    first_fit_holds Compared (λ f s t. Compares) bitwise_rules (for_others drop_repeated_operand (λ a b. refl) (λ a b. refl) (λ a b. refl), (cancel_repeated_operand_compares, (equal_to_itself_compares, (for_others combine_bitwise_constants (λ a b. refl) (λ a b. refl) (λ a b. refl), (for_others drop_mask (λ a b. refl) (λ a b. refl) (λ a b. refl), (for_others combine_shifts (λ a b. refl) (λ a b. refl) (λ a b. refl), (for_others shift_all_out (λ a b. refl) (λ a b. refl) (λ a b. refl), tt))))))) op a b h

-- the equality rules
equality_rules_compare : RuleCompares (first_fit equality_rules)
unfolding equality_rules
equality_rules_compare op a b h =
    first_fit_holds Compared (λ f s t. Compares) equality_rules (xor_across_equality_compares, (add_across_equality_compares, (difference_is_zero_compares, (truth_is_one_compares, (double_negation_compares, (truth_is_no_larger_compares, (zero_byte_differs_compares, tt))))))) op a b h

-- the order rules
order_rules_compare : RuleCompares (first_fit order_rules)
unfolding order_rules
order_rules_compare op a b h =
    first_fit_holds Compared (λ f s t. Compares) order_rules (less_than_zero_compares, (less_than_one_compares, (more_than_zero_compares, (one_byte_is_less_compares, tt)))) op a b h

-- the byte rules
byte_rules_compare : RuleCompares (first_fit byte_rules)
unfolding byte_rules
byte_rules_compare op a b h =
    first_fit_holds Compared (λ f s t. Compares) byte_rules (for_others byte_is_zero (λ a b. refl) (λ a b. refl) (λ a b. refl), (for_others byte_of_one_byte (λ a b. refl) (λ a b. refl) (λ a b. refl), (for_others byte_of_pair (λ a b. refl) (λ a b. refl) (λ a b. refl), (for_others byte_of_half (λ a b. refl) (λ a b. refl) (λ a b. refl), (for_others byte_beside_zero (λ a b. refl) (λ a b. refl) (λ a b. refl), (for_others byte_under_mask (λ a b. refl) (λ a b. refl) (λ a b. refl), (for_others byte_of_left_shift (λ a b. refl) (λ a b. refl) (λ a b. refl), (for_others byte_of_right_shift (λ a b. refl) (λ a b. refl) (λ a b. refl), tt)))))))) op a b h

-- the joining rules
joining_rules_compare : RuleCompares (first_fit joining_rules)
unfolding joining_rules
joining_rules_compare op a b h =
    first_fit_holds Compared (λ f s t. Compares) joining_rules (for_others pair_with_zero (λ a b. refl) (λ a b. refl) (λ a b. refl), (for_others half_with_zero (λ a b. refl) (λ a b. refl) (λ a b. refl), (for_others pair_of_own_bytes (λ a b. refl) (λ a b. refl) (λ a b. refl), (for_others half_of_own_bytes (λ a b. refl) (λ a b. refl) (λ a b. refl), tt)))) op a b h

-- the first rule that fits
rule_compares : RuleCompares first_rule
unfolding first_rule
rule_compares op a b h =
    let more = either Compares in
    more (first_fit ordering_rules op a b) _ (ordering_rules_compare op a b h)
    (more (first_fit arithmetic_rules op a b) _ (arithmetic_rules_compare op a b h)
    (more (first_fit bitwise_rules op a b) _ (bitwise_rules_compare op a b h)
    (more (first_fit equality_rules op a b) _ (equality_rules_compare op a b h)
    (more (first_fit order_rules op a b) _ (order_rules_compare op a b h)
    (more (first_fit byte_rules op a b) _ (byte_rules_compare op a b h) (joining_rules_compare op a b h))))))

-- a maker whose comparisons are truth terms or constants
abbrev MakesTruths : (Op → Tree → Tree → Tree) → Type 0
MakesTruths made = (op : Op) (a b : Tree) → IsComparison op → IsTruthOrConstant (made op a b)

-- a comparison that stays is a truth term
itself : (op : Op) (a b : Tree) → IsComparison op → IsTruthOrConstant (Apply op a b)
itself Eq a b h = inl refl
itself (Alu Slt) a b h = inl refl
itself (Alu Sltu) a b h = inl refl
itself op a b h = absurd h

-- after the first rule
after_rule_truth : (made : Op → Tree → Tree → Tree) → MakesTruths made → (op : Op) (a b : Tree) → IsComparison op → (o : Option Plan) → IfSome o Compares → IsTruthOrConstant (after_rule made op a b o)
after_rule_truth made m op a b h None i = itself op a b h
after_rule_truth made m op a b h (Some (Is t)) i = i
after_rule_truth made m op a b h (Some (Make f p q)) i = m f (carried_out made p) (carried_out made q) i

-- after at most k rules
within_truth : (k : ℕ) → MakesTruths (norm_within k)
unfolding norm_within
within_truth zero op a b h = itself op a b h
within_truth (suc k) op a b h = after_rule_truth (norm_within k) (within_truth k) op a b h (first_rule op a b) (rule_compares op a b h)

-- the normal form of a comparison is a truth term or a constant
pub norm_truth : MakesTruths norm
unfolding norm
norm_truth op a b h = within_truth _ op a b h
