-- For an equality the rules write terms and equalities alone.
use Rattle.std.proofs.Common.{◌≡◌, ◌&&◌, nat_eq, nat_lt, Some, None, refl, sym, subst}
use Rattle.std.specs.Prelude.{IfSome}
use Rattle.rv_word.specs.declared.AluOp.TheVariants.{Add, Sub, Xor}
use Rattle.term_model.specs.declared.Op.TheVariants.{Alu, Eq}
use Rattle.term_model.specs.Tree.{Tree, Const, Input, Apply}
use Rattle.term_model.specs.Truth.{is_truth}
use Rattle.term_model.specs.Same.{same_tree}
use Rattle.normal_form.specs.Plan.{Plan, Is, Make, at_some_byte}
use Rattle.normal_form.specs.ArithmeticRules.{equal_to_itself}
use Rattle.normal_form.specs.EqualityRules.{xor_across_equality, add_across_equality, difference_is_zero, truth_is_one, double_negation, truth_is_no_larger, zero_byte_differs, differs_at_byte}
use Rattle.normal_form.specs.Rules.{first_fit, first_rule, ordering_rules, arithmetic_rules, bitwise_rules, equality_rules, order_rules, byte_rules, joining_rules}
use Rattle.normal_form.proofs.PlanLemmas.{when, either}

-- a term, or an equality of two
abbrev pub IsEqualityPlan : Plan → Type 0
IsEqualityPlan (Is t) = Unit {0}
IsEqualityPlan (Make o (Is x) (Is y)) = o ≡ Eq
IsEqualityPlan p = ⊥

ordering_rules_stay : (a b : Tree) → IfSome (first_fit ordering_rules Eq a b) IsEqualityPlan
unfolding ordering_rules
ordering_rules_stay (Const c) (Const d) = tt
ordering_rules_stay (Const c) (Input i) = refl
ordering_rules_stay (Const c) (Apply op x y) = refl
ordering_rules_stay (Input i) (Const d) = tt
ordering_rules_stay (Input i) (Input j) = tt
ordering_rules_stay (Input i) (Apply op x y) = tt
ordering_rules_stay (Apply f a b) (Const d) = tt
ordering_rules_stay (Apply f a b) (Input j) = tt
ordering_rules_stay (Apply f a b) (Apply op x y) = tt

arithmetic_rules_stay : (a b : Tree) → IfSome (first_fit arithmetic_rules Eq a b) IsEqualityPlan
unfolding arithmetic_rules
arithmetic_rules_stay a (Const c) = tt
arithmetic_rules_stay a (Input i) = tt
arithmetic_rules_stay a (Apply op x y) = tt

bitwise_rules_stay : (a b : Tree) → IfSome (first_fit bitwise_rules Eq a b) IsEqualityPlan
unfolding bitwise_rules
bitwise_rules_stay a b =
    either IsEqualityPlan (equal_to_itself Eq a b) None (when IsEqualityPlan (same_tree a b) (Is (Const 1)) (λ h. tt)) tt

xor_across_equality_stays : (a b : Tree) → IfSome (xor_across_equality Eq a b) IsEqualityPlan
xor_across_equality_stays (Apply (Alu Xor) x (Const c)) (Const d) = refl
xor_across_equality_stays a b = tt

add_across_equality_stays : (a b : Tree) → IfSome (add_across_equality Eq a b) IsEqualityPlan
add_across_equality_stays (Apply (Alu Add) x (Const c)) (Const d) = refl
add_across_equality_stays a b = tt

difference_is_zero_stays : (a b : Tree) → IfSome (difference_is_zero Eq a b) IsEqualityPlan
difference_is_zero_stays (Apply (Alu Xor) x y) (Const d) = when IsEqualityPlan (nat_eq d 0) (Make Eq (Is x) (Is y)) (λ h. refl)
difference_is_zero_stays (Apply (Alu Sub) x y) (Const d) = when IsEqualityPlan (nat_eq d 0) (Make Eq (Is x) (Is y)) (λ h. refl)
difference_is_zero_stays a b = tt

truth_is_one_stays : (a b : Tree) → IfSome (truth_is_one Eq a b) IsEqualityPlan
truth_is_one_stays t (Const c) = when IsEqualityPlan (is_truth t && nat_eq c 1) (Is t) (λ h. tt)
truth_is_one_stays a b = tt

double_negation_stays : (a b : Tree) → IfSome (double_negation Eq a b) IsEqualityPlan
double_negation_stays (Apply Eq t (Const c)) (Const d) =
    when IsEqualityPlan (is_truth t && (nat_eq c 0 && nat_eq d 0)) (Is t) (λ h. tt)
double_negation_stays a b = tt

truth_is_no_larger_stays : (a b : Tree) → IfSome (truth_is_no_larger Eq a b) IsEqualityPlan
truth_is_no_larger_stays t (Const c) = when IsEqualityPlan (is_truth t && nat_lt 1 c) (Is (Const 0)) (λ h. tt)
truth_is_no_larger_stays a b = tt

zero_byte_differs_stays : (a b : Tree) → IfSome (zero_byte_differs Eq a b) IsEqualityPlan
zero_byte_differs_stays x (Const c) = when IsEqualityPlan (at_some_byte (differs_at_byte x c)) (Is (Const 0)) (λ h. tt)
zero_byte_differs_stays a b = tt

equality_rules_stay : (a b : Tree) → IfSome (first_fit equality_rules Eq a b) IsEqualityPlan
unfolding equality_rules
equality_rules_stay a b =
    let more = either IsEqualityPlan in
    more (xor_across_equality Eq a b) _ (xor_across_equality_stays a b)
    (more (add_across_equality Eq a b) _ (add_across_equality_stays a b)
    (more (difference_is_zero Eq a b) _ (difference_is_zero_stays a b)
    (more (truth_is_one Eq a b) _ (truth_is_one_stays a b)
    (more (double_negation Eq a b) _ (double_negation_stays a b)
    (more (truth_is_no_larger Eq a b) _ (truth_is_no_larger_stays a b)
    (more (zero_byte_differs Eq a b) None (zero_byte_differs_stays a b) tt))))))

order_rules_stay : (a b : Tree) → IfSome (first_fit order_rules Eq a b) IsEqualityPlan
unfolding order_rules
order_rules_stay a b = tt

byte_rules_stay : (a b : Tree) → IfSome (first_fit byte_rules Eq a b) IsEqualityPlan
unfolding byte_rules
byte_rules_stay a b = tt

joining_rules_stay : (a b : Tree) → IfSome (first_fit joining_rules Eq a b) IsEqualityPlan
unfolding joining_rules
joining_rules_stay a b = tt

rule_stays : (a b : Tree) → IfSome (first_rule Eq a b) IsEqualityPlan
unfolding first_rule
rule_stays a b =
    let more = either IsEqualityPlan in
    more (first_fit ordering_rules Eq a b) _ (ordering_rules_stay a b)
    (more (first_fit arithmetic_rules Eq a b) _ (arithmetic_rules_stay a b)
    (more (first_fit bitwise_rules Eq a b) _ (bitwise_rules_stay a b)
    (more (first_fit equality_rules Eq a b) _ (equality_rules_stay a b)
    (more (first_fit order_rules Eq a b) _ (order_rules_stay a b)
    (more (first_fit byte_rules Eq a b) _ (byte_rules_stay a b) (joining_rules_stay a b))))))

-- a plan that a rule has for an equality
pub equality_plan : (a b : Tree) (p : Plan) → Some p ≡ first_rule Eq a b → IsEqualityPlan p
equality_plan a b p e = subst (λ o. IfSome o IsEqualityPlan) (sym e) (rule_stays a b)
