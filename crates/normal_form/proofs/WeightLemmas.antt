-- Each rule lowers the weight, or keeps it and fits its own result no more.
use Rattle.std.proofs.Common.{◌≡◌, ◌+◌, ◌-◌, ◌/◌, ◌%◌, ◌^◌, ◌<◌, Bool, true, false, not, ◌&&◌, nat_eq, nat_lt, nat_le, List, Option, Some, None, ◌⊎◌, inl, inr, refl, arith}
use Rattle.std.proofs.lemmas.Bool.Decides.{nat_tests}
use Rattle.std.specs.Prelude.{IfSome}
use Rattle.rv_word.specs.declared.AluOp.TheVariants.{Add, Sub, Sll, Slt, Sltu, Xor, Srl, Sra, Or, And, Mul, Mulhsu, Div, Divu, Rem, Remu}
use Rattle.term_model.specs.declared.Op.{Op}
use Rattle.term_model.specs.declared.Op.TheVariants.{Alu, Eq, Byte, Pair, Half}
use Rattle.term_model.specs.Tree.{Tree, Const, Input, Apply, is_const}
use Rattle.term_model.specs.ZeroBytes.{is_zero_byte, is_half_word}
use Rattle.normal_form.specs.Plan.{Plan, Is, Make, Rule, only_if, with_constant}
use Rattle.normal_form.specs.ArithmeticRules.{fold_constants, constant_to_the_right, reduce_shift_amount, drop_zero, subtract_by_adding, combine_added_constants, absorb_zero, drop_neutral_constant, remainder_by_one, or_with_all_ones, drop_repeated_operand, cancel_repeated_operand, equal_to_itself, combine_bitwise_constants, drop_mask, combine_shifts, shift_all_out, commutes, is_shift, is_zero_with_zero, is_zero}
use Rattle.normal_form.specs.EqualityRules.{xor_across_equality, add_across_equality, difference_is_zero, truth_is_one, double_negation, truth_is_no_larger, zero_byte_differs}
use Rattle.normal_form.specs.OrderRules.{less_than_zero, less_than_one, more_than_zero, one_byte_is_less}
use Rattle.normal_form.specs.ByteRules.{byte_is_zero, byte_of_one_byte, byte_of_pair, byte_of_half, byte_beside_zero, byte_under_mask, byte_of_left_shift, byte_of_right_shift, pair_with_zero, half_with_zero, pair_of_own_bytes, half_of_own_bytes, is_byte_of}
use Rattle.normal_form.specs.Rules.{first_fit, first_rule, ordering_rules, arithmetic_rules, bitwise_rules, equality_rules, order_rules, byte_rules, joining_rules}
use Rattle.normal_form.specs.Norm.{op_weight, weight, plan_weight, is_restless}
use Rattle.normal_form.proofs.PlanLemmas.{when, either, EachRule, first_fit_holds}

pub op_weight_pos : (op : Op) → 0 < op_weight op
op_weight_pos (Alu Sltu) = omega arith
op_weight_pos (Alu Sub) = omega arith
op_weight_pos Pair = omega arith
op_weight_pos op = omega arith

pub weight_pos : (t : Tree) → 0 < weight t
weight_pos (Const c) = omega arith
weight_pos (Input i) = omega arith
weight_pos (Apply op a b) = omega (arith, weight_pos a, weight_pos b)

abbrev pub Lighter : Op → Tree → Tree → Plan → Type 0
Lighter op a b p = plan_weight p < weight (Apply op a b)

pub fold_constants_lowers : (op : Op) (a b : Tree) → IfSome (fold_constants op a b) (Lighter op a b)
fold_constants_lowers op (Const c) (Const d) = omega (arith, op_weight_pos op)
fold_constants_lowers op a b = tt

pub drop_zero_lowers : (op : Op) (a b : Tree) → IfSome (drop_zero op a b) (Lighter op a b)
drop_zero_lowers op x (Const c) = when (Lighter op x (Const c)) _ (Is x) (λ h. omega arith)
drop_zero_lowers op a b = tt

pub subtract_by_adding_lowers : (op : Op) (a b : Tree) → IfSome (subtract_by_adding op a b) (Lighter op a b)
subtract_by_adding_lowers (Alu Sub) x (Const c) = omega arith
subtract_by_adding_lowers op a b = tt

pub combine_added_constants_lowers : (op : Op) (a b : Tree) → IfSome (combine_added_constants op a b) (Lighter op a b)
combine_added_constants_lowers (Alu Add) (Apply (Alu Add) x (Const c)) (Const d) = omega arith
combine_added_constants_lowers op a b = tt

pub absorb_zero_lowers : (op : Op) (a b : Tree) → IfSome (absorb_zero op a b) (Lighter op a b)
absorb_zero_lowers (Alu Mulhsu) a b = when (Lighter (Alu Mulhsu) a b) _ (Is (Const 0)) (λ h. omega (arith, weight_pos a, weight_pos b))
absorb_zero_lowers op a b = when (Lighter op a b) (is_zero_with_zero op && is_zero b) (Is (Const 0)) (λ h. omega (arith, weight_pos a, weight_pos b))

pub drop_neutral_constant_lowers : (op : Op) (a b : Tree) → IfSome (drop_neutral_constant op a b) (Lighter op a b)
drop_neutral_constant_lowers (Alu And) x (Const c) = when (Lighter (Alu And) x (Const c)) _ (Is x) (λ h. omega arith)
drop_neutral_constant_lowers (Alu Mul) x (Const c) = when (Lighter (Alu Mul) x (Const c)) _ (Is x) (λ h. omega arith)
drop_neutral_constant_lowers (Alu Div) x (Const c) = when (Lighter (Alu Div) x (Const c)) _ (Is x) (λ h. omega arith)
drop_neutral_constant_lowers (Alu Divu) x (Const c) = when (Lighter (Alu Divu) x (Const c)) _ (Is x) (λ h. omega arith)
drop_neutral_constant_lowers op a b = tt

pub remainder_by_one_lowers : (op : Op) (a b : Tree) → IfSome (remainder_by_one op a b) (Lighter op a b)
remainder_by_one_lowers (Alu Rem) x (Const c) = when (Lighter (Alu Rem) x (Const c)) _ (Is (Const 0)) (λ h. omega (arith, weight_pos x))
remainder_by_one_lowers (Alu Remu) x (Const c) = when (Lighter (Alu Remu) x (Const c)) _ (Is (Const 0)) (λ h. omega (arith, weight_pos x))
remainder_by_one_lowers op a b = tt

pub or_with_all_ones_lowers : (op : Op) (a b : Tree) → IfSome (or_with_all_ones op a b) (Lighter op a b)
or_with_all_ones_lowers (Alu Or) x (Const c) = when (Lighter (Alu Or) x (Const c)) _ (Is (Const (2 ^ 32 - 1))) (λ h. omega (arith, weight_pos x))
or_with_all_ones_lowers op a b = tt

pub drop_repeated_operand_lowers : (op : Op) (a b : Tree) → IfSome (drop_repeated_operand op a b) (Lighter op a b)
drop_repeated_operand_lowers (Alu And) a b = when (Lighter (Alu And) a b) _ (Is a) (λ h. omega arith)
drop_repeated_operand_lowers (Alu Or) a b = when (Lighter (Alu Or) a b) _ (Is a) (λ h. omega arith)
drop_repeated_operand_lowers op a b = tt

pub cancel_repeated_operand_lowers : (op : Op) (a b : Tree) → IfSome (cancel_repeated_operand op a b) (Lighter op a b)
cancel_repeated_operand_lowers (Alu Xor) a b = when (Lighter (Alu Xor) a b) _ (Is (Const 0)) (λ h. omega (arith, weight_pos a, weight_pos b))
cancel_repeated_operand_lowers (Alu Sub) a b = when (Lighter (Alu Sub) a b) _ (Is (Const 0)) (λ h. omega (arith, weight_pos a, weight_pos b))
cancel_repeated_operand_lowers (Alu Slt) a b = when (Lighter (Alu Slt) a b) _ (Is (Const 0)) (λ h. omega (arith, weight_pos a, weight_pos b))
cancel_repeated_operand_lowers (Alu Sltu) a b = when (Lighter (Alu Sltu) a b) _ (Is (Const 0)) (λ h. omega (arith, weight_pos a, weight_pos b))
cancel_repeated_operand_lowers op a b = tt

pub equal_to_itself_lowers : (op : Op) (a b : Tree) → IfSome (equal_to_itself op a b) (Lighter op a b)
equal_to_itself_lowers Eq a b = when (Lighter Eq a b) _ (Is (Const 1)) (λ h. omega (arith, weight_pos a, weight_pos b))
equal_to_itself_lowers op a b = tt

pub combine_bitwise_constants_lowers : (op : Op) (a b : Tree) → IfSome (combine_bitwise_constants op a b) (Lighter op a b)
combine_bitwise_constants_lowers (Alu And) (Apply (Alu And) x (Const c)) (Const d) = omega arith
combine_bitwise_constants_lowers (Alu Or) (Apply (Alu Or) x (Const c)) (Const d) = omega arith
combine_bitwise_constants_lowers (Alu Xor) (Apply (Alu Xor) x (Const c)) (Const d) = omega arith
combine_bitwise_constants_lowers op a b = tt

pub drop_mask_lowers : (op : Op) (a b : Tree) → IfSome (drop_mask op a b) (Lighter op a b)
drop_mask_lowers (Alu And) x (Const c) = when (Lighter (Alu And) x (Const c)) _ (Is x) (λ h. omega arith)
drop_mask_lowers op a b = tt

pub combine_shifts_lowers : (op : Op) (a b : Tree) → IfSome (combine_shifts op a b) (Lighter op a b)
combine_shifts_lowers (Alu Sll) (Apply (Alu Sll) x (Const c)) (Const d) = when (Lighter (Alu Sll) (Apply (Alu Sll) x (Const c)) (Const d)) _ (with_constant (Alu Sll) x (c + d)) (λ h. omega arith)
combine_shifts_lowers (Alu Srl) (Apply (Alu Srl) x (Const c)) (Const d) = when (Lighter (Alu Srl) (Apply (Alu Srl) x (Const c)) (Const d)) _ (with_constant (Alu Srl) x (c + d)) (λ h. omega arith)
combine_shifts_lowers op a b = tt

pub shift_all_out_lowers : (op : Op) (a b : Tree) → IfSome (shift_all_out op a b) (Lighter op a b)
shift_all_out_lowers (Alu Sll) (Apply (Alu Sll) x (Const c)) (Const d) = when (Lighter (Alu Sll) (Apply (Alu Sll) x (Const c)) (Const d)) _ (Is (Const 0)) (λ h. omega (arith, weight_pos x))
shift_all_out_lowers (Alu Srl) (Apply (Alu Srl) x (Const c)) (Const d) = when (Lighter (Alu Srl) (Apply (Alu Srl) x (Const c)) (Const d)) _ (Is (Const 0)) (λ h. omega (arith, weight_pos x))
shift_all_out_lowers op a b = tt

pub xor_across_equality_lowers : (op : Op) (a b : Tree) → IfSome (xor_across_equality op a b) (Lighter op a b)
xor_across_equality_lowers Eq (Apply (Alu Xor) x (Const c)) (Const d) = omega arith
xor_across_equality_lowers op a b = tt

pub add_across_equality_lowers : (op : Op) (a b : Tree) → IfSome (add_across_equality op a b) (Lighter op a b)
add_across_equality_lowers Eq (Apply (Alu Add) x (Const c)) (Const d) = omega arith
add_across_equality_lowers op a b = tt

pub difference_is_zero_lowers : (op : Op) (a b : Tree) → IfSome (difference_is_zero op a b) (Lighter op a b)
difference_is_zero_lowers Eq (Apply (Alu Xor) x y) (Const d) = when (Lighter Eq (Apply (Alu Xor) x y) (Const d)) _ (Make Eq (Is x) (Is y)) (λ h. omega arith)
difference_is_zero_lowers Eq (Apply (Alu Sub) x y) (Const d) = when (Lighter Eq (Apply (Alu Sub) x y) (Const d)) _ (Make Eq (Is x) (Is y)) (λ h. omega arith)
difference_is_zero_lowers op a b = tt

pub truth_is_one_lowers : (op : Op) (a b : Tree) → IfSome (truth_is_one op a b) (Lighter op a b)
truth_is_one_lowers Eq t (Const c) = when (Lighter Eq t (Const c)) _ (Is t) (λ h. omega arith)
truth_is_one_lowers op a b = tt

pub double_negation_lowers : (op : Op) (a b : Tree) → IfSome (double_negation op a b) (Lighter op a b)
double_negation_lowers Eq (Apply Eq t (Const c)) (Const d) = when (Lighter Eq (Apply Eq t (Const c)) (Const d)) _ (Is t) (λ h. omega arith)
double_negation_lowers op a b = tt

pub truth_is_no_larger_lowers : (op : Op) (a b : Tree) → IfSome (truth_is_no_larger op a b) (Lighter op a b)
truth_is_no_larger_lowers Eq t (Const c) = when (Lighter Eq t (Const c)) _ (Is (Const 0)) (λ h. omega (arith, weight_pos t))
truth_is_no_larger_lowers op a b = tt

pub zero_byte_differs_lowers : (op : Op) (a b : Tree) → IfSome (zero_byte_differs op a b) (Lighter op a b)
zero_byte_differs_lowers Eq x (Const c) = when (Lighter Eq x (Const c)) _ (Is (Const 0)) (λ h. omega (arith, weight_pos x))
zero_byte_differs_lowers op a b = tt

pub less_than_zero_lowers : (op : Op) (a b : Tree) → IfSome (less_than_zero op a b) (Lighter op a b)
less_than_zero_lowers (Alu Sltu) x (Const c) = when (Lighter (Alu Sltu) x (Const c)) _ (Is (Const 0)) (λ h. omega (arith, weight_pos x))
less_than_zero_lowers op a b = tt

pub less_than_one_lowers : (op : Op) (a b : Tree) → IfSome (less_than_one op a b) (Lighter op a b)
less_than_one_lowers (Alu Sltu) x (Const c) = when (Lighter (Alu Sltu) x (Const c)) _ (with_constant Eq x 0) (λ h. omega arith)
less_than_one_lowers op a b = tt

pub more_than_zero_lowers : (op : Op) (a b : Tree) → IfSome (more_than_zero op a b) (Lighter op a b)
more_than_zero_lowers (Alu Sltu) (Const c) x = when (Lighter (Alu Sltu) (Const c) x) _ (Make Eq (with_constant Eq x 0) (Is (Const 0))) (λ h. omega arith)
more_than_zero_lowers op a b = tt

pub one_byte_is_less_lowers : (op : Op) (a b : Tree) → IfSome (one_byte_is_less op a b) (Lighter op a b)
one_byte_is_less_lowers (Alu Sltu) x (Const c) = when (Lighter (Alu Sltu) x (Const c)) _ (Is (Const 1)) (λ h. omega (arith, weight_pos x))
one_byte_is_less_lowers op a b = tt

pub byte_is_zero_lowers : (op : Op) (a b : Tree) → IfSome (byte_is_zero op a b) (Lighter op a b)
byte_is_zero_lowers Byte x (Const k) = when (Lighter Byte x (Const k)) _ (Is (Const 0)) (λ h. omega (arith, weight_pos x))
byte_is_zero_lowers op a b = tt

pub byte_of_one_byte_lowers : (op : Op) (a b : Tree) → IfSome (byte_of_one_byte op a b) (Lighter op a b)
byte_of_one_byte_lowers Byte x (Const k) = when (Lighter Byte x (Const k)) _ (Is x) (λ h. omega arith)
byte_of_one_byte_lowers op a b = tt

pub byte_of_pair_lowers : (op : Op) (a b : Tree) → IfSome (byte_of_pair op a b) (Lighter op a b)
byte_of_pair_lowers Byte (Apply Pair x y) (Const k) =
    let L = Lighter Byte (Apply Pair x y) (Const k) in
    either L (only_if (nat_eq k 0) (with_constant Byte x 0)) (only_if (nat_eq k 1) (with_constant Byte y 0))
    (when L (nat_eq k 0) (with_constant Byte x 0) (λ h. omega arith)) (when L (nat_eq k 1) (with_constant Byte y 0) (λ h. omega arith))
byte_of_pair_lowers op a b = tt

pub byte_of_half_lowers : (op : Op) (a b : Tree) → IfSome (byte_of_half op a b) (Lighter op a b)
byte_of_half_lowers Byte (Apply Half x y) (Const k) =
    let L = Lighter Byte (Apply Half x y) (Const k) in
    either L (only_if (nat_lt k 2) (with_constant Byte x k)) (only_if (nat_le 2 k) (with_constant Byte y (k - 2)))
    (when L (nat_lt k 2) (with_constant Byte x k) (λ h. omega arith)) (when L (nat_le 2 k) (with_constant Byte y (k - 2)) (λ h. omega arith))
byte_of_half_lowers op a b = tt

pub byte_beside_zero_lowers : (op : Op) (a b : Tree) → IfSome (byte_beside_zero op a b) (Lighter op a b)
byte_beside_zero_lowers Byte (Apply (Alu Or) x y) (Const k) =
    let L = Lighter Byte (Apply (Alu Or) x y) (Const k) in
    either L (only_if (is_zero_byte y k) (with_constant Byte x k)) (only_if (is_zero_byte x k) (with_constant Byte y k))
    (when L (is_zero_byte y k) (with_constant Byte x k) (λ h. omega arith)) (when L (is_zero_byte x k) (with_constant Byte y k) (λ h. omega arith))
byte_beside_zero_lowers Byte (Apply (Alu Xor) x y) (Const k) =
    let L = Lighter Byte (Apply (Alu Xor) x y) (Const k) in
    either L (only_if (is_zero_byte y k) (with_constant Byte x k)) (only_if (is_zero_byte x k) (with_constant Byte y k))
    (when L (is_zero_byte y k) (with_constant Byte x k) (λ h. omega arith)) (when L (is_zero_byte x k) (with_constant Byte y k) (λ h. omega arith))
byte_beside_zero_lowers op a b = tt

pub byte_under_mask_lowers : (op : Op) (a b : Tree) → IfSome (byte_under_mask op a b) (Lighter op a b)
byte_under_mask_lowers Byte (Apply (Alu And) x (Const c)) (Const k) = when (Lighter Byte (Apply (Alu And) x (Const c)) (Const k)) _ (with_constant Byte x k) (λ h. omega arith)
byte_under_mask_lowers op a b = tt

pub byte_of_left_shift_lowers : (op : Op) (a b : Tree) → IfSome (byte_of_left_shift op a b) (Lighter op a b)
byte_of_left_shift_lowers Byte (Apply (Alu Sll) x (Const c)) (Const k) = when (Lighter Byte (Apply (Alu Sll) x (Const c)) (Const k)) _ (with_constant Byte x (k - c / 8)) (λ h. omega arith)
byte_of_left_shift_lowers op a b = tt

pub byte_of_right_shift_lowers : (op : Op) (a b : Tree) → IfSome (byte_of_right_shift op a b) (Lighter op a b)
byte_of_right_shift_lowers Byte (Apply (Alu Srl) x (Const c)) (Const k) = when (Lighter Byte (Apply (Alu Srl) x (Const c)) (Const k)) _ (with_constant Byte x (k + c / 8)) (λ h. omega arith)
byte_of_right_shift_lowers Byte (Apply (Alu Sra) x (Const c)) (Const k) = when (Lighter Byte (Apply (Alu Sra) x (Const c)) (Const k)) _ (with_constant Byte x (k + c / 8)) (λ h. omega arith)
byte_of_right_shift_lowers op a b = tt

pub pair_with_zero_lowers : (op : Op) (a b : Tree) → IfSome (pair_with_zero op a b) (Lighter op a b)
pair_with_zero_lowers Pair x (Const c) = when (Lighter Pair x (Const c)) _ (with_constant Byte x 0) (λ h. omega arith)
pair_with_zero_lowers op a b = tt

pub half_with_zero_lowers : (op : Op) (a b : Tree) → IfSome (half_with_zero op a b) (Lighter op a b)
half_with_zero_lowers Half x (Const c) = when (Lighter Half x (Const c)) _ (Is x) (λ h. omega arith)
half_with_zero_lowers op a b = tt

pub pair_of_own_bytes_lowers : (op : Op) (a b : Tree) → IfSome (pair_of_own_bytes op a b) (Lighter op a b)
pair_of_own_bytes_lowers Pair (Apply Byte x j) b = when (Lighter Pair (Apply Byte x j) b) ((is_byte_of x 0 (Apply Byte x j) && is_byte_of x 1 b) && is_half_word x) (Is x) (λ h. omega arith)
pair_of_own_bytes_lowers op a b = tt

pub half_of_own_bytes_lowers : (op : Op) (a b : Tree) → IfSome (half_of_own_bytes op a b) (Lighter op a b)
half_of_own_bytes_lowers Half (Apply Pair (Apply Byte x j) q) (Apply Pair r s) =
    when (Lighter Half (Apply Pair (Apply Byte x j) q) (Apply Pair r s))
    ((is_byte_of x 0 (Apply Byte x j) && is_byte_of x 1 q) && (is_byte_of x 2 r && is_byte_of x 3 s)) (Is x) (λ h. omega arith)
half_of_own_bytes_lowers op a b = tt

-- ---- the two rules that keep the weight

-- the operation again, of the same weight, where neither of the two rules fits
pub record Steadies (op : Op) (a b : Tree) (p : Plan) : Type 0 where
  pub left : Tree
  pub right : Tree
  pub plan : p ≡ Make op (Is left) (Is right)
  pub same : weight (Apply op left right) ≡ weight (Apply op a b)
  pub before : is_restless op a b ≡ true
  pub after : is_restless op left right ≡ false

abbrev pub Lowers : Op → Tree → Tree → Plan → Type 0
Lowers op a b p = Lighter op a b p ⊎ Steadies op a b p

-- no shift commutes
pub no_shift : (op : Op) → commutes op ≡ true → is_shift op ≡ false
no_shift (Alu Sll) e = cc
no_shift (Alu Srl) e = cc
no_shift (Alu Sra) e = cc
no_shift op e = refl

pub not_commuting : (op : Op) → is_shift op ≡ true → commutes op ≡ false
not_commuting (Alu Sll) e = refl
not_commuting (Alu Srl) e = refl
not_commuting (Alu Sra) e = refl
not_commuting op e = cc

parts : (s t : Bool) → (s && t) ≡ true → (s ≡ true) × (t ≡ true)
parts true t e = (refl, e)
parts false t e = cc

pub constant_to_the_right_steadies : (op : Op) (a b : Tree) → IfSome (constant_to_the_right op a b) (Steadies op a b)
constant_to_the_right_steadies op (Const c) x =
    when (Steadies op (Const c) x) (commutes op && not (is_const x)) (with_constant op x c)
    (λ h. let p = parts (commutes op) (not (is_const x)) h in
    let none : is_const x ≡ false = grind (arith, p.1) in
    record { left = x; right = Const c; plan = refl; same = omega arith; before = rw h refl; after = rw (none, p.0, no_shift op p.0) refl })
constant_to_the_right_steadies op a b = tt

pub reduce_shift_amount_steadies : (op : Op) (a b : Tree) → IfSome (reduce_shift_amount op a b) (Steadies op a b)
reduce_shift_amount_steadies op x (Const c) =
    when (Steadies op x (Const c)) (is_shift op && nat_lt 31 c) (with_constant op x (c % 32))
    (λ h. let p = parts (is_shift op) (nat_lt 31 c) h in
    let small : nat_lt 31 (c % 32) ≡ false = grind (arith, nat_tests) in
    record { left = x; right = Const (c % 32); plan = refl; same = omega arith; before = rw (not_commuting op p.0, h) refl; after = rw (not_commuting op p.0, p.0, small) refl })
reduce_shift_amount_steadies op a b = tt

steadied : (op : Op) (a b : Tree) (o : Option Plan) → IfSome o (Steadies op a b) → IfSome o (Lowers op a b)
steadied op a b None h = tt
steadied op a b (Some p) h = inr h

lightened : (op : Op) (a b : Tree) (o : Option Plan) → IfSome o (Lighter op a b) → IfSome o (Lowers op a b)
lightened op a b None h = tt
lightened op a b (Some p) h = inl h

abbrev Always : Op → Tree → Tree → Type 0
Always op a b = Unit {0}

-- a group of rules that lower the weight
group_lowers : (rules : List Rule) → EachRule Always Lighter rules → (op : Op) (a b : Tree) → IfSome (first_fit rules op a b) (Lowers op a b)
group_lowers rules h op a b = lightened op a b (first_fit rules op a b) (first_fit_holds Always Lighter rules h op a b tt)

arithmetic_rules_lower : (op : Op) (a b : Tree) → IfSome (first_fit arithmetic_rules op a b) (Lowers op a b)
unfolding arithmetic_rules
arithmetic_rules_lower =
    group_lowers arithmetic_rules
    ((λ op a b u. drop_zero_lowers op a b), ((λ op a b u. subtract_by_adding_lowers op a b), ((λ op a b u. combine_added_constants_lowers op a b), ((λ op a b u. absorb_zero_lowers op a b), ((λ op a b u. drop_neutral_constant_lowers op a b), ((λ op a b u. remainder_by_one_lowers op a b), ((λ op a b u. or_with_all_ones_lowers op a b), tt)))))))

bitwise_rules_lower : (op : Op) (a b : Tree) → IfSome (first_fit bitwise_rules op a b) (Lowers op a b)
unfolding bitwise_rules
bitwise_rules_lower =
    group_lowers bitwise_rules
    ((λ op a b u. drop_repeated_operand_lowers op a b), ((λ op a b u. cancel_repeated_operand_lowers op a b), ((λ op a b u. equal_to_itself_lowers op a b), ((λ op a b u. combine_bitwise_constants_lowers op a b), ((λ op a b u. drop_mask_lowers op a b), ((λ op a b u. combine_shifts_lowers op a b), ((λ op a b u. shift_all_out_lowers op a b), tt)))))))

equality_rules_lower : (op : Op) (a b : Tree) → IfSome (first_fit equality_rules op a b) (Lowers op a b)
unfolding equality_rules
equality_rules_lower =
    group_lowers equality_rules
    ((λ op a b u. xor_across_equality_lowers op a b), ((λ op a b u. add_across_equality_lowers op a b), ((λ op a b u. difference_is_zero_lowers op a b), ((λ op a b u. truth_is_one_lowers op a b), ((λ op a b u. double_negation_lowers op a b), ((λ op a b u. truth_is_no_larger_lowers op a b), ((λ op a b u. zero_byte_differs_lowers op a b), tt)))))))

order_rules_lower : (op : Op) (a b : Tree) → IfSome (first_fit order_rules op a b) (Lowers op a b)
unfolding order_rules
order_rules_lower =
    group_lowers order_rules
    ((λ op a b u. less_than_zero_lowers op a b), ((λ op a b u. less_than_one_lowers op a b), ((λ op a b u. more_than_zero_lowers op a b), ((λ op a b u. one_byte_is_less_lowers op a b), tt))))

byte_rules_lower : (op : Op) (a b : Tree) → IfSome (first_fit byte_rules op a b) (Lowers op a b)
unfolding byte_rules
byte_rules_lower =
    group_lowers byte_rules
    ((λ op a b u. byte_is_zero_lowers op a b), ((λ op a b u. byte_of_one_byte_lowers op a b), ((λ op a b u. byte_of_pair_lowers op a b), ((λ op a b u. byte_of_half_lowers op a b), ((λ op a b u. byte_beside_zero_lowers op a b), ((λ op a b u. byte_under_mask_lowers op a b), ((λ op a b u. byte_of_left_shift_lowers op a b), ((λ op a b u. byte_of_right_shift_lowers op a b), tt))))))))

joining_rules_lower : (op : Op) (a b : Tree) → IfSome (first_fit joining_rules op a b) (Lowers op a b)
unfolding joining_rules
joining_rules_lower =
    group_lowers joining_rules
    ((λ op a b u. pair_with_zero_lowers op a b), ((λ op a b u. half_with_zero_lowers op a b), ((λ op a b u. pair_of_own_bytes_lowers op a b), ((λ op a b u. half_of_own_bytes_lowers op a b), tt))))

ordering_rules_lower : (op : Op) (a b : Tree) → IfSome (first_fit ordering_rules op a b) (Lowers op a b)
unfolding ordering_rules
ordering_rules_lower op a b =
    let more = either (Lowers op a b) in
    more (fold_constants op a b) _ (lightened op a b (fold_constants op a b) (fold_constants_lowers op a b))
    (more (constant_to_the_right op a b) _ (steadied op a b (constant_to_the_right op a b) (constant_to_the_right_steadies op a b))
    (more (reduce_shift_amount op a b) None (steadied op a b (reduce_shift_amount op a b) (reduce_shift_amount_steadies op a b)) tt))

pub rule_lowers : (op : Op) (a b : Tree) → IfSome (first_rule op a b) (Lowers op a b)
unfolding first_rule
rule_lowers op a b =
    let more = either (Lowers op a b) in
    more (first_fit ordering_rules op a b) _ (ordering_rules_lower op a b)
    (more (first_fit arithmetic_rules op a b) _ (arithmetic_rules_lower op a b)
    (more (first_fit bitwise_rules op a b) _ (bitwise_rules_lower op a b)
    (more (first_fit equality_rules op a b) _ (equality_rules_lower op a b)
    (more (first_fit order_rules op a b) _ (order_rules_lower op a b)
    (more (first_fit byte_rules op a b) _ (byte_rules_lower op a b) (joining_rules_lower op a b))))))
