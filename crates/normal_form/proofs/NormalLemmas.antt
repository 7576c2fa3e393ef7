-- The normal form of normal operands is normal, and has the operation's value.
use Rattle.std.proofs.Common.{◌≡◌, ℕ, zero, suc, ◌+◌, ◌*◌, ◌<◌, inl, inr, nat_lt, List, [], Option, Some, None, refl, ap, sym, ◌∙◌, subst, arith}
use Rattle.std.proofs.lemmas.Bool.Decides.{nat_tests}
use Rattle.std.specs.Prelude.{IfSome}
use Rattle.term_model.specs.declared.Op.{Op}
use Rattle.term_model.specs.Tree.{Tree, Const, Input, Apply}
use Rattle.term_model.specs.Value.{op_value, val}
use Rattle.term_model.specs.Words.{HasWords, AreBytes}
use Rattle.normal_form.specs.Plan.{Plan, Is, Make, or_else}
use Rattle.normal_form.specs.ArithmeticRules.{fold_constants, constant_to_the_right, reduce_shift_amount}
use Rattle.normal_form.specs.Rules.{first_fit, first_rule, ordering_rules, arithmetic_rules, bitwise_rules, equality_rules, order_rules, byte_rules, joining_rules}
use Rattle.normal_form.specs.Norm.{carried_out, after_rule, norm, plan_weight, measure}
use Rattle.term_model.specs.Places.{ReadsNothing}
use Rattle.normal_form.specs.Normal.{IsNormal}
use Rattle.term_model.specs.ByteNumber.{TakesByteNumber}
use Rattle.normal_form.specs.Laws.{plan_value}
use Rattle.normal_form.proofs.PlanLemmas.{either, either_first, none_left, none_right, first_fit_holds}
use Rattle.normal_form.proofs.WeightLemmas.{Lowers, rule_lowers, op_weight_pos}
use Rattle.normal_form.proofs.NormLemmas.{carried_out_light, norm_light, norm-is, measure_le, steady_below}
use Rattle.normal_form.proofs.NumberLemmas.{told}
use Rattle.normal_form.proofs.ValueLemmas.{AreSound, IsReducedShift, IsReduced, Keeps, fold_constants_keeps, constant_to_the_right_keeps, reduce_shift_amount_keeps, drop_zero_keeps, subtract_by_adding_keeps, combine_added_constants_keeps, absorb_zero_keeps, drop_neutral_constant_keeps, remainder_by_one_keeps, or_with_all_ones_keeps, drop_repeated_operand_keeps, cancel_repeated_operand_keeps, equal_to_itself_keeps, combine_bitwise_constants_keeps, drop_mask_keeps, combine_shifts_keeps, shift_all_out_keeps, xor_across_equality_keeps, add_across_equality_keeps, difference_is_zero_keeps, truth_is_one_keeps, double_negation_keeps, truth_is_no_larger_keeps, zero_byte_differs_keeps, less_than_zero_keeps, less_than_one_keeps, more_than_zero_keeps, one_byte_is_less_keeps, byte_is_zero_keeps, byte_of_one_byte_keeps, byte_of_pair_keeps, byte_of_half_keeps, byte_beside_zero_keeps, byte_under_mask_keeps, byte_of_left_shift_keeps, byte_of_right_shift_keeps, pair_with_zero_keeps, half_with_zero_keeps, pair_of_own_bytes_keeps, half_of_own_bytes_keeps}
use Rattle.normal_form.proofs.FineLemmas.{AreNormal, IsFine, planned_byte, rule_fine}

pub normal_words : (t : Tree) → IsNormal t → HasWords t
normal_words (Const c) h = h
normal_words (Input i) h = tt
normal_words (Apply op a b) h = (normal_words a h.0, normal_words b h.1)

pub sound_of : (op : Op) (a b : Tree) → AreNormal op a b → AreSound op a b
sound_of op a b g = record { first = normal_words a g.first; second = normal_words b g.second; byte = g.byte }

none_reduced : (op : Op) (a b : Tree) → first_fit ordering_rules op a b ≡ None → reduce_shift_amount op a b ≡ None
unfolding ordering_rules
none_reduced op a b e =
    none_left (reduce_shift_amount op a b) None
    (none_right (constant_to_the_right op a b) (or_else (reduce_shift_amount op a b) None)
    (none_right (fold_constants op a b) (or_else (constant_to_the_right op a b) (or_else (reduce_shift_amount op a b) None)) e))

none_ordered : (op : Op) (a b : Tree) → first_rule op a b ≡ None → first_fit ordering_rules op a b ≡ None
unfolding first_rule
none_ordered op a b e = none_left (first_fit ordering_rules op a b) _ e

pub reduced_of : (op : Op) (a b : Tree) → reduce_shift_amount op a b ≡ None → IsReducedShift op b
reduced_of op a (Const c) e =
    λ s. told (nat_lt 31 c) (λ t. absurd (let f = rw (s, t) at e in cc)) (λ t. grind (arith, nat_tests))
reduced_of op a (Input i) e = tt
reduced_of op a (Apply f x y) e = tt

pub normal_reduced : (t : Tree) → IsNormal t → IsReduced t
normal_reduced (Const c) h = tt
normal_reduced (Input i) h = tt
normal_reduced (Apply op a b) h = reduced_of op a b (none_reduced op a b (none_ordered op a b h.3))

-- the operands, where no shift is by 32 or more
pub record AreReduced (op : Op) (a b : Tree) : Type 0 where
  pub sound : AreSound op a b
  pub shift : IsReducedShift op b
  pub top : IsReduced a

module _ (input : List ℕ) (bytes : AreBytes input) where
  abbrev Kept : Op → Tree → Tree → Plan → Type 0
  Kept op a b p = Keeps input bytes op a b p

  ordering_rules_keep : (op : Op) (a b : Tree) → AreSound op a b → IfSome (first_fit ordering_rules op a b) (Kept op a b)
  unfolding ordering_rules
  ordering_rules_keep =
      first_fit_holds AreSound Kept ordering_rules
      (fold_constants_keeps input bytes, (constant_to_the_right_keeps input bytes, (reduce_shift_amount_keeps input bytes, tt)))

  arithmetic_rules_keep : (op : Op) (a b : Tree) → AreSound op a b → IfSome (first_fit arithmetic_rules op a b) (Kept op a b)
  unfolding arithmetic_rules
  arithmetic_rules_keep =
      first_fit_holds AreSound Kept arithmetic_rules
      (drop_zero_keeps input bytes, (subtract_by_adding_keeps input bytes, (combine_added_constants_keeps input bytes, (absorb_zero_keeps input bytes, (drop_neutral_constant_keeps input bytes, (remainder_by_one_keeps input bytes, (or_with_all_ones_keeps input bytes, tt)))))))

  bitwise_rules_keep : (op : Op) (a b : Tree) → AreReduced op a b → IfSome (first_fit bitwise_rules op a b) (Kept op a b)
  unfolding bitwise_rules
  bitwise_rules_keep =
      first_fit_holds AreReduced Kept bitwise_rules
      ((λ op a b g. drop_repeated_operand_keeps input bytes op a b g.sound), ((λ op a b g. cancel_repeated_operand_keeps input bytes op a b g.sound), ((λ op a b g. equal_to_itself_keeps input bytes op a b g.sound), ((λ op a b g. combine_bitwise_constants_keeps input bytes op a b g.sound), ((λ op a b g. drop_mask_keeps input bytes op a b g.sound), ((λ op a b g. combine_shifts_keeps input bytes op a b g.sound), ((λ op a b g. shift_all_out_keeps input bytes op a b g.sound g.shift g.top), tt)))))))

  equality_rules_keep : (op : Op) (a b : Tree) → AreSound op a b → IfSome (first_fit equality_rules op a b) (Kept op a b)
  unfolding equality_rules
  equality_rules_keep =
      first_fit_holds AreSound Kept equality_rules
      (xor_across_equality_keeps input bytes, (add_across_equality_keeps input bytes, (difference_is_zero_keeps input bytes, (truth_is_one_keeps input bytes, (double_negation_keeps input bytes, (truth_is_no_larger_keeps input bytes, (zero_byte_differs_keeps input bytes, tt)))))))

  order_rules_keep : (op : Op) (a b : Tree) → AreSound op a b → IfSome (first_fit order_rules op a b) (Kept op a b)
  unfolding order_rules
  order_rules_keep =
      first_fit_holds AreSound Kept order_rules
      (less_than_zero_keeps input bytes, (less_than_one_keeps input bytes, (more_than_zero_keeps input bytes, (one_byte_is_less_keeps input bytes, tt))))

  byte_rules_keep : (op : Op) (a b : Tree) → AreSound op a b → IfSome (first_fit byte_rules op a b) (Kept op a b)
  unfolding byte_rules
  byte_rules_keep =
      first_fit_holds AreSound Kept byte_rules
      (byte_is_zero_keeps input bytes, (byte_of_one_byte_keeps input bytes, (byte_of_pair_keeps input bytes, (byte_of_half_keeps input bytes, (byte_beside_zero_keeps input bytes, (byte_under_mask_keeps input bytes, (byte_of_left_shift_keeps input bytes, (byte_of_right_shift_keeps input bytes, tt))))))))

  joining_rules_keep : (op : Op) (a b : Tree) → AreSound op a b → IfSome (first_fit joining_rules op a b) (Kept op a b)
  unfolding joining_rules
  joining_rules_keep =
      first_fit_holds AreSound Kept joining_rules
      (pair_with_zero_keeps input bytes, (half_with_zero_keeps input bytes, (pair_of_own_bytes_keeps input bytes, (half_of_own_bytes_keeps input bytes, tt))))

  pub rule_keeps : (op : Op) (a b : Tree) → AreNormal op a b → IfSome (first_rule op a b) (Kept op a b)
  unfolding first_rule
  rule_keeps op a b g =
      let s = sound_of op a b g in
      let more = either (Kept op a b) in
      either_first (Kept op a b) (first_fit ordering_rules op a b) _ (ordering_rules_keep op a b s)
      (λ e. let r : AreReduced op a b = record { sound = s; shift = reduced_of op a b (none_reduced op a b e); top = normal_reduced a g.first } in
      more (first_fit arithmetic_rules op a b) _ (arithmetic_rules_keep op a b s)
      (more (first_fit bitwise_rules op a b) _ (bitwise_rules_keep op a b r)
      (more (first_fit equality_rules op a b) _ (equality_rules_keep op a b s)
      (more (first_fit order_rules op a b) _ (order_rules_keep op a b s)
      (more (first_fit byte_rules op a b) _ (byte_rules_keep op a b s) (joining_rules_keep op a b s))))))

  -- normal, and of the operation's value
  pub record IsNormOf (op : Op) (a b t : Tree) : Type 0 where
    pub normal : IsNormal t
    pub value : val t input ≡ op_value op (val a input) (val b input)

  abbrev NormBelow : ℕ → Type 0
  NormBelow m = (op : Op) (a b : Tree) → measure op a b < m → AreNormal op a b → IsNormOf op a b (norm op a b)

  carried_out_good : (m : ℕ) → NormBelow m → (p : Plan) → 2 * plan_weight p + 1 < m → IsFine p → IsNormal (carried_out norm p) × (val (carried_out norm p) input ≡ plan_value p input)
  carried_out_good m below (Is t) l f = (f, refl)
  carried_out_good m below (Make op p q) l f =
      let x : Tree = carried_out norm p in
      let y : Tree = carried_out norm q in
      let left = carried_out_good m below p (omega (arith, op_weight_pos op)) f.0 in
      let right = carried_out_good m below q (omega (arith, op_weight_pos op)) f.1 in
      let small : measure op x y < m =
      omega (arith, measure_le op x y, carried_out_light norm norm_light p, carried_out_light norm norm_light q) in
      let made = below op x y small (record { first = left.0; second = right.0; byte = planned_byte norm op q f.2 }) in
      let operands : op_value op (val x input) (val y input) ≡ op_value op (plan_value p input) (plan_value q input) =
      ap (λ n. op_value op n (val y input)) left.1 ∙ ap (op_value op (plan_value p input)) right.1 in
      (made.normal, made.value ∙ operands)

  after_rule_good : (op : Op) (a b : Tree) → NormBelow (measure op a b) → AreNormal op a b → (o : Option Plan) → first_rule op a b ≡ o → IfSome o (Lowers op a b) → IfSome o IsFine → IfSome o (Kept op a b) → IsNormOf op a b (after_rule norm op a b o)
  after_rule_good op a b below g None e l f k = record { normal = (g.first, g.second, g.byte, e); value = refl }
  after_rule_good op a b below g (Some p) e (inl h) f k =
      let made = carried_out_good (measure op a b) below p (omega arith) f in
      record { normal = made.0; value = made.1 ∙ k }
  after_rule_good op a b below g (Some p) e (inr h) f k =
      let f' = subst IsFine h.plan f in
      let k' = subst (Kept op a b) h.plan k in
      let made = below op h.left h.right (steady_below op a b p h) (record { first = f'.0; second = f'.1; byte = planned_byte norm op (Is h.right) f'.2 }) in
      let result : IsNormOf op a b (norm op h.left h.right) = record { normal = made.normal; value = made.value ∙ k' } in
      subst (λ q. IsNormOf op a b (carried_out norm q)) (sym h.plan) result

  norm_good_below : (n : ℕ) → NormBelow n
  norm_good_below zero op a b l g = absurd (omega arith)
  norm_good_below (suc n) op a b l g =
      subst (IsNormOf op a b) (sym (norm-is op a b))
      (after_rule_good op a b (λ f x y s h. norm_good_below n f x y (omega arith) h) g (first_rule op a b) refl (rule_lowers op a b) (rule_fine op a b g) (rule_keeps op a b g))

  pub norm_good : (op : Op) (a b : Tree) → AreNormal op a b → IsNormOf op a b (norm op a b)
  norm_good op a b g = norm_good_below (suc (measure op a b)) op a b (omega arith) g

-- the empty input is bytes: whether a term is normal does not depend on it
no_input : AreBytes []
no_input i = omega arith

pub norm_normal : (op : Op) (a b : Tree) → IsNormal a → IsNormal b → TakesByteNumber op b → IsNormal (norm op a b)
norm_normal op a b h k l = (norm_good [] no_input op a b (record { first = h; second = k; byte = l })).normal

no_constants : (op : Op) (c d : ℕ) → first_rule op (Const c) (Const d) ≡ None → ⊥
unfolding ordering_rules
no_constants op c d e =
    let f : Some (Is (Const (op_value op c d))) ≡ None =
    none_left (fold_constants op (Const c) (Const d)) (or_else (constant_to_the_right op (Const c) (Const d)) (or_else (reduce_shift_amount op (Const c) (Const d)) None))
    (none_ordered op (Const c) (Const d) e) in
    cc

-- a normal term that reads no input is a constant
pub constant_of : (t : Tree) → IsNormal t → ReadsNothing t → (c : ℕ) × (t ≡ Const c)
constant_of (Const c) h n = (c, refl)
constant_of (Input i) h n = absurd n
constant_of (Apply op a b) h n =
    let left = constant_of a h.0 n.0 in
    let right = constant_of b h.1 n.1 in
    let e : first_rule op (Const left.0) (Const right.0) ≡ None =
    ap (λ x. first_rule op x (Const right.0)) (sym left.1) ∙ ap (first_rule op a) (sym right.1) ∙ h.3 in
    absurd (no_constants op left.0 right.0 e)
