-- What code that makes normal forms meets on its way: each operation that a rule writes has a smaller measure.
use Rattle.std.proofs.Common.{◌≡◌, ◌<◌, ap, ◌∙◌, arith, Some, None, Option, inl, inr, subst, refl}
use Rattle.std.specs.Prelude.{IfSome}
use Rattle.term_model.specs.declared.Op.{Op}
use Rattle.term_model.specs.Tree.{Tree, Apply}
use Rattle.normal_form.specs.Plan.{Plan, Is, Make, or_else}
use Rattle.normal_form.specs.Rules.{first_fit, first_rule, ordering_rules, arithmetic_rules, bitwise_rules, equality_rules, order_rules, byte_rules, joining_rules}
use Rattle.normal_form.specs.Norm.{carried_out, after_rule, norm, measure}
use Rattle.normal_form.proofs.WeightLemmas.{Lowers, rule_lowers, op_weight_pos}
use Rattle.normal_form.proofs.NormLemmas.{norm-is, norm_light, measure_le, steady_below}

pub norm_of_rule : (op : Op) (a b : Tree) (p : Plan) → first_rule op a b ≡ Some p → norm op a b ≡ carried_out norm p
norm_of_rule op a b p e = norm-is op a b ∙ ap (after_rule norm op a b) e

pub norm_of_none : (op : Op) (a b : Tree) → first_rule op a b ≡ None → norm op a b ≡ Apply op a b
norm_of_none op a b e = norm-is op a b ∙ ap (after_rule norm op a b) e

lowers_of : (op : Op) (a b : Tree) (p : Plan) → first_rule op a b ≡ Some p → Lowers op a b p
lowers_of op a b p e = let P : Option Plan → Type 0 = λ o. IfSome o (Lowers op a b) in subst P e (rule_lowers op a b)

-- a rule that writes one operation
pub measure_of_one : (op : Op) (a b : Tree) (o : Op) (x y : Tree) → first_rule op a b ≡ Some (Make o (Is x) (Is y)) → measure o x y < measure op a b
measure_of_one op a b o x y e =
    elim (lowers_of op a b (Make o (Is x) (Is y)) e) [
      | inl h ↦ omega (arith, measure_le o x y)
      | inr h ↦
          let same : o ≡ op = let p = h.plan in cc in
          let first : x ≡ h.left = let p = h.plan in cc in
          let second : y ≡ h.right = let p = h.plan in cc in
          rw (same, first, second) (steady_below op a b (Make o (Is x) (Is y)) h)
    ]

-- a rule that writes an operation within another
module _ (op : Op) (a b : Tree) (o i : Op) (x y z : Tree) (e : first_rule op a b ≡ Some (Make o (Make i (Is x) (Is y)) (Is z))) where
  pub measure_of_inner : measure i x y < measure op a b
  measure_of_inner =
      elim (lowers_of op a b (Make o (Make i (Is x) (Is y)) (Is z)) e) [
        | inl h ↦ omega (arith, measure_le i x y, op_weight_pos o)
        | inr h ↦ absurd (let p = h.plan in let apart : Make i (Is x) (Is y) ≡ Is h.left = cc in cc)
      ]

  pub measure_of_outer : measure o (norm i x y) z < measure op a b
  measure_of_outer =
      elim (lowers_of op a b (Make o (Make i (Is x) (Is y)) (Is z)) e) [
        | inl h ↦ omega (arith, measure_le o (norm i x y) z, norm_light i x y)
        | inr h ↦ absurd (let p = h.plan in let apart : Make i (Is x) (Is y) ≡ Is h.left = cc in cc)
      ]

-- the first rule, by the groups of rules in their order
pub first_rule-is : (op : Op) (a b : Tree) → first_rule op a b ≡ or_else (first_fit ordering_rules op a b) (or_else (first_fit arithmetic_rules op a b) (or_else (first_fit bitwise_rules op a b) (or_else (first_fit equality_rules op a b) (or_else (first_fit order_rules op a b) (or_else (first_fit byte_rules op a b) (first_fit joining_rules op a b))))))
unfolding first_rule
first_rule-is op a b = refl

-- a chain may be nested either way
pub or_else_assoc : (o p q : Option Plan) → or_else (or_else o p) q ≡ or_else o (or_else p q)
or_else_assoc None p q = refl
or_else_assoc (Some r) p q = refl
