-- The normal form does not depend on the number that bounds the rules in its definition.
use Rattle.std.proofs.Common.{◌≡◌, ℕ, zero, suc, ◌+◌, ◌*◌, ◌<◌, ◌≤◌, refl, ap, sym, ◌∙◌, arith, Some, None, Option, inl, inr}
use Rattle.std.specs.Prelude.{IfSome}
use Rattle.term_model.specs.declared.Op.{Op}
use Rattle.term_model.specs.Tree.{Tree, Apply}
use Rattle.normal_form.specs.Plan.{Plan, Is, Make}
use Rattle.normal_form.specs.Rules.{first_rule}
use Rattle.normal_form.specs.Norm.{carried_out, after_rule, norm_within, norm, weight, plan_weight, measure}
use Rattle.normal_form.specs.Laws.{FollowsTable}
use Rattle.normal_form.proofs.WeightLemmas.{Lowers, Steadies, rule_lowers, op_weight_pos}

abbrev pub Maker : Type 0
Maker = Op → Tree → Tree → Tree

-- what it makes is no heavier than the operation
abbrev pub KeepsLight : Maker → Type 0
KeepsLight made = (op : Op) (a b : Tree) → weight (made op a b) ≤ weight (Apply op a b)

pub carried_out_light : (made : Maker) → KeepsLight made → (p : Plan) → weight (carried_out made p) ≤ plan_weight p
carried_out_light made light (Is t) = omega arith
carried_out_light made light (Make op p q) =
    omega (arith, light op (carried_out made p) (carried_out made q), carried_out_light made light p, carried_out_light made light q)

lowers_light : (op : Op) (a b : Tree) (p : Plan) → Lowers op a b p → plan_weight p ≤ weight (Apply op a b)
lowers_light op a b p (inl h) = omega arith
lowers_light op a b p (inr h) = rw h.plan (omega (arith, h.same))

after_rule_light : (made : Maker) → KeepsLight made → (op : Op) (a b : Tree) (o : Option Plan) → IfSome o (Lowers op a b) → weight (after_rule made op a b o) ≤ weight (Apply op a b)
after_rule_light made light op a b None h = omega arith
after_rule_light made light op a b (Some p) h = omega (arith, carried_out_light made light p, lowers_light op a b p h)

norm_within_light : (n : ℕ) → KeepsLight (norm_within n)
unfolding norm_within
norm_within_light zero op a b = omega arith
norm_within_light (suc n) op a b =
    after_rule_light (norm_within n) (norm_within_light n) op a b (first_rule op a b) (rule_lowers op a b)

abbrev AlikeBelow : ℕ → Maker → Maker → Type 0
AlikeBelow m f g = (op : Op) (a b : Tree) → measure op a b < m → f op a b ≡ g op a b

pub measure_le : (op : Op) (a b : Tree) → measure op a b ≤ 2 * weight (Apply op a b) + 1
measure_le op a b = grind arith

-- an operation that a steady rule writes has a smaller measure
pub steady_below : (op : Op) (a b : Tree) (p : Plan) (h : Steadies op a b p) → measure op h.left h.right < measure op a b
steady_below op a b p h = rw (h.before, h.after) (omega (arith, h.same))

carried_out_alike : (m : ℕ) (f g : Maker) → KeepsLight f → AlikeBelow m f g → (p : Plan) → 2 * plan_weight p + 1 < m → carried_out f p ≡ carried_out g p
carried_out_alike m f g light alike (Is t) h = refl
carried_out_alike m f g light alike (Make op p q) h =
    let x : Tree = carried_out f p in
    let y : Tree = carried_out f q in
    let first : x ≡ carried_out g p = carried_out_alike m f g light alike p (omega (arith, op_weight_pos op)) in
    let second : y ≡ carried_out g q = carried_out_alike m f g light alike q (omega (arith, op_weight_pos op)) in
    let small : measure op x y < m =
    omega (arith, measure_le op x y, carried_out_light f light p, carried_out_light f light q) in
    let top : f op x y ≡ g op x y = alike op x y small in
    cc

after_rule_alike : (f g : Maker) → KeepsLight f → (op : Op) (a b : Tree) → AlikeBelow (measure op a b) f g → (o : Option Plan) → IfSome o (Lowers op a b) → after_rule f op a b o ≡ after_rule g op a b o
after_rule_alike f g light op a b alike None h = refl
after_rule_alike f g light op a b alike (Some p) (inl h) =
    carried_out_alike (measure op a b) f g light alike p (omega arith)
after_rule_alike f g light op a b alike (Some p) (inr h) =
    let made : f op h.left h.right ≡ g op h.left h.right = alike op h.left h.right (steady_below op a b p h) in
    rw h.plan made

-- any two bounds above the measure give the same
stable : (n k : ℕ) (op : Op) (a b : Tree) → measure op a b < n → measure op a b < k → norm_within n op a b ≡ norm_within k op a b
unfolding norm_within
stable zero k op a b h h' = absurd (omega arith)
stable (suc n) zero op a b h h' = absurd (omega arith)
stable (suc n) (suc k) op a b h h' =
    after_rule_alike (norm_within n) (norm_within k) (norm_within_light n) op a b
    (λ o x y l. stable n k o x y (omega arith) (omega arith))
    (first_rule op a b) (rule_lowers op a b)

one_more : (n : ℕ) (op : Op) (a b : Tree) → norm_within (suc n) op a b ≡ after_rule (norm_within n) op a b (first_rule op a b)
unfolding norm_within
one_more n op a b = refl

-- the normal form is what the first rule's plan gives with normal forms, or the operation itself
pub norm-is : (op : Op) (a b : Tree) → norm op a b ≡ after_rule norm op a b (first_rule op a b)
unfolding norm
norm-is op a b =
    let w : ℕ = weight (Apply op a b) in
    let bound : 2 * w + 2 ≡ suc (2 * w + 1) = omega arith in
    ap (λ n. norm_within n op a b) bound ∙ one_more (2 * w + 1) op a b ∙
    after_rule_alike (norm_within (2 * w + 1)) norm (norm_within_light (2 * w + 1)) op a b
    (λ o x y l. stable (2 * w + 1) (2 * weight (Apply o x y) + 2) o x y (omega (arith, measure_le op a b)) (omega (arith, measure_le o x y)))
    (first_rule op a b) (rule_lowers op a b)

pub norm_light : (op : Op) (a b : Tree) → weight (norm op a b) ≤ weight (Apply op a b)
unfolding norm
norm_light op a b = norm_within_light (2 * weight (Apply op a b) + 2) op a b

-- a maker that follows the table gives the normal form
module _ (made : Maker) (follows : FollowsTable made) where
  alike_below : (n : ℕ) (op : Op) (a b : Tree) → measure op a b < n → norm op a b ≡ made op a b
  alike_below zero op a b l = absurd (omega arith)
  alike_below (suc n) op a b l =
      norm-is op a b ∙ after_rule_alike norm made norm_light op a b (λ o x y s. alike_below n o x y (omega arith)) (first_rule op a b) (rule_lowers op a b) ∙ sym (follows op a b)

  pub made-is : (op : Op) (a b : Tree) → made op a b ≡ norm op a b
  made-is op a b = sym (alike_below (suc (measure op a b)) op a b (omega arith))
