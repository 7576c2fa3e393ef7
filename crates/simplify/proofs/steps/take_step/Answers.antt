use Rattle.std.proofs.Common.{◌∙◌, ◌<◌, ap, refl, arith, length}
use Rattle.term_model.specs.declared.Op.{Op}
use Rattle.term_model.specs.declared.Op.TheVariants.{Eq}
use Rattle.term_model.specs.Tree.{Const}
use Rattle.term_arena.specs.Trees.{tree_of}
use Rattle.normal_form.specs.Plan.{Is, Make}
use Rattle.normal_form.specs.Rules.{first_rule}
use Rattle.simplify.proofs.EqualityLemmas.{equality_plan}
use Rattle.simplify.proofs.StepLemmas.{made_of_none, made_of_tree, leads_to, leads_to_not_zero}
use Rattle.simplify.proofs.steps.take_step.Goals as goal

pub returns-in_default-clause-step : goal.returns-in_default-clause-step
returns-in_default-clause-step c =
    made_of_none c.intern.new.self c.args.op (tree_of c.args.arena.now c.args.a) (tree_of c.args.arena.now c.args.b) c.in_ok-made.made
    c.in_default.ensures.rule c.in_ok-made.ensures.below c.in_ok-made.ensures.tree

pub returns-in-Known-clause-step : goal.returns-in-Known-clause-step
returns-in-Known-clause-step c =
    let was = rw c.in-Known.is at c.in-Some.ensures in
    made_of_tree c.args.arena.now c.args.op (tree_of c.args.arena.now c.args.a) (tree_of c.args.arena.now c.args.b) (tree_of c.args.arena.now c.in-Known.t) c.in-Known.t
    was.rule was.below refl

pub returns-in_ok-made-in-Constant-clause-step : goal.returns-in_ok-made-in-Constant-clause-step
returns-in_ok-made-in-Constant-clause-step c =
    let was = rw c.in-Constant.is at c.in-Some.ensures in
    made_of_tree c.constant.new.self c.args.op (tree_of c.args.arena.now c.args.a) (tree_of c.args.arena.now c.args.b) (Const c.in-Constant.c) c.in_ok-made-in-Constant.made
    was.rule c.in_ok-made-in-Constant.ensures.below c.in_ok-made-in-Constant.ensures.tree

pub returns-in-Operation-clause-step : goal.returns-in-Operation-clause-step
returns-in-Operation-clause-step c =
    let was = rw c.in-Operation.is at c.in-Some.ensures in
    leads_to c.args.arena.now c.args.op (tree_of c.args.arena.now c.args.a) (tree_of c.args.arena.now c.args.b) c.in-Operation.next
    (tree_of c.args.arena.now c.in-Operation.s) (tree_of c.args.arena.now c.in-Operation.t) c.in-Operation.s c.in-Operation.t
    was.rule was.below.0 was.below.1 refl refl

pub returns-in-Operation-clause-equality : goal.returns-in-Operation-clause-equality
returns-in-Operation-clause-equality c =
    let was = rw c.in-Operation.is at c.in-Some.ensures in
    λ e. equality_plan (tree_of c.args.arena.now c.args.a) (tree_of c.args.arena.now c.args.b)
    (Make c.in-Operation.next (Is (tree_of c.args.arena.now c.in-Operation.s)) (Is (tree_of c.args.arena.now c.in-Operation.t)))
    (was.rule ∙ ap (λ (o : Op). first_rule o (tree_of c.args.arena.now c.args.a) (tree_of c.args.arena.now c.args.b)) e)

pub returns-in_ok-constant-in-WithConstant-clause-step : goal.returns-in_ok-constant-in-WithConstant-clause-step
returns-in_ok-constant-in-WithConstant-clause-step c =
    let was = rw c.in-WithConstant.is at c.in-Some.ensures in
    let made = c.in_ok-constant-in-WithConstant.ensures in
    let below : c.in-WithConstant.t < length c.constant-in-WithConstant.new.self = omega (arith, made.grows, was.below) in
    leads_to c.constant-in-WithConstant.new.self c.args.op (tree_of c.args.arena.now c.args.a) (tree_of c.args.arena.now c.args.b) c.in-WithConstant.next
    (tree_of c.args.arena.now c.in-WithConstant.t) (Const c.in-WithConstant.c) c.in-WithConstant.t c.in_ok-constant-in-WithConstant.constant
    was.rule below made.below (made.keeps.same c.in-WithConstant.t was.below) made.tree

pub returns-in_ok-constant-in-WithConstant-clause-equality : goal.returns-in_ok-constant-in-WithConstant-clause-equality
returns-in_ok-constant-in-WithConstant-clause-equality c =
    let was = rw c.in-WithConstant.is at c.in-Some.ensures in
    λ e. equality_plan (tree_of c.args.arena.now c.args.a) (tree_of c.args.arena.now c.args.b)
    (Make c.in-WithConstant.next (Is (tree_of c.args.arena.now c.in-WithConstant.t)) (Is (Const c.in-WithConstant.c)))
    (was.rule ∙ ap (λ (o : Op). first_rule o (tree_of c.args.arena.now c.args.a) (tree_of c.args.arena.now c.args.b)) e)

pub returns-in-NotZero-clause-step : goal.returns-in-NotZero-clause-step
returns-in-NotZero-clause-step c =
    let was = rw c.in-NotZero.is at c.in-Some.ensures in
    leads_to_not_zero c.args.arena.now c.args.op (tree_of c.args.arena.now c.args.a) (tree_of c.args.arena.now c.args.b) (tree_of c.args.arena.now c.in-NotZero.t) c.in-NotZero.t
    was.rule was.below refl

pub returns-in-NotZero-clause-equality : goal.returns-in-NotZero-clause-equality
returns-in-NotZero-clause-equality c =
    let was = rw c.in-NotZero.is at c.in-Some.ensures in
    λ e. equality_plan (tree_of c.args.arena.now c.args.a) (tree_of c.args.arena.now c.args.b)
    (Make Eq (Make Eq (Is (tree_of c.args.arena.now c.in-NotZero.t)) (Is (Const 0))) (Is (Const 0)))
    (was.rule ∙ ap (λ (o : Op). first_rule o (tree_of c.args.arena.now c.args.a) (tree_of c.args.arena.now c.args.b)) e)
