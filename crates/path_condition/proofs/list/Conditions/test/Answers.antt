use Rattle.std.proofs.Common.{◌∙◌, sym, ap, subst, List, ℕ}
use Rattle.std.proofs.lemmas.Bool.{false≢true}
use Rattle.term_model.specs.Value.{val}
use Rattle.term_model.specs.Conditions.{Hold}
use Rattle.term_arena.specs.Trees.{tree_of, trees_of}
use Rattle.path_condition.proofs.ListLemmas.{each_holds, next_holds}
use Rattle.path_condition.proofs.list.Conditions.test.Goals as goal

pub returns-then-eval-ne1-clause-test : goal.returns-then-eval-ne1-clause-test
returns-then-eval-ne1-clause-test c =
    let items = c.deref-t-items.ensures.value ∙ c.self.view_is in (
      λ h. absurd (false≢true h),
      λ h.
          let all = subst (λ (ts : List ℕ). Hold (trees_of c.args.arena.now ts) c.args.input.now) (sym items) h in
          let one = each_holds c.args.input.now c.args.arena.now c.deref-t-items.result.now c.loop-t.t-index c.t-item.result c.loop-t-test.true all in
          absurd (c.if-eval-ne1.true (c.eval.ensures.value ∙ ap (λ t. val (tree_of c.args.arena.now t) c.args.input.now) c.t-item.is ∙ one)),
    )

pub loop-t-preserved : goal.loop-t-preserved
loop-t-preserved c = (
  c.eval.ensures.keeps ∙ c.loop-t.invariant.0,
  next_holds c.args.input.now c.args.arena.now c.deref-t-items.result.now c.loop-t.t-index c.t-item.result c.loop-t-test.true c.t-item.is c.loop-t.invariant.1 (sym c.eval.ensures.value ∙ c.if-eval-ne1.false),
)
