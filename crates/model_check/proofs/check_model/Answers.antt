use Rattle.std.proofs.Common.{◌≡◌, false, sym, ◌∙◌}
use Rattle.term_model.specs.Conditions.{holds}
use Rattle.term_arena.specs.Trees.{trees_of}
use Rattle.group_model.proofs.HoldLemmas.{failed_at, passed}
use Rattle.model_check.proofs.check_model.Goals as goal

pub returns-then-eval-ne1-clause-test : goal.returns-then-eval-ne1-clause-test
returns-then-eval-ne1-clause-test c =
    sym (failed_at c.args.arena.now c.args.conditions.now c.args.input.now c.loop-condition.condition-index c.condition-item.result c.loop-condition-test.true c.condition-item.is (λ one. c.if-eval-ne1.true (c.eval.ensures.value ∙ one)))

pub returns-then-eval-ne1-clause-exact : goal.returns-then-eval-ne1-clause-exact
returns-then-eval-ne1-clause-exact c =
    let fails : holds (trees_of c.args.arena.now c.args.conditions.now) c.args.input.now ≡ false = failed_at c.args.arena.now c.args.conditions.now c.args.input.now c.loop-condition.condition-index c.condition-item.result c.loop-condition-test.true c.condition-item.is (λ one. c.if-eval-ne1.true (c.eval.ensures.value ∙ one)) in
    (λ e. absurd (cc), λ h. sym fails ∙ passed (trees_of c.args.arena.now c.args.conditions.now) c.args.input.now h)
