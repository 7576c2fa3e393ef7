use Rattle.std.proofs.Common.{◌+◌, ◌%◌, ◌^◌, length, sym, ◌∙◌, arith, refl}
use Rattle.memory_map.proofs.Runs.{without_skips, without_here, without_end}
use Rattle.memory_map.proofs.memory.Memory.first_without.Goals as goal

pub returns-then-run-eq0 : goal.returns-then-run-eq0
returns-then-run-eq0 c = sym (c.loop-left.invariant ∙ without_here _ _ _ _ (omega arith) (c.run-run.ensures.lacks c.if-run-eq0.true))

pub returns-then-run-left : goal.returns-then-run-left
returns-then-run-left c =
    sym (c.loop-left.invariant
    ∙ without_skips c.loop-left.left c.loop-left.left 0 c.loop-left.at ((c.loop-left.at + c.loop-left.left) % 2 ^ 32) c.args.right c.args.self.now.map
    (λ i l. c.run-run.ensures.allowed i (omega arith)) (omega arith) (omega arith) (omega (arith, c.run-run.ensures.within)) refl
    ∙ without_end _ _ 0 _ refl)

pub loop-left-preserved : goal.loop-left-preserved
loop-left-preserved c =
    c.loop-left.invariant
    ∙ without_skips (length c.run-run.result.now) c.loop-left.left _ c.loop-left.at _ c.args.right c.args.self.now.map c.run-run.ensures.allowed (omega arith) (omega arith) c.run-run.ensures.within refl

pub returns : goal.returns
returns c = sym (c.loop-left.invariant ∙ without_end _ _ _ _ (omega arith))
