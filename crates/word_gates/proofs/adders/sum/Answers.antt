use Rattle.std.proofs.Common.{arith, ◌<◌, length}
use Rattle.word_gates.proofs.SumLemmas.{IsSummed-more}
use Rattle.word_gates.proofs.adders.sum.Goals as goal

pub loop-i-preserved : goal.loop-i-preserved
loop-i-preserved c =
    let digit = c.in_ok-digit.ensures in
    let in_b : c.loop-i.i < length c.args.b.now = omega (arith, c.requires.width) in
    rw c.in_ok-push.ensures.items (IsSummed-more _ _ _ _ _ _ _ _ _ _ _ c.loop-i.invariant c.requires.first c.requires.second c.loop-i-test.true in_b digit.keeps digit.sum.below digit.carry.below digit.sum.tree digit.carry.tree)
