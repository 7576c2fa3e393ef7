use Rattle.std.proofs.Common.{arith, ◌<◌, length}
use Rattle.word_gates.proofs.EachLemmas.{IsMadeSoFar-more}
use Rattle.word_gates.proofs.bitwise.each.Goals as goal

pub loop-i-preserved : goal.loop-i-preserved
loop-i-preserved c =
    let bit = c.in_ok-bit.ensures in
    let in_b : c.loop-i.i < length c.args.b.now = omega (arith, c.requires.width) in
    rw c.in_ok-push.ensures.items (IsMadeSoFar-more _ _ _ _ _ _ _ _ _ c.loop-i.invariant c.requires.gate c.requires.first c.requires.second c.loop-i-test.true in_b bit.keeps bit.bit.below bit.bit.tree)
