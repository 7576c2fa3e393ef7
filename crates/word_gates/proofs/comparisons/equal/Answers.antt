use Rattle.std.proofs.Common.{◌<◌, length, arith}
use Rattle.word_gates.proofs.EqualLemmas.{equal_start, equal_more}
use Rattle.word_gates.proofs.comparisons.equal.Goals as goal

pub loop-i-init : goal.loop-i-init
loop-i-init c = equal_start _ _ _ c.len-net.ensures.net.yes c.len-net.ensures.net.some

pub loop-i-preserved : goal.loop-i-preserved
loop-i-preserved c =
    let in_b : c.loop-i.i < length c.args.b.now = omega (arith, c.requires.width) in
    equal_more _ _ _ _ _ _ _ _ _ _ _ c.loop-i.invariant c.requires.first c.requires.second c.loop-i-test.true in_b c.in_ok-differ.ensures.keeps c.in_ok-so_far.ensures.keeps c.in_ok-so_far.ensures.below c.in_ok-differ.ensures.tree (c.not.ensures.tree c.xor.new.self) c.in_ok-so_far.ensures.tree
