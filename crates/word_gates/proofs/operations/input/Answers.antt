use Rattle.std.proofs.Common.{◌≡◌, ◌++◌, subst, arith}
use Rattle.std.specs.Prelude.{replicate}
use Rattle.word_gates.proofs.MoveLemmas.{no_lit}
use Rattle.word_gates.proofs.LeafLemmas.{IsInputSoFar, input_more, input_below}
use Rattle.word_gates.proofs.operations.input.Goals as goal

pub loop-bit-preserved : goal.loop-bit-preserved
loop-bit-preserved c = rw c.in_ok-push.ensures.items (input_more _ _ _ _ _ _ _ c.loop-bit.invariant c.in_ok-made.ensures.keeps c.in_ok-made.ensures.below c.in_ok-made.ensures.tree)

pub returns-clause-below : goal.returns-clause-below
returns-clause-below c =
    let e : c.loop-bit.bit ≡ 8 = omega arith in
    let is : c.extend_from_slice.new.self.items ≡ c.loop-bit.bits.items ++ replicate 24 no_lit = c.in_ok-extend_from_slice.ensures.items in
    rw is (input_below _ _ _ _ (subst (λ k. IsInputSoFar c.args.net.now c.loop-bit.net c.args.place k c.loop-bit.bits.items) e c.loop-bit.invariant) c.len-net.ensures.net.yes c.len-net.ensures.net.some)
