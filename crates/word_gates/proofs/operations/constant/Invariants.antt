use Rattle.word_gates.proofs.LeafLemmas.{IsConstantSoFar}
use Rattle.word_gates.proofs.operations.constant.Given as goal

abbrev pub invariant-loop-place : goal.invariant-loop-place
invariant-loop-place l = IsConstantSoFar 32 l.v l.rest l.place l.bits.items
