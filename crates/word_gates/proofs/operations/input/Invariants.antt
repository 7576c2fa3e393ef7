use Rattle.word_gates.proofs.LeafLemmas.{IsInputSoFar}
use Rattle.word_gates.proofs.operations.input.Given as goal

abbrev pub invariant-loop-bit : goal.invariant-loop-bit
invariant-loop-bit l = IsInputSoFar l.fn.net l.net l.place l.bit l.bits.items
