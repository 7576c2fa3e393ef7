use Rattle.word_gates.proofs.EachLemmas.{IsMadeSoFar}
use Rattle.word_gates.proofs.bitwise.each.Given as goal

abbrev pub invariant-loop-i : goal.invariant-loop-i
invariant-loop-i l = IsMadeSoFar l.fn.net l.net l.gate l.a l.b l.bits.items l.i
