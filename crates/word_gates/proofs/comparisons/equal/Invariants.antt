use Rattle.word_gates.proofs.EqualLemmas.{IsEqualSoFar}
use Rattle.word_gates.proofs.comparisons.equal.Given as goal

abbrev pub invariant-loop-i : goal.invariant-loop-i
invariant-loop-i l = IsEqualSoFar l.fn.net l.net l.a l.b l.so_far l.i
