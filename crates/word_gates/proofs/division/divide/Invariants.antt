use Rattle.word_gates.proofs.DivisionLemmas.{IsDividing}
use Rattle.word_gates.proofs.division.divide.Given as goal

abbrev pub invariant-loop-done : goal.invariant-loop-done
invariant-loop-done l = IsDividing l.fn.net l.net l.a l.b l.divisor.items l.left.items l.quotient.items l.done
