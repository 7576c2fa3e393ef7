use Rattle.gate_net.specs.Lits.{AreNamed}
use Rattle.search_tests.proofs.tests.Sequence.part.Given as goal

abbrev pub invariant-loop-l : goal.invariant-loop-l
invariant-loop-l l = AreNamed 16 l.part.items
