use Rattle.gate_net.specs.Lits.{AreNamed}
use Rattle.search_tests.proofs.tests.closures.random.decisions.Given as goal

abbrev pub invariant-loop : goal.invariant-loop
invariant-loop l = AreNamed 16 l.decisions.items
