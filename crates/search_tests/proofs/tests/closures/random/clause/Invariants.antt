use Rattle.std.proofs.Common.{◌<◌, length}
use Rattle.gate_net.specs.Lits.{AreNamed}
use Rattle.search_tests.proofs.tests.closures.random.clause.Given as goal

abbrev pub invariant-loop : goal.invariant-loop
invariant-loop l = record {
  named : AreNamed 16 l.clause.items;
  filled : 0 < length l.clause.items;
}
