use Rattle.std.proofs.Common.{length}
use Rattle.gate_net.specs.Lits.{AreNamed}
use Rattle.search_tests.proofs.OrderLemmas.{HasNames}
use Rattle.search_tests.proofs.tests.searches.order.Given as goal

abbrev pub invariant-loop-i : goal.invariant-loop-i
invariant-loop-i l = record {
  named : AreNamed (length l.signs) l.order.items;
  whole : HasNames l.order.items l.i;
}
