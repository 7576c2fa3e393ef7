use Rattle.std.proofs.Common.{◌≡◌}
use Rattle.search_tests.proofs.tests.closures.a_chain_of_names.Given as goal

abbrev pub invariant-loop : goal.invariant-loop
invariant-loop g l = l.closer.names ≡ 20000
