use Rattle.std.proofs.Common.{◌≡◌}
use Rattle.search_tests.proofs.tests.closures.random.agrees_on_some.Given as goal

abbrev pub invariant-loop : goal.invariant-loop
invariant-loop l = l.closer.names ≡ 16
