use Rattle.std.proofs.Common.{◌≡◌}
use Rattle.search_tests.proofs.tests.closures.clauses_of_which_others_are_parts.Given as goal

abbrev pub invariant-loop : goal.invariant-loop
invariant-loop g l = l.closer.names ≡ 16
