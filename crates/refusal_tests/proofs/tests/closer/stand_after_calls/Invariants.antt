use Rattle.std.proofs.Common.{◌≡◌}
use Rattle.refusal_tests.proofs.tests.closer.stand_after_calls.Given as goal

abbrev pub invariant-loop-i : goal.invariant-loop-i
invariant-loop-i l = l.closer.names ≡ 65
