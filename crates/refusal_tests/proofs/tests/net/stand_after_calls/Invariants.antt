use Rattle.std.proofs.Common.{◌<◌, length}
use Rattle.refusal_tests.proofs.tests.net.stand_after_calls.Given as goal

abbrev pub invariant-loop-i : goal.invariant-loop-i
invariant-loop-i l = (l.known.a.name < length l.net) × (l.known.b.name < length l.net) × (l.known.both.name < length l.net)
    × (l.known.one.name < length l.net) × (l.last.name < length l.net)
