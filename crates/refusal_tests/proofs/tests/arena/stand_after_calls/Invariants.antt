use Rattle.std.proofs.Common.{◌<◌, length}
use Rattle.refusal_tests.proofs.tests.arena.stand_after_calls.Given as goal

abbrev pub invariant-loop-i : goal.invariant-loop-i
invariant-loop-i l = (l.known.byte < length l.arena) × (l.known.five < length l.arena) × (l.known.sum < length l.arena) × (l.last < length l.arena)
