use Rattle.std.proofs.Common.{◌<◌, length}
use Rattle.term_tests.proofs.arena.a_refusal_leaves_each_term.Given as goal

abbrev pub invariant-loop-place : goal.invariant-loop-place
invariant-loop-place g l = (l.a < length l.arena) × (l.b < length l.arena) × (l.first < length l.arena)
