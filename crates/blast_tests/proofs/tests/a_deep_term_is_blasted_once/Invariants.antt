use Rattle.std.proofs.Common.{◌<◌, length}
use Rattle.blast_tests.proofs.tests.a_deep_term_is_blasted_once.Given as goal

abbrev pub invariant-loop : goal.invariant-loop
invariant-loop g l = (l.t < length l.arena) × (l.second < length l.arena)
