use Rattle.term_tests.proofs.ReadableLemmas.{IsReadable}
use Rattle.term_tests.proofs.arena.a_node_under_many_is_valued_once_a_call.Given as goal

abbrev pub invariant-loop : goal.invariant-loop
invariant-loop g l = IsReadable 2 l.arena l.older × IsReadable 2 l.arena l.newer
