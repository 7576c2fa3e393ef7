use Rattle.term_tests.proofs.ReadableLemmas.{IsReadable}
use Rattle.term_tests.proofs.arena.a_deep_term_is_valued.Given as goal

abbrev pub invariant-loop : goal.invariant-loop
invariant-loop g l = IsReadable 2 l.arena l.t × IsReadable 2 l.arena l.second
