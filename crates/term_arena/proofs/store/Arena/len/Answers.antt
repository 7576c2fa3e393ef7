use Rattle.term_arena.proofs.SharedLemmas.{shared, words}
use Rattle.term_arena.proofs.store.Arena.len.Goals as goal

pub returns-clause-shared : goal.returns-clause-shared
returns-clause-shared c = rw (← c.self.view_is) (shared _ c.self.invariant.ordered c.len.ensures.distinct)

pub returns-clause-words : goal.returns-clause-words
returns-clause-words c = rw (← c.self.view_is) (words _ c.self.invariant.ordered c.len.ensures.distinct)
