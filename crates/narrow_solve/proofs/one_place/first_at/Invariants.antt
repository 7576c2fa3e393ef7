use Rattle.term_model.specs.Conditions.{holds}
use Rattle.term_arena.specs.Trees.{trees_of}
use Rattle.narrow_solve.proofs.TriedLemmas.{AreTried}
use Rattle.narrow_solve.proofs.one_place.first_at.Given as goal

abbrev pub invariant-loop-turn : goal.invariant-loop-turn
invariant-loop-turn l = AreTried (holds (trees_of l.arena l.conditions)) l.mask l.trial l.trial l.place l.turn
