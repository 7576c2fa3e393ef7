use Rattle.term_model.specs.Conditions.{holds}
use Rattle.term_arena.specs.Trees.{trees_of}
use Rattle.input_laws.specs.Sets.{freed}
use Rattle.byte_sets.specs.ByteSet.{has}
use Rattle.group_model.proofs.Gathered.{AreGathered}
use Rattle.narrow_solve.proofs.one_place.values_at.Given as goal

abbrev pub invariant-loop-turn : goal.invariant-loop-turn
invariant-loop-turn l = AreGathered (freed (holds (trees_of l.arena l.conditions)) l.trial l.place) (has l.values) l.turn
