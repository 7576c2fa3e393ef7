use Rattle.std.proofs.Common.{◌≡◌}
use Rattle.term_model.specs.Conditions.{holds}
use Rattle.term_arena.specs.Trees.{trees_of}
use Rattle.narrow_solve.proofs.TriedLemmas.{AreTried}
use Rattle.narrow_solve.proofs.trial.first_tried.Given as goal

abbrev pub invariant-loop-turn : goal.invariant-loop-turn
invariant-loop-turn l = record {
  room : l.scratch ≡ l.initial.scratch;
  tried : AreTried (holds (trees_of l.arena l.conditions)) l.mask l.initial.trial l.trial l.place l.turn;
}
