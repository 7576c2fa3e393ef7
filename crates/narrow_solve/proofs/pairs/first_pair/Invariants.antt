use Rattle.std.proofs.Common.{◌≡◌}
use Rattle.term_model.specs.Conditions.{holds}
use Rattle.term_arena.specs.Trees.{trees_of}
use Rattle.narrow_solve.proofs.TriedLemmas.{ArePairsTried}
use Rattle.narrow_solve.proofs.pairs.first_pair.Given as goal

abbrev pub invariant-loop-turn : goal.invariant-loop-turn
invariant-loop-turn l = record {
  room : l.scratch ≡ l.initial.scratch;
  tried : ArePairsTried (holds (trees_of l.arena l.conditions)) l.low_mask l.initial.trial l.trial l.low l.high l.turn;
}
