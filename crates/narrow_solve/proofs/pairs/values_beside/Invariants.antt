use Rattle.std.proofs.Common.{◌≡◌}
use Rattle.term_model.specs.Conditions.{holds}
use Rattle.term_arena.specs.Trees.{trees_of}
use Rattle.byte_sets.specs.ByteSet.{has}
use Rattle.narrow_solve.proofs.ValueLemmas.{AreBeside}
use Rattle.narrow_solve.proofs.pairs.values_beside.Given as goal

abbrev pub invariant-loop-turn : goal.invariant-loop-turn
invariant-loop-turn l = record {
  room : l.scratch ≡ l.initial.scratch;
  beside : AreBeside (holds (trees_of l.arena l.conditions)) (has l.lower) (has l.values) l.initial.trial l.trial l.low l.high l.turn;
}
