use Rattle.std.proofs.Common.{◌≡◌, ℕ}
use Rattle.std.specs.Prelude.{slice_set}
use Rattle.term_model.specs.Conditions.{holds}
use Rattle.term_arena.specs.Trees.{trees_of}
use Rattle.input_laws.specs.Sets.{freed}
use Rattle.byte_sets.specs.ByteSet.{has}
use Rattle.group_model.proofs.Gathered.{AreGathered}
use Rattle.narrow_solve.proofs.trial.values_tried.Given as goal

abbrev pub invariant-loop-turn : goal.invariant-loop-turn
invariant-loop-turn l = record {
  room : l.scratch ≡ l.initial.scratch;
  aside : (v : ℕ) → slice_set l.trial l.place v ≡ slice_set l.initial.trial l.place v;
  gathered : AreGathered (freed (holds (trees_of l.arena l.conditions)) l.initial.trial l.place) (has l.values) l.turn;
}
