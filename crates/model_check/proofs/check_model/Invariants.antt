use Rattle.std.proofs.Common.{◌≡◌, true, take}
use Rattle.term_model.specs.Conditions.{holds}
use Rattle.term_arena.specs.Trees.{trees_of}
use Rattle.model_check.proofs.check_model.Given as goal

abbrev pub invariant-loop-condition : goal.invariant-loop-condition
invariant-loop-condition l = record {
  room : l.scratch ≡ l.initial.scratch;
  hold : holds (trees_of l.arena (take l.condition-index l.conditions)) l.input ≡ true;
}
