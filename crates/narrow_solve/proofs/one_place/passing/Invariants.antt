use Rattle.std.proofs.Common.{take}
use Rattle.term_model.specs.Conditions.{holds}
use Rattle.term_arena.specs.Trees.{trees_of}
use Rattle.narrow_solve.specs.Lanes.{ArePassing}
use Rattle.narrow_solve.specs.Table.{IsTable}
use Rattle.narrow_solve.proofs.one_place.passing.Given as goal

abbrev pub invariant-loop-condition : goal.invariant-loop-condition
invariant-loop-condition l = record {
  table : IsTable l.arena l.input l.place l.table;
  passing : ArePassing (holds (trees_of l.arena (take l.condition-index l.conditions))) l.input l.place l.passes;
}
