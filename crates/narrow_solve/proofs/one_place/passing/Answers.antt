use Rattle.narrow_solve.proofs.LaneLemmas.{table_none, found_lanes, passing_none, passing_more}
use Rattle.narrow_solve.proofs.one_place.passing.Goals as goal

pub loop-condition-init : goal.loop-condition-init
loop-condition-init c = record {
  table = table_none c.args.arena.now c.args.input.now c.args.place c.new-table.result c.new-table.ensures;
  passing = passing_none c.args.input.now c.args.place;
}

pub loop-condition-preserved : goal.loop-condition-preserved
loop-condition-preserved c = record {
  table = c.walk.ensures.table;
  passing = passing_more c.args.arena.now c.args.conditions.now c.args.input.now c.args.place c.loop-condition.condition-index c.condition-item.result c.loop-condition.passes c.kept-passes.result c.lanes.result.now c.loop-condition-test.true c.condition-item.is c.loop-condition.invariant.passing
      (found_lanes c.args.arena.now c.args.input.now c.args.place c.walk.new.self c.in_ok-k.k c.condition-item.result c.lanes.result.now c.walk.ensures.table c.in_ok-k.ensures.found.0 c.in_ok-k.ensures.found.1 c.lanes.ensures)
      c.kept-passes.ensures;
}
