use Rattle.std.specs.Prelude.{◌≤◌, All}
use Rattle.narrow_solve.specs.Table.{IsTable, IsReadable}
use Rattle.narrow_solve.proofs.table.Table.walk.Given as goal

abbrev pub invariant-loop : goal.invariant-loop
invariant-loop l = record {
  table : IsTable l.arena l.input l.place l.self;
  depth : l.depth ≤ 16;
  opened : All (IsReadable l.arena l.input) l.opened;
}
