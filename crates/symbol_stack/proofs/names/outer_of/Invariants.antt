use Rattle.std.proofs.Common.{◌≡◌, length}
use Rattle.symbol_stack.specs.Rows.{AreOuter}
use Rattle.symbol_stack.proofs.names.outer_of.Given as goal

abbrev pub invariant-loop-i : goal.invariant-loop-i
invariant-loop-i l = record {
  outer : AreOuter l.rows l.outer.items;
  long : length l.outer.items ≡ l.i;
}
