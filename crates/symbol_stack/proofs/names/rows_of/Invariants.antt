use Rattle.std.proofs.Common.{◌≡◌, ◌++◌, drop}
use Rattle.symbol_stack.specs.Rows.{rows_of}
use Rattle.symbol_stack.proofs.names.rows_of.Given as goal

abbrev pub invariant-loop-i : goal.invariant-loop-i
invariant-loop-i l = l.rows.items ++ rows_of (drop l.i l.symbols) ≡ rows_of l.symbols
