use Rattle.std.proofs.Common.{◌≡◌, ◌++◌, take, reverse}
use Rattle.std.specs.Prelude.{flat_map, codes}
use Rattle.symbol_stack.specs.Text.{counter_line}
use Rattle.symbol_stack.proofs.text.named_text.Given as goal

abbrev pub invariant-loop-i : goal.invariant-loop-i
invariant-loop-i l = l.out.items ≡ counter_line l.names (codes "at ") l.pc ++ flat_map (counter_line l.names (codes "from ")) (take l.i (reverse l.stack))
