use Rattle.std.specs.Prelude.{All}
use Rattle.term_tests.specs.Operands.{IsOperand}
use Rattle.term_tests.proofs.normal.named.Given as goal

abbrev pub invariant-loop-word : goal.invariant-loop-word
invariant-loop-word l = All (IsOperand l.is_normal l.arena) l.stack.items
