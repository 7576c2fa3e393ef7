use Rattle.std.proofs.Common.{◌≡◌, ◌<◌, length}
use Rattle.term_model.specs.Tree.{Input}
use Rattle.term_arena.specs.Trees.{tree_of}
use Rattle.path_condition.specs.Listed.{Belong}
use Rattle.refusal_tests.proofs.tests.conditions.stand_after_calls.Given as goal

abbrev pub invariant-loop-i : goal.invariant-loop-i
invariant-loop-i l = Belong l.arena l.conditions × (l.byte < length l.arena) × (tree_of l.arena l.byte ≡ Input 0)
