use Rattle.std.specs.Prelude.{◌≡◌, ◌<◌, length}
use Rattle.term_model.specs.Tree.{Input}
use Rattle.term_arena.specs.Trees.{tree_of, IsTermOf}
use Rattle.group_tests.specs.Eight.{IsEight}
use Rattle.group_tests.proofs.narrow.kept_byte.Given as goal

abbrev pub invariant-loop : goal.invariant-loop
invariant-loop l = record {
  byte : IsTermOf l.arena (Input 0) l.byte;
  belongs : l.kept < length l.arena;
  kept : IsEight (tree_of l.arena l.kept);
}
