use Rattle.std.proofs.Common.{◌≡◌, take}
use Rattle.term_model.specs.Conditions.{Hold}
use Rattle.term_arena.specs.Trees.{trees_of}
use Rattle.path_condition.proofs.list.Conditions.test.Given as goal

-- the conditions so far hold, and the scratch has its room
abbrev pub invariant-loop-t : goal.invariant-loop-t
invariant-loop-t l = (l.scratch ≡ l.fn.scratch) × Hold (trees_of l.arena (take l.t-index l.t-items)) l.input
