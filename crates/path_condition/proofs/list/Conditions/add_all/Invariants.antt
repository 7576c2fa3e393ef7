use Rattle.std.proofs.Common.{◌≡◌, take}
use Rattle.term_arena.specs.Trees.{trees_of}
use Rattle.replay_law.specs.Forms.{with_conditions}
use Rattle.path_condition.specs.Listed.{Belong}
use Rattle.path_condition.proofs.list.Conditions.add_all.Given as goal

-- the terms so far are added, after those that were there
abbrev pub invariant-loop-t : goal.invariant-loop-t
invariant-loop-t l =
    Belong l.arena l.self × (take l.before l.self ≡ l.fn.self) × (trees_of l.arena l.self ≡ with_conditions (trees_of l.arena l.fn.self) (trees_of l.arena (take l.t-index l.terms)))
