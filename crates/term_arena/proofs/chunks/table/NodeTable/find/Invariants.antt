use Rattle.std.proofs.Common.{length}
use Rattle.term_arena.specs.Links.{target}
use Rattle.term_arena.proofs.FindLemmas.{IsLooking, bound}
use Rattle.term_arena.proofs.chunks.table.NodeTable.find.Given as goal

abbrev pub invariant-loop-link : goal.invariant-loop-link
invariant-loop-link l = IsLooking l.self-inside.list (length l.self-inside.heads.items) l.node (target l.link)

abbrev pub decreases-loop-link : goal.decreases-loop-link
decreases-loop-link l = bound (target l.link)
