use Rattle.std.proofs.Common.{◌≡◌, ℕ, Some}
use Rattle.std.specs.Prelude.{slice_get}
use Rattle.term_arena.specs.declared.chunks.link.Chunk.{Chunk}
use Rattle.term_arena.specs.Chunks.{IsChunk}
use Rattle.term_arena.proofs.chunks.list.ChunkList.free.Given as goal

abbrev pub invariant-loop-chunk : goal.invariant-loop-chunk
invariant-loop-chunk g l = (j : ℕ) (c : Chunk g.row.T.Denot) → slice_get l.chunks.items j ≡ Some c → IsChunk l.alloc c

abbrev pub decreases-loop-chunk : goal.decreases-loop-chunk
decreases-loop-chunk g l = goal.left-loop-chunk g l
