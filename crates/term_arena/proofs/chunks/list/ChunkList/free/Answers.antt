use Rattle.std.proofs.Common.{ap, ◌∙◌, length}
use Rattle.std.specs.Prelude.{slice_get}
use Rattle.term_arena.proofs.ChunkLemmas.{in_push, end_of_push}
use Rattle.term_arena.proofs.chunks.list.ChunkList.free.Goals as goal

pub loop-chunk-init : goal.loop-chunk-init
loop-chunk-init g c = c.requires.each

pub free_chunk-requires : goal.free_chunk-requires
free_chunk-requires g c =
    let cs = c.pop.new.self.items in let chunk = c.in-Some.chunk in
    c.loop-chunk.invariant (length cs) chunk (ap (λ ds. slice_get ds (length cs)) c.in-Some.ensures.items ∙ end_of_push cs chunk)

pub loop-chunk-preserved : goal.loop-chunk-preserved
loop-chunk-preserved g c j d e =
    let cs = c.pop.new.self.items in let chunk = c.in-Some.chunk in
    c.loop-chunk.invariant j d (ap (λ ds. slice_get ds j) c.in-Some.ensures.items ∙ in_push cs chunk j d e)
