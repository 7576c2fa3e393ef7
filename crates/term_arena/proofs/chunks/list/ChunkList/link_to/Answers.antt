use Rattle.std.proofs.Common.{◌<◌, ◌∙◌, arith}
use Rattle.term_arena.proofs.ListLemmas.{count, index_within, chunk_read, link_place}
use Rattle.term_arena.proofs.chunks.list.ChunkList.link_to.Goals as goal

pub index-chunk-requires : goal.index-chunk-requires
index-chunk-requires g c =
    let l = c.args.self.now in let ok = c.requires.there.0 in
    omega (arith, index_within l ok c.args.number (omega (arith, c.requires.there.1, count l ok)), l.chunks.ok.0)

pub link_to-requires : goal.link_to-requires
link_to-requires g c =
    let l = c.args.self.now in let ok = c.requires.there.0 in let lt : c.args.number < l.len = omega (arith, c.requires.there.1, count l ok) in
    let there = chunk_read l ok c.args.number c.index-chunk.result.now (index_within l ok c.args.number lt) c.index-chunk.ensures in
    ((ok.each _ _ there).within, omega arith, c.requires.fits)

pub returns : goal.returns
returns g c =
    let l = c.args.self.now in let ok = c.requires.there.0 in let lt : c.args.number < l.len = omega (arith, c.requires.there.1, count l ok) in
    let there = chunk_read l ok c.args.number c.index-chunk.result.now (index_within l ok c.args.number lt) c.index-chunk.ensures in
    (lt, c.link_to.ensures.1, c.link_to.ensures.0 ∙ link_place l ok _ c.args.number _ there)
