use Rattle.std.proofs.Common.{◌<◌, refl, arith}
use Rattle.term_arena.specs.contracts.chunks.list.ChunkList.replace.{T-row}
use Rattle.term_arena.proofs.ListLemmas.{count, index_within, chunk_read, replaced}
use Rattle.term_arena.proofs.chunks.list.ChunkList.replace.Goals as goal

pub index_mut-chunk-requires : goal.index_mut-chunk-requires
index_mut-chunk-requires g c =
    let l = c.args.self.now in
    omega (arith, index_within l c.requires.0 c.args.number (omega (arith, c.requires.1, count l c.requires.0)), l.chunks.ok.0)

pub put-requires : goal.put-requires
put-requires g c =
    let l = c.args.self.now in let ok = c.requires.0 in let lt : c.args.number < l.len = omega (arith, c.requires.1, count l ok) in
    let there = chunk_read l ok c.args.number c.index_mut-chunk.result.now (index_within l ok c.args.number lt) c.index_mut-chunk.ensures.value in
    let places = (ok.each _ _ there).places in omega arith

pub returns : goal.returns
returns g c =
    let l = c.args.self.now in let ok = c.requires.0 in let n = c.args.number in let lt : n < l.len = omega (arith, c.requires.1, count l ok) in
    let chunk = c.index_mut-chunk.result.now in
    let there = chunk_read l ok n chunk (index_within l ok n lt) c.index_mut-chunk.ensures.value in
    replaced (T-row g.row.T) l _ ok n chunk c.args.item there c.put.new.self c.put.ensures.places c.put.ensures.items c.put.ensures.filled refl refl refl lt
