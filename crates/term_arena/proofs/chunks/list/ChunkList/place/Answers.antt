use Rattle.std.proofs.Common.{refl, arith}
use Rattle.term_arena.specs.contracts.chunks.list.ChunkList.place.{T-row}
use Rattle.term_arena.proofs.ListLemmas.{chunk_read, placed}
use Rattle.term_arena.proofs.chunks.list.ChunkList.place.Goals as goal

pub put-requires : goal.put-requires
put-requires g c =
    let l = c.args.self.now in let ok = c.requires.0 in
    let there = chunk_read l ok l.len c.index_mut-chunk.result.now (let room = c.requires.1.0 in omega arith) c.index_mut-chunk.ensures.value in
    let places = (ok.each _ _ there).places in omega arith

pub returns : goal.returns
returns g c =
    let l = c.args.self.now in let ok = c.requires.0 in
    let there = chunk_read l ok l.len c.index_mut-chunk.result.now (let room = c.requires.1.0 in omega arith) c.index_mut-chunk.ensures.value in
    placed (T-row g.row.T) l _ ok l.len c.index_mut-chunk.result.now c.args.item there c.put.new.self c.put.ensures.places c.put.ensures.items c.put.ensures.filled refl refl refl refl c.requires.1
