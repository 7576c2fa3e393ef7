use Rattle.std.proofs.Common.{◌<◌, arith}
use Rattle.std.proofs.lemmas.Option.{slice_get_read}
use Rattle.core.specs.Mem.Slots.{slots_items}
use Rattle.term_arena.specs.declared.chunks.TheConstants.{PLACES}
use Rattle.term_arena.proofs.ListLemmas.{count, index_within, chunk_read, row_length, item_read}
use Rattle.term_arena.proofs.chunks.list.ChunkList.get.Goals as goal

pub index-chunk-requires : goal.index-chunk-requires
index-chunk-requires g c =
    let l = c.args.self.now in
    omega (arith, index_within l c.requires.0 c.args.number (omega (arith, c.requires.1, count l c.requires.0)), l.chunks.ok.0)

pub get-requires : goal.get-requires
get-requires g c =
    let l = c.args.self.now in let ok = c.requires.0 in let lt : c.args.number < l.len = omega (arith, c.requires.1, count l ok) in
    let there = chunk_read l ok c.args.number c.index-chunk.result.now (index_within l ok c.args.number lt) c.index-chunk.ensures in
    ok.filled c.args.number _ lt there

pub returns : goal.returns
returns g c =
    let l = c.args.self.now in let ok = c.requires.0 in let lt : c.args.number < l.len = omega (arith, c.requires.1, count l ok) in
    let chunk = c.index-chunk.result.now in
    let there = chunk_read l ok c.args.number chunk (index_within l ok c.args.number lt) c.index-chunk.ensures in
    let long = row_length l.alloc chunk (ok.each _ _ there) in
    item_read l ok c.args.number _ _ lt there (slice_get_read (slots_items chunk.slots) PLACES _ c.get.result.now (omega arith) (omega arith) c.get.ensures)
