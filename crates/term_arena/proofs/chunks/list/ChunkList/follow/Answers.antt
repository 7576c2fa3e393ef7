use Rattle.std.proofs.Common.{sym, ap, ◌∙◌, ◌/◌}
use Rattle.std.specs.Prelude.{slice_get}
use Rattle.term_arena.specs.declared.chunks.TheConstants.{PLACES}
use Rattle.term_arena.proofs.ChunkLemmas.{there_is}
use Rattle.term_arena.proofs.ListLemmas.{index_within, item_read, link_start}
use Rattle.term_arena.proofs.chunks.list.ChunkList.follow.Goals as goal

pub follow-requires : goal.follow-requires
follow-requires g c =
    let l = c.args.self.now in let ok = c.requires.0 in let n = c.args.link.now.number in let lt = c.requires.1.0 in
    let found = there_is l.chunks.items (n / PLACES) (index_within l ok n lt) in
    (found.0, ap (λ cs. slice_get cs (n / PLACES)) c.deref.ensures.value ∙ found.1, c.requires.1.2 ∙ sym (link_start l ok _ n found.0 found.1), ok.filled n found.0 lt found.1)

pub returns : goal.returns
returns g c =
    let l = c.args.self.now in let ok = c.requires.0 in let n = c.args.link.now.number in let lt = c.requires.1.0 in
    let found = there_is l.chunks.items (n / PLACES) (index_within l ok n lt) in
    item_read l ok n found.0 _ lt found.1 (c.follow.ensures found.0 (ap (λ cs. slice_get cs (n / PLACES)) c.deref.ensures.value ∙ found.1))
