use Rattle.std.proofs.Common.{◌≡◌, map, length, Some, refl, sym, ap, ◌∙◌, subst, arith}
use Rattle.std.proofs.lemmas.Option.{slice_get_read}
use Rattle.term_arena.specs.Chunks.{items_of, IsLinkTo}
use Rattle.term_arena.specs.Entries.{IsAbsent}
use Rattle.term_arena.specs.Mixing.{bucket_of}
use Rattle.term_arena.specs.Buckets.{entries_of, IsTable}
use Rattle.term_arena.specs.contracts.chunks.link.Placed.{the_row}
use Rattle.term_arena.specs.declared.chunks.link.Placed.{Placed}
use Rattle.term_arena.proofs.ChunkLemmas.{set-twice}
use Rattle.term_arena.proofs.ListLemmas.{leads_somewhere}
use Rattle.term_arena.proofs.PushLemmas.{table_stays, table_grows}
use Rattle.term_arena.proofs.chunks.table.NodeTable.push.Goals as goal

pub invariant_of-self : goal.invariant_of-self
invariant_of-self c = table_stays c.self.inside.list c.keep_room.new.list c.self.inside.heads.items c.self.invariant c.keep_room.ensures.kept

pub invariant_of-self-2 : goal.invariant_of-self-2
invariant_of-self-2 c =
    let t = c.self.inside in let list = c.keep_room.new.list in let heads = t.heads.items in
    let ok = table_stays t.list list heads c.self.invariant c.keep_room.ensures.kept in
    let own : c.bucket-own.result ≡ bucket_of (length heads) c.args.entry.node = c.bucket-own.ensures.bucket ∙ ap (λ n. bucket_of n c.args.entry.node) (c.len.ensures ∙ t.heads.ok.0) in
    let p : Placed = record { entry = c.args.entry; number = c.len-number.result; next = c.replace-next.result } in
    let read = slice_get_read heads (length heads) c.bucket-own.result c.index_mut.result.now refl (let within = c.bucket-own.ensures.within in let many = c.len.ensures ∙ t.heads.ok.0 in omega arith) c.index_mut.ensures.value in
    let links : IsLinkTo the_row c.place.new.self (length (items_of list)) c.link_to.result = subst (λ n. IsLinkTo the_row c.place.new.self n c.link_to.result) c.len-number.ensures c.link_to.ensures in
    let somewhere = leads_somewhere the_row c.place.new.self c.place.ensures.0 (length (items_of list)) c.link_to.result links in
    let same = ap (map (λ (x : Placed). x.entry)) c.keep_room.ensures.kept.1 ∙ c.self.view_is ∙ c.keep_chains_short.ensures in
    let new : IsAbsent (entries_of list) c.args.entry.node = subst (λ es. IsAbsent es c.args.entry.node) (sym same) c.requires in
    subst (IsTable c.place.new.self) (sym (set-twice heads c.bucket-own.result _ c.link_to.result))
    (table_grows list c.place.new.self heads ok p c.replace-next.result c.link_to.result c.bucket-own.result own c.len-number.ensures (read ∙ ap Some (sym c.replace-next.ensures.value)) refl c.place.ensures links somewhere new)
