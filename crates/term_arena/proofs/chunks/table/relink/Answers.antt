use Rattle.std.proofs.Common.{◌≡◌, ◌+◌, slice_get, Some, refl, sym, ap, ◌∙◌, subst}
use Rattle.std.proofs.lemmas.Option.{slice_get-get_or}
use Rattle.term_arena.specs.Buckets.{IsLinkedTo}
use Rattle.term_arena.specs.Links.{target}
use Rattle.term_arena.specs.declared.chunks.link.Placed.{Placed}
use Rattle.term_arena.specs.contracts.chunks.link.Placed.{the_row}
use Rattle.term_arena.proofs.ChunkLemmas.{set-twice}
use Rattle.term_arena.proofs.ListLemmas.{leads_somewhere}
use Rattle.term_arena.proofs.RelinkLemmas.{entries_stay, links_on}
use Rattle.term_arena.proofs.chunks.table.relink.Goals as goal

module _ (c : goal.After-link_to) where
  read : slice_get c.args.heads.now c.bucket-own.result ≡ Some c.replace-next.result
  read = slice_get-get_or c.args.heads.now c.bucket-own.result c.index-heads-own.result c.bucket-own.ensures.within ∙ ap Some (sym c.replace-next.ensures.value)

  somewhere : target c.link_to.result ≡ Some c.link_to.result
  somewhere = leads_somewhere the_row c.replace.new.self c.replace.ensures.0 c.args.number c.link_to.result c.link_to.ensures

pub returns-clause-linked : goal.returns-clause-linked
returns-clause-linked c =
    let heads = c.args.heads.now in let p : Placed = record { entry = c.get.result.now.entry; number = c.args.number; next = c.replace-next.result } in
    subst (λ hs. IsLinkedTo c.replace.new.self hs (c.args.number + 1)) (sym (set-twice heads c.bucket-own.result _ c.link_to.result))
    (links_on c.args.list.now c.replace.new.self heads c.args.number c.requires.linked c.get.result.now p c.replace-next.result c.link_to.result c.bucket-own.result c.get.ensures refl refl c.bucket-own.ensures.bucket (read c) refl c.replace.ensures c.link_to.ensures (somewhere c))

pub returns-clause-entries : goal.returns-clause-entries
returns-clause-entries c =
    let heads = c.args.heads.now in let p : Placed = record { entry = c.get.result.now.entry; number = c.args.number; next = c.replace-next.result } in
    entries_stay c.args.list.now c.replace.new.self heads c.args.number c.requires.linked c.get.result.now p c.replace-next.result c.link_to.result c.bucket-own.result c.get.ensures refl refl c.bucket-own.ensures.bucket (read c) refl c.replace.ensures c.link_to.ensures (somewhere c)
