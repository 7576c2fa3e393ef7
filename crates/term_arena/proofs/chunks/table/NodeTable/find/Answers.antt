use Rattle.std.proofs.Common.{◌≡◌, ◌<◌, length, slice_get, Some, refl, sym, ap, ◌∙◌, subst, arith}
use Rattle.std.proofs.lemmas.Option.{slice_get_read}
use lib.Dec.{lit<}
use Rattle.term_arena.specs.contracts.chunks.link.Placed.{the_row}
use Rattle.term_arena.specs.Links.{target}
use Rattle.term_arena.specs.Mixing.{bucket_of}
use Rattle.term_arena.proofs.ListLemmas.{is_testable}
use Rattle.term_arena.proofs.NodeLemmas.{node_same, nodes_differ}
use Rattle.term_arena.proofs.FindLemmas.{IsLooking, bound, looks_at_head, looks_on, looked_at_all, found_at, testable_by}
use Rattle.term_arena.proofs.chunks.table.NodeTable.find.Goals as goal

pub loop-link-init : goal.loop-link-init
loop-link-init c =
    let t = c.self.inside in let count = length t.heads.items in
    let many : c.len.result ≡ count = c.len.ensures ∙ t.heads.ok.0 in
    let own : c.bucket.result ≡ bucket_of count c.args.node.now = c.bucket.ensures.bucket ∙ ap (λ n. bucket_of n c.args.node.now) many in
    let read = slice_get_read t.heads.items count c.bucket.result c.index-link.result.now refl (let within = c.bucket.ensures.within in omega arith) c.index-link.ensures in
    looks_at_head t.list count c.args.node.now t.heads.items c.index-link.result.now refl c.self.invariant (ap (slice_get t.heads.items) (sym own) ∙ read)

pub is_end-requires : goal.is_end-requires
is_end-requires c =
    let k = c.loop-link.link.now in
    testable_by k (λ some. is_testable the_row c.self.inside.list c.self.invariant.chunks k.number k (c.loop-link.invariant.leads k some).0 (lit< tt))

pub follow-placed-requires : goal.follow-placed-requires
follow-placed-requires c =
    let k = c.loop-link.link.now in
    (c.self.invariant.chunks, (c.loop-link.invariant.leads k c.loop-link-test.ensures).0)

pub returns-then-eq : goal.returns-then-eq
returns-then-eq c =
    let t = c.self.inside in let p = c.follow-placed.result.now in
    rw (← c.self.view_is) (found_at t.list (length t.heads.items) c.args.node.now t.heads.items c.loop-link.link.now.number p c.self.invariant c.follow-placed.ensures (node_same p.entry.node c.args.node.now (sym c.eq.ensures ∙ c.if-eq.true)))

-- the step to the next link
module _ (c : goal.Else-eq) where
  step : IsLooking c.self.inside.list (length c.self.inside.heads.items) c.args.node.now (target c.follow-placed.result.now.next) × (bound (target c.follow-placed.result.now.next) < bound (Some c.loop-link.link.now))
  step =
      let t = c.self.inside in let count = length t.heads.items in let p = c.follow-placed.result.now in
      looks_on t.list count c.args.node.now t.heads.items c.loop-link.link.now p refl c.self.invariant (subst (λ o. IsLooking t.list count c.args.node.now o) c.loop-link-test.ensures c.loop-link.invariant) c.follow-placed.ensures
      (nodes_differ p.entry.node c.args.node.now (sym c.eq.ensures ∙ c.if-eq.false))

pub loop-link-smaller : goal.loop-link-smaller
loop-link-smaller c = subst (λ o. bound (target c.follow-placed.result.now.next) < bound o) (sym c.loop-link-test.ensures) (step c).1

pub loop-link-preserved : goal.loop-link-preserved
loop-link-preserved c = (step c).0

pub returns : goal.returns
returns c =
    let t = c.self.inside in
    rw (← c.self.view_is) (looked_at_all t.list (length t.heads.items) c.args.node.now (subst (λ o. IsLooking t.list (length t.heads.items) c.args.node.now o) c.loop-link-test.ensures c.loop-link.invariant))
