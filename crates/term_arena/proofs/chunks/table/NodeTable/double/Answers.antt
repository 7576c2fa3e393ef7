use Rattle.std.proofs.Common.{◌≡◌, ◌+◌, length, refl, sym, ap, ◌∙◌, subst, arith, take_at, drop}
use Rattle.term_arena.specs.Nodes.{AreDistinct}
use Rattle.term_arena.specs.Entries.{nodes_of}
use Rattle.term_arena.specs.Buckets.{IsLinkedTo}
use Rattle.term_arena.proofs.RelinkLemmas.{IsDoubling, links_begin, links_end, doubling_on}
use Rattle.term_arena.proofs.chunks.table.NodeTable.double.Goals as goal

pub loop-number-init : goal.loop-number-init
loop-number-init c =
    let t = c.self.inside in
    record {
      linked = links_begin t.list t.heads.items c.in_ok-heads.heads.items _ c.self.invariant c.in_ok-heads.ensures (let some = c.self.invariant.some in omega (arith, some, c.len.ensures, t.heads.ok.0));
      entries = refl;
      all = c.len-number-end.ensures;
      within = omega arith;
    }

pub relink-requires-clause-linked : goal.relink-requires-clause-linked
relink-requires-clause-linked c = subst (λ hs. IsLinkedTo c.loop-number.self-inside.list hs c.loop-number.number) (sym c.deref_mut.ensures.value) c.loop-number.invariant.linked

pub relink-requires-clause-there : goal.relink-requires-clause-there
relink-requires-clause-there c = let all = c.loop-number.invariant.all in omega (arith, all, c.loop-number-test.true)

pub loop-number-preserved : goal.loop-number-preserved
loop-number-preserved c =
    let l = c.loop-number in let ws = c.relink.new.heads in
    let long : length ws ≡ l.heads.len = c.relink.ensures.buckets ∙ ap length c.deref_mut.ensures.value ∙ sym l.heads.ok.0 in
    subst (λ hs. IsDoubling c.self.inside.list c.relink.new.list hs (l.number + 1) c.len-number-end.result) (sym (take_at ws (drop (length ws) l.heads.items) l.heads.len long))
    (doubling_on c.self.inside.list l.self-inside.list c.relink.new.list l.heads.items ws l.number c.len-number-end.result l.invariant c.loop-number-test.true c.relink.ensures.linked c.relink.ensures.entries)

pub invariant_of-self : goal.invariant_of-self
invariant_of-self c =
    let ok = c.loop-number.invariant in let all = ok.all in let within = ok.within in
    links_end c.loop-number.self-inside.list c.loop-number.heads.items c.loop-number.number (omega (arith, c.loop-number-test.false)) (subst (λ es. AreDistinct (nodes_of es)) (sym ok.entries) c.self.invariant.distinct) ok.linked

pub returns : goal.returns
returns c = c.loop-number.invariant.entries ∙ c.self.view_is
