use Rattle.std.proofs.Common.{◌≡◌, ℕ, ◌<◌, ◌≤◌, List, true, false, length, get_or, sym, ◌∙◌, ap, arith}
use Rattle.std.specs.Prelude.{Contains, All, is_some}
use Rattle.std.specs.Ordering.{nat_cmp}
use Rattle.std.specs.BTreeMap.{get, ContainsKey}
use Rattle.std.specs.declared.cmp.Ordering.TheVariants.{Less}
use Rattle.std.proofs.lemmas.Cmp.{ranked}
use Rattle.std.proofs.lemmas.List.Elements.{Contains-push}
use Rattle.reached_terms.proofs.KeyLemmas.{bound, bound_above, bound_least}
use Rattle.reached_terms.proofs.ReachedLemmas.{reaching_none, reaching_more, reaching_past, reached_all, after_below, not_so}
use Rattle.reached_terms.proofs.reached_past.Goals as goal

pub loop-t-init : goal.loop-t-init
loop-t-init g c =
    rw c.new-terms.ensures.items
    (reaching_none c.args.arena.now (ContainsKey nat_cmp c.args.known.now) c.args.conditions.now c.in_ok-pending.pending.keys
    (λ t h. let l : get_or c.args.conditions.now h.0 t < length c.args.arena.now = c.requires h.0 t h.1 in omega (arith, l, h.2))
    (λ t h. (c.in_ok-pending.ensures t).0 h)
    (λ t h. (c.in_ok-pending.ensures t).1 h))

pub add_operands-requires : goal.add_operands-requires
add_operands-requires g c = record {
  belongs = c.loop-t.invariant.pending_belong c.in-Some.t (rw c.in-Some.ensures.removal (Contains-push c.pop_last.new.self.keys c.in-Some.t));
}

rest_below : (rest : List ℕ) (t : ℕ) → All (λ q. nat_cmp q t ≡ Less) rest → (u : ℕ) → Contains rest u → u < t
rest_below rest t h u (k, l, e) = ranked u t Less (sym (ap (λ q. nat_cmp q t) (sym e) ∙ h k u l))

pub loop-t-smaller-in-Continue-branch-3 : goal.loop-t-smaller-in-Continue-branch-3
loop-t-smaller-in-Continue-branch-3 g c =
    let was : c.in-Some.t < bound c.loop-t.pending.keys = bound_above c.loop-t.pending.keys c.in-Some.t (rw c.in-Some.ensures.removal (Contains-push c.pop_last.new.self.keys c.in-Some.t)) in
    let lower = rest_below c.pop_last.new.self.keys c.in-Some.t c.in-Some.ensures.all_below in
    let new = not_so (is_some (get nat_cmp c.args.known.now c.in-Some.t)) c.contains_key.result c.contains_key.ensures c.if-not-contains_key.true in
    let now : bound c.add_operands.new.pending.keys ≤ c.in-Some.t = bound_least c.add_operands.new.pending.keys c.in-Some.t (after_below c.args.arena.now (ContainsKey nat_cmp c.args.known.now) c.args.conditions.now c.loop-t.pending.keys c.loop-t.terms.items c.loop-t.invariant c.pop_last.new.self.keys c.in-Some.t c.in-Some.ensures.removal new lower c.add_operands.new.pending.keys c.in_ok-add_operands.ensures.keeps c.in_ok-add_operands.ensures.adds c.in_ok-add_operands.ensures.operands) in
    let less : bound c.add_operands.new.pending.keys < bound c.loop-t.pending.keys = omega arith in
    less

pub loop-t-preserved-in-Continue-branch-3 : goal.loop-t-preserved-in-Continue-branch-3
loop-t-preserved-in-Continue-branch-3 g c =
    let lower = rest_below c.pop_last.new.self.keys c.in-Some.t c.in-Some.ensures.all_below in
    let new = not_so (is_some (get nat_cmp c.args.known.now c.in-Some.t)) c.contains_key.result c.contains_key.ensures c.if-not-contains_key.true in
    rw c.in_ok-push.ensures.items
    (reaching_more c.args.arena.now (ContainsKey nat_cmp c.args.known.now) c.args.conditions.now c.loop-t.pending.keys c.loop-t.terms.items c.loop-t.invariant c.pop_last.new.self.keys c.in-Some.t c.in-Some.ensures.removal new lower c.add_operands.new.pending.keys c.in_ok-add_operands.ensures.keeps c.in_ok-add_operands.ensures.adds c.in_ok-add_operands.ensures.operands)

pub loop-t-smaller : goal.loop-t-smaller
loop-t-smaller g c =
    let was : c.in-Some.t < bound c.loop-t.pending.keys = bound_above c.loop-t.pending.keys c.in-Some.t (rw c.in-Some.ensures.removal (Contains-push c.pop_last.new.self.keys c.in-Some.t)) in
    let now : bound c.pop_last.new.self.keys ≤ c.in-Some.t = bound_least c.pop_last.new.self.keys c.in-Some.t (rest_below c.pop_last.new.self.keys c.in-Some.t c.in-Some.ensures.all_below) in
    let less : bound c.pop_last.new.self.keys < bound c.loop-t.pending.keys = omega arith in
    less

pub loop-t-preserved : goal.loop-t-preserved
loop-t-preserved g c =
    let known : ContainsKey nat_cmp c.args.known.now c.in-Some.t = sym c.contains_key.ensures ∙ c.if-not-contains_key.false in
    reaching_past c.args.arena.now (ContainsKey nat_cmp c.args.known.now) c.args.conditions.now c.loop-t.pending.keys c.loop-t.terms.items c.loop-t.invariant c.pop_last.new.self.keys c.in-Some.t c.in-Some.ensures.removal known

pub returns : goal.returns
returns g c =
    let variant = c.in_default.ensures.variant in
    reached_all c.args.arena.now (ContainsKey nat_cmp c.args.known.now) c.args.conditions.now c.loop-t.pending.keys c.loop-t.terms.items c.loop-t.invariant (λ t h. let none : false ≡ true = variant.1 (omega (arith, h.1)) in cc)
