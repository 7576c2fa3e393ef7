use Rattle.std.proofs.Common.{◌∙◌, sym, ap, subst, nat_cmp}
use Rattle.std.specs.FinSet.{insert, from_list}
use Rattle.watchers.specs.Counters.{AreIn}
use Rattle.watchers.proofs.CoveredLemmas.{set-insert_key}
use Rattle.watchers.proofs.KnownLemmas.{insert_has, AreIn-insert}
use Rattle.watchers.proofs.covered.Covered.look_up.Goals as goal

pub invariant_of-self-in_err-remember : goal.invariant_of-self-in_err-remember
invariant_of-self-in_err-remember c =
    let s = from_list {R = nat_cmp} c.self.inside.counters.keys in
    let is = ap (from_list {R = nat_cmp}) c.in_ok-insert.ensures.keys ∙ set-insert_key c.self.inside.counters.keys c.args.pc in
    subst (λ t. AreIn t c.remember.new.known.items) (sym is)
    (c.remember.ensures (insert s c.args.pc) (insert_has s c.args.pc) (AreIn-insert s c.args.pc c.self.inside.known.items c.self.invariant))

pub invariant_of-self-2 : goal.invariant_of-self-2
invariant_of-self-2 c =
    let s = from_list {R = nat_cmp} c.self.inside.counters.keys in
    let is = ap (from_list {R = nat_cmp}) c.in_ok-insert.ensures.keys ∙ set-insert_key c.self.inside.counters.keys c.args.pc in
    subst (λ t. AreIn t c.remember.new.known.items) (sym is)
    (c.remember.ensures (insert s c.args.pc) (insert_has s c.args.pc) (AreIn-insert s c.args.pc c.self.inside.known.items c.self.invariant))

pub returns : goal.returns
returns c =
    ap from_list c.in_ok-insert.ensures.keys ∙ (set-insert_key c.self.inside.counters.keys c.args.pc ∙ ap (λ s. insert s c.args.pc) c.self.view_is)
