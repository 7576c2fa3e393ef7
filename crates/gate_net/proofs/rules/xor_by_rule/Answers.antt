use Rattle.std.proofs.Common.{◌≡◌, true, false, nat_eq, ap, sym, ◌∙◌}
use Rattle.std.proofs.lemmas.Bool.{eq-eqb, ne_eqb}
use Rattle.gate_model.specs.Booleans.{xor}
use Rattle.gate_model.specs.Tree.{Tree, Signed}
use Rattle.gate_net.proofs.KeyLemmas.{lits_eq}
use Rattle.gate_net.proofs.RuleLemmas.{lit_yes, lit_no, xor_is}
use Rattle.gate_net.proofs.rules.xor_by_rule.Goals as goal

pub returns-then-eq : goal.returns-then-eq
returns-then-eq c = λ trees net ha hb.
    let h0 : lits_eq c.args.a lit_no ≡ true = sym c.eq.ensures ∙ c.if-eq.true in
    (hb, sym (rw h0 at (xor_is trees net c.args.a c.args.b ha hb)))

pub returns-then-eq-2 : goal.returns-then-eq-2
returns-then-eq-2 c = λ trees net ha hb.
    let h0 : lits_eq c.args.a lit_no ≡ false = sym c.eq.ensures ∙ c.if-eq.false in
    let h1 : lits_eq c.args.a lit_yes ≡ true = sym c.eq-2.ensures ∙ c.if-eq-2.true in
    (rw c.not.ensures.name hb, c.not.ensures.tree trees ∙ sym (rw (h0, h1) at (xor_is trees net c.args.a c.args.b ha hb)))

pub returns-then-eq-3 : goal.returns-then-eq-3
returns-then-eq-3 c = λ trees net ha hb.
    let h0 : lits_eq c.args.a lit_no ≡ false = sym c.eq.ensures ∙ c.if-eq.false in
    let h1 : lits_eq c.args.a lit_yes ≡ false = sym c.eq-2.ensures ∙ c.if-eq-2.false in
    let h2 : lits_eq c.args.b lit_no ≡ true = sym c.eq-3.ensures ∙ c.if-eq-3.true in
    (ha, sym (rw (h0, h1, h2) at (xor_is trees net c.args.a c.args.b ha hb)))

pub returns-then-eq-4 : goal.returns-then-eq-4
returns-then-eq-4 c = λ trees net ha hb.
    let h0 : lits_eq c.args.a lit_no ≡ false = sym c.eq.ensures ∙ c.if-eq.false in
    let h1 : lits_eq c.args.a lit_yes ≡ false = sym c.eq-2.ensures ∙ c.if-eq-2.false in
    let h2 : lits_eq c.args.b lit_no ≡ false = sym c.eq-3.ensures ∙ c.if-eq-3.false in
    let h3 : lits_eq c.args.b lit_yes ≡ true = sym c.eq-4.ensures ∙ c.if-eq-4.true in
    (rw c.not-then-eq-4.ensures.name ha, c.not-then-eq-4.ensures.tree trees ∙ sym (rw (h0, h1, h2, h3) at (xor_is trees net c.args.a c.args.b ha hb)))

pub returns-then-a-b : goal.returns-then-a-b
returns-then-a-b c = λ trees net ha hb.
    let h0 : lits_eq c.args.a lit_no ≡ false = sym c.eq.ensures ∙ c.if-eq.false in
    let h1 : lits_eq c.args.a lit_yes ≡ false = sym c.eq-2.ensures ∙ c.if-eq-2.false in
    let h2 : lits_eq c.args.b lit_no ≡ false = sym c.eq-3.ensures ∙ c.if-eq-3.false in
    let h3 : lits_eq c.args.b lit_yes ≡ false = sym c.eq-4.ensures ∙ c.if-eq-4.false in
    let h4 : nat_eq c.args.a.name c.args.b.name ≡ true = eq-eqb _ _ c.if-a-b.true in
    let sign = ap (λ (t : Tree). let s : Signed = record { tree = t; positive = xor c.args.a.positive c.args.b.positive } in s) net.yes in
    (net.some, sign ∙ sym (rw (h0, h1, h2, h3, h4) at (xor_is trees net c.args.a c.args.b ha hb)))

pub returns : goal.returns
returns c = λ trees net ha hb.
    let h0 : lits_eq c.args.a lit_no ≡ false = sym c.eq.ensures ∙ c.if-eq.false in
    let h1 : lits_eq c.args.a lit_yes ≡ false = sym c.eq-2.ensures ∙ c.if-eq-2.false in
    let h2 : lits_eq c.args.b lit_no ≡ false = sym c.eq-3.ensures ∙ c.if-eq-3.false in
    let h3 : lits_eq c.args.b lit_yes ≡ false = sym c.eq-4.ensures ∙ c.if-eq-4.false in
    let h4 : nat_eq c.args.a.name c.args.b.name ≡ false = ne_eqb _ _ c.if-a-b.false in
    rw (h0, h1, h2, h3, h4) at (xor_is trees net c.args.a c.args.b ha hb)
