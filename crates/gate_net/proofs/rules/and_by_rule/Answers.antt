use Rattle.std.proofs.Common.{◌≡◌, true, false, not, ◌||◌, refl, sym, ◌∙◌}
use Rattle.std.proofs.lemmas.Bool.{or_left, or_right}
use Rattle.gate_net.specs.declared.literals.Lit.{Lit}
use Rattle.gate_net.proofs.KeyLemmas.{lits_eq}
use Rattle.gate_net.proofs.RuleLemmas.{lit_yes, lit_no, no_is, and_is}
use Rattle.gate_net.proofs.rules.and_by_rule.Goals as goal
use Rattle.gate_net.proofs.rules.and_by_rule.Goals.{then-eq-via-then-eq, then-eq-via-else-eq+then-eq-2, then-eq-4-via-then-eq-4, then-eq-4-via-else-eq-4+then-eq-5}

-- the negation of a Lit
abbrev opposite : Lit → Lit
opposite b = record { name = b.name; positive = not b.positive }

pub returns-then-eq : goal.returns-then-eq
returns-then-eq c = λ trees net ha hb.
    let h : (lits_eq c.args.a lit_no || lits_eq c.args.b lit_no) ≡ true = elim c.then-eq.branch [
      | then-eq-via-then-eq w ↦ or_left _ _ (sym c.eq.ensures ∙ w.if-eq.true)
      | then-eq-via-else-eq+then-eq-2 w ↦ or_right _ _ (sym w.eq-else-eq.ensures ∙ w.if-eq-2.true)
    ] in
    (net.some, no_is trees net ∙ sym (rw h at (and_is trees net c.args.a c.args.b ha hb (opposite c.args.b) refl refl)))

pub returns-then-eq-3 : goal.returns-then-eq-3
returns-then-eq-3 c = λ trees net ha hb.
    let h0 : lits_eq c.args.a lit_no ≡ false = sym c.eq.ensures ∙ c.if-eq.false in
    let h1 : lits_eq c.args.b lit_no ≡ false = sym c.eq-else-eq.ensures ∙ c.if-eq-2.false in
    let h2 : lits_eq c.args.a lit_yes ≡ true = sym c.eq-2.ensures ∙ c.if-eq-3.true in
    (hb, sym (rw (h0, h1, h2) at (and_is trees net c.args.a c.args.b ha hb (opposite c.args.b) refl refl)))

pub returns-then-eq-4 : goal.returns-then-eq-4
returns-then-eq-4 c = λ trees net ha hb.
    let h0 : lits_eq c.args.a lit_no ≡ false = sym c.eq.ensures ∙ c.if-eq.false in
    let h1 : lits_eq c.args.b lit_no ≡ false = sym c.eq-else-eq.ensures ∙ c.if-eq-2.false in
    let h2 : lits_eq c.args.a lit_yes ≡ false = sym c.eq-2.ensures ∙ c.if-eq-3.false in
    let is = rw (h0, h1, h2) at (and_is trees net c.args.a c.args.b ha hb (opposite c.args.b) refl refl) in (
      ha,
      elim c.then-eq-4.branch [
        | then-eq-4-via-then-eq-4 w ↦
            let h3 : lits_eq c.args.b lit_yes ≡ true = sym c.eq-3.ensures ∙ w.if-eq-4.true in
            sym (rw h3 at is)
        | then-eq-4-via-else-eq-4+then-eq-5 w ↦
            let h3 : lits_eq c.args.b lit_yes ≡ false = sym c.eq-3.ensures ∙ w.if-eq-4.false in
            let h4 : lits_eq c.args.a c.args.b ≡ true = sym w.eq-else-eq-4.ensures ∙ w.if-eq-5.true in
            sym (rw (h3, h4) at is)
      ],
    )

pub returns-then-eq-6 : goal.returns-then-eq-6
returns-then-eq-6 c = λ trees net ha hb.
    let h0 : lits_eq c.args.a lit_no ≡ false = sym c.eq.ensures ∙ c.if-eq.false in
    let h1 : lits_eq c.args.b lit_no ≡ false = sym c.eq-else-eq.ensures ∙ c.if-eq-2.false in
    let h2 : lits_eq c.args.a lit_yes ≡ false = sym c.eq-2.ensures ∙ c.if-eq-3.false in
    let h3 : lits_eq c.args.b lit_yes ≡ false = sym c.eq-3.ensures ∙ c.if-eq-4.false in
    let h4 : lits_eq c.args.a c.args.b ≡ false = sym c.eq-else-eq-4.ensures ∙ c.if-eq-5.false in
    let h5 : lits_eq c.args.a c.not.result ≡ true = sym c.eq-4.ensures ∙ c.if-eq-6.true in
    (net.some, no_is trees net ∙ sym (rw (h0, h1, h2, h3, h4, h5) at (and_is trees net c.args.a c.args.b ha hb c.not.result c.not.ensures.name (c.not.ensures.tree trees))))

pub returns : goal.returns
returns c = λ trees net ha hb.
    let h0 : lits_eq c.args.a lit_no ≡ false = sym c.eq.ensures ∙ c.if-eq.false in
    let h1 : lits_eq c.args.b lit_no ≡ false = sym c.eq-else-eq.ensures ∙ c.if-eq-2.false in
    let h2 : lits_eq c.args.a lit_yes ≡ false = sym c.eq-2.ensures ∙ c.if-eq-3.false in
    let h3 : lits_eq c.args.b lit_yes ≡ false = sym c.eq-3.ensures ∙ c.if-eq-4.false in
    let h4 : lits_eq c.args.a c.args.b ≡ false = sym c.eq-else-eq-4.ensures ∙ c.if-eq-5.false in
    let h5 : lits_eq c.args.a c.not.result ≡ false = sym c.eq-4.ensures ∙ c.if-eq-6.false in
    rw (h0, h1, h2, h3, h4, h5) at (and_is trees net c.args.a c.args.b ha hb c.not.result c.not.ensures.name (c.not.ensures.tree trees))
