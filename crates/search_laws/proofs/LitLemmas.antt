-- Names with a sign are literals.
use Rattle.std.proofs.Common.{◌≡◌, ℕ, Bool, true, false, refl, ◌∙◌, ap, subst}
use Rattle.std.specs.Prelude.{not, nat_eq}
use Rattle.std.specs.Bool.{beq}
use Rattle.std.proofs.lemmas.Bool.{eqb-true, eq-eqb}
use Rattle.gate_net.specs.declared.literals.Lit.{Lit}
use Rattle.search_model.specs.Literals.{AreLiterals, named}
use Rattle.search_laws.proofs.ListLemmas.{both, both_true}

beq_same : (a b : Bool) → beq a b ≡ true → a ≡ b
beq_same true true e = refl
beq_same false false e = refl
beq_same a b e = cc

beq_itself : (a : Bool) → beq a a ≡ true
beq_itself true = refl
beq_itself false = refl

lit_same : (a b : Lit) → a.name ≡ b.name → a.positive ≡ b.positive → a ≡ b
lit_same a b e f =
    let by_name : ℕ → Lit = λ n. record { name = n; positive = a.positive } in
    let by_sign : Bool → Lit = λ p. record { name = b.name; positive = p } in
    ap by_name e ∙ ap by_sign f

double : (b : Bool) → not (not b) ≡ b
double true = refl
double false = refl

same_lits : (a b : Lit) → named.same a b ≡ true → a ≡ b
same_lits a b e =
    let parts = both (nat_eq a.name b.name) (beq a.positive b.positive) e in
    lit_same a b (eqb-true a.name b.name parts.0) (beq_same a.positive b.positive parts.1)

lit_itself : (a : Lit) → named.same a a ≡ true
lit_itself a = both_true (nat_eq a.name a.name) (beq a.positive a.positive) (eq-eqb a.name a.name refl) (beq_itself a.positive)

pub named_are_literals : AreLiterals named
named_are_literals = record {
  same_is = λ a b. (same_lits a b, λ e. (let P : Lit → Type 0 = λ x. named.same a x ≡ true in subst P e (lit_itself a)));
  twice = λ a. ap (λ (p : Bool). record { name = a.name; positive = p }) (double a.positive);
  other = λ a. refl;
}
