use Rattle.std.proofs.Common.{◌≡◌, ◌+◌, ◌∷◌, [], ◌∙◌, refl, inl, inr, ◌⊎◌, take}
use Rattle.std.specs.Prelude.{Contains}
use Rattle.std.proofs.lemmas.List.{take_more, take_all}
use Rattle.std.proofs.lemmas.List.Elements.{Contains-push_cases}
use Rattle.gate_net.specs.declared.literals.Lit.{Lit}
use Rattle.unit_close.specs.Literals.{lit_at, no_literal}
use Rattle.unit_close.proofs.decide.put_units.Goals as goal

pub loop-l-preserved : goal.loop-l-preserved
loop-l-preserved c =
    let i = c.loop-l.l-index in
    let split : (u : Lit) → Contains (take (i + 1) c.units-units.result.now) u → Contains (take i c.units-units.result.now) u ⊎ (lit_at c.units-units.result.now i ≡ u) =
    λ u h. Contains-push_cases (take i c.units-units.result.now) (lit_at c.units-units.result.now i) u (rw (take_more c.units-units.result.now i no_literal c.loop-l-test.true) at h) in
    let put = c.put_unit.ensures in
    record {
      working = put.working;
      fresh = put.marks ∙ c.loop-l.invariant.fresh;
      names = put.names ∙ c.loop-l.invariant.names;
      in' = λ u h. elim (split u h) [
        | inl earlier ↦ put.grown u (c.loop-l.invariant.in' u earlier)
        | inr is ↦ rw (← is) (c.in-Set.ensures.set refl)
      ];
    }

pub returns-clause-units : goal.returns-clause-units
returns-clause-units c = λ _ u its. c.loop-l.invariant.in' u (rw (take_all c.loop-l.l-index c.units-units.result.now c.loop-l-test.false, c.units-units.ensures.units) its)
