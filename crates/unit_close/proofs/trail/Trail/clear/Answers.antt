use Rattle.std.proofs.Common.{◌≡◌, ◌∙◌, length, arith, ap, drop}
use Rattle.std.proofs.lemmas.List.{take_at}
use Rattle.unit_close.specs.Path.{Path}
use Rattle.unit_close.proofs.TrailLemmas.{kept_clear}
use Rattle.unit_close.proofs.trail.Trail.clear.Goals as goal

pub invariant_of-self : goal.invariant_of-self
invariant_of-self c =
    let size : length c.take_back.new.values ≡ length c.self.inside.values.items = omega (arith, c.self.inside.values.ok.0) in
    let told = rw c.deref.ensures.value at c.take_back.ensures.told in
    rw (
      take_at c.take_back.new.values (drop (length c.take_back.new.values) c.self.inside.values.items) c.self.inside.values.len (omega arith),
      c.clear.ensures.items,
      c.take_back.ensures.capacity,
      c.clear.ensures.capacity,
    )
    (kept_clear _ _ _ _ _ _ c.self.invariant c.take_back.new.values c.take_back.new.literals.items size told)

pub returns-clause-names : goal.returns-clause-names
returns-clause-names c =
    let size : length c.take_back.new.values ≡ length c.self.inside.values.items = omega (arith, c.self.inside.values.ok.0) in
    rw (take_at c.take_back.new.values (drop (length c.take_back.new.values) c.self.inside.values.items) c.self.inside.values.len (omega arith)) (size ∙ ap (λ (p : Path). length p.values) c.self.view_is)
