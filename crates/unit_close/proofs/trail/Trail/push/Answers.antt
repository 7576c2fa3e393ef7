use Rattle.std.proofs.Common.{◌≡◌, ◌∙◌, length, arith, ap, drop}
use Rattle.std.proofs.lemmas.List.{take_at}
use Rattle.unit_close.specs.Path.{Path}
use Rattle.unit_close.proofs.TrailLemmas.{kept_push}
use Rattle.unit_close.proofs.trail.Trail.push.Goals as goal

pub invariant_of-self : goal.invariant_of-self
invariant_of-self c =
    let size : length c.put_in.new.values ≡ length c.self.inside.values.items = omega (arith, c.self.inside.values.ok.0) in
    let told = rw c.put_in.ensures.literals at c.put_in.ensures.told in
    rw (
      take_at c.put_in.new.values (drop (length c.put_in.new.values) c.self.inside.values.items) c.self.inside.values.len (omega arith),
      take_at c.put_in.new.places (drop (length c.put_in.new.places) c.self.inside.places.items) c.self.inside.places.len (omega arith),
      c.put_in.ensures.literals,
      c.put_in.ensures.capacity,
    )
    (kept_push _ _ _ _ _ _ c.self.invariant c.put_in.new.values c.put_in.new.places c.args.l size told)

pub returns-clause-names : goal.returns-clause-names
returns-clause-names c =
    let size : length c.put_in.new.values ≡ length c.self.inside.values.items = omega (arith, c.self.inside.values.ok.0) in
    rw (take_at c.put_in.new.values (drop (length c.put_in.new.values) c.self.inside.values.items) c.self.inside.values.len (omega arith)) (size ∙ ap (λ (p : Path). length p.values) c.self.view_is)
