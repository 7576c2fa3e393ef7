use Rattle.std.proofs.Common.{rules, ◌≡◌, ◌∷◌, sym, ap, ◌∙◌, true, false}
use Rattle.std.specs.Vec.{with_items}
use Rattle.std.proofs.lemmas.List.{with_items_is}
use Rattle.memory_map.specs.Layout.{map_of, contains}
use Rattle.memory_map.proofs.Writes.{space_after, write_first, write_past, after_is, can_is, one_is}
use Rattle.memory_map.proofs.memory.Memory.write_within.Goals as goal

pub write_at-requires-clause-ascending : goal.write_at-requires-clause-ascending
write_at-requires-clause-ascending c = rw c.deref_mut.ensures.value c.self.invariant.0.ascending

pub returns-then-contains-clause-written : goal.returns-then-contains-clause-written
returns-then-contains-clause-written c =
    let ps = c.self.inside.stack ∷ c.self.inside.regions.items in
    let on : contains c.self.inside.stack c.args.address ≡ true = sym c.contains.ensures ∙ c.if-contains.true in
    let w = write_first c.write.result c.self.inside.stack c.write.new.self c.self.inside.regions.items c.args.address c.args.bytes.now on c.self.invariant.0.stack_within c.write.ensures.written c.write.ensures.after in
    can_is c.write.result ps (c.write.new.self ∷ c.self.inside.regions.items) c.args.self.now.map c.args.address c.args.bytes.now (ap (λ s. s.map) c.self.view_is) w

pub returns-then-contains-clause-one : goal.returns-then-contains-clause-one
returns-then-contains-clause-one c =
    let ps = c.self.inside.stack ∷ c.self.inside.regions.items in
    let on : contains c.self.inside.stack c.args.address ≡ true = sym c.contains.ensures ∙ c.if-contains.true in
    let w = write_first c.write.result c.self.inside.stack c.write.new.self c.self.inside.regions.items c.args.address c.args.bytes.now on c.self.invariant.0.stack_within c.write.ensures.written c.write.ensures.after in
    one_is c.write.result ps (c.write.new.self ∷ c.self.inside.regions.items) c.args.self.now.map c.args.address c.args.bytes.now (ap (λ s. s.map) c.self.view_is) w

pub returns-then-contains-clause-after : goal.returns-then-contains-clause-after
returns-then-contains-clause-after c =
    let ps = c.self.inside.stack ∷ c.self.inside.regions.items in
    let on : contains c.self.inside.stack c.args.address ≡ true = sym c.contains.ensures ∙ c.if-contains.true in
    let w = write_first c.write.result c.self.inside.stack c.write.new.self c.self.inside.regions.items c.args.address c.args.bytes.now on c.self.invariant.0.stack_within c.write.ensures.written c.write.ensures.after in
    space_after c.write.result _ _ _ c.args.self.now (ap (λ s. s.heap) c.self.view_is)
    (after_is c.write.result ps (c.write.new.self ∷ c.self.inside.regions.items) c.args.self.now.map c.args.address c.args.bytes.now (ap (λ s. s.map) c.self.view_is) w)

pub returns-else-contains-clause-written : goal.returns-else-contains-clause-written
returns-else-contains-clause-written c =
    let ps = c.self.inside.stack ∷ c.self.inside.regions.items in
    let off : contains c.self.inside.stack c.args.address ≡ false = sym c.contains.ensures ∙ c.if-contains.false in
    let h = rw c.deref_mut.ensures.value at c.write_at.ensures in
    let w = write_past c.write_at.result c.self.inside.stack c.self.inside.regions.items c.write_at.new.regions c.args.address c.args.bytes.now off c.self.invariant.0.off_stack h.written h.refused h.one in
    can_is c.write_at.result ps (c.self.inside.stack ∷ c.write_at.new.regions) c.args.self.now.map c.args.address c.args.bytes.now (ap (λ s. s.map) c.self.view_is) w

pub returns-else-contains-clause-one : goal.returns-else-contains-clause-one
returns-else-contains-clause-one c =
    let ps = c.self.inside.stack ∷ c.self.inside.regions.items in
    let off : contains c.self.inside.stack c.args.address ≡ false = sym c.contains.ensures ∙ c.if-contains.false in
    let h = rw c.deref_mut.ensures.value at c.write_at.ensures in
    let w = write_past c.write_at.result c.self.inside.stack c.self.inside.regions.items c.write_at.new.regions c.args.address c.args.bytes.now off c.self.invariant.0.off_stack h.written h.refused h.one in
    one_is c.write_at.result ps (c.self.inside.stack ∷ c.write_at.new.regions) c.args.self.now.map c.args.address c.args.bytes.now (ap (λ s. s.map) c.self.view_is) w

pub returns-else-contains-clause-after : goal.returns-else-contains-clause-after
returns-else-contains-clause-after c =
    let ps = c.self.inside.stack ∷ c.self.inside.regions.items in
    let off : contains c.self.inside.stack c.args.address ≡ false = sym c.contains.ensures ∙ c.if-contains.false in
    let h = rw c.deref_mut.ensures.value at c.write_at.ensures in
    let w = write_past c.write_at.result c.self.inside.stack c.self.inside.regions.items c.write_at.new.regions c.args.address c.args.bytes.now off c.self.invariant.0.off_stack h.written h.refused h.one in
    let same : (with_items c.self.inside.regions c.write_at.new.regions).items ≡ c.write_at.new.regions = with_items_is c.self.inside.regions c.write_at.new.regions (search rules) in
    space_after c.write_at.result _ _ _ c.args.self.now (ap (λ s. s.heap) c.self.view_is)
    (ap (λ qs. map_of (c.self.inside.stack ∷ qs)) same
    ∙ after_is c.write_at.result ps (c.self.inside.stack ∷ c.write_at.new.regions) c.args.self.now.map c.args.address c.args.bytes.now (ap (λ s. s.map) c.self.view_is) w)
