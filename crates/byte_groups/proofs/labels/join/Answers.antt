use Rattle.std.proofs.Common.{◌<◌, length, sym, ◌∙◌, arith}
use Rattle.byte_groups.proofs.LabelLemmas.{set_later, linked_before, set_at_place}
use Rattle.byte_groups.proofs.labels.join.Goals as goal

pub returns-then-one-other-clause-later : goal.returns-then-one-other-clause-later
returns-then-one-other-clause-later c = λ side h e.
    let within : c.root-other.result < length c.root-other.new.parents = omega arith in
    let one = c.root-one.ensures.joined side h in
    let between = c.root-one.ensures.same.later side h in
    let other = c.root-other.ensures.joined side between in
    set_later c.root-other.new.parents c.root-other.ensures.same.parents c.root-other.result within side c.root-one.result (c.root-other.ensures.same.later side between) (sym other ∙ (sym e ∙ one))

pub returns-then-one-other-clause-before : goal.returns-then-one-other-clause-before
returns-then-one-other-clause-before c = λ side h.
    let within : c.root-other.result < length c.root-other.new.parents = omega arith in
    c.root-one.ensures.same.before side (c.root-other.ensures.same.before side (linked_before c.root-other.new.parents c.root-other.ensures.same.parents c.root-other.result within c.root-other.ensures.itself c.root-one.result side h))

pub returns-then-one-other-clause-joined : goal.returns-then-one-other-clause-joined
returns-then-one-other-clause-joined c = λ side h.
    let within : c.root-other.result < length c.root-other.new.parents = omega arith in
    let between = c.root-other.ensures.same.before side (linked_before c.root-other.new.parents c.root-other.ensures.same.parents c.root-other.result within c.root-other.ensures.itself c.root-one.result side h) in
    c.root-one.ensures.joined side (c.root-one.ensures.same.before side between)
    ∙ (sym (set_at_place c.root-other.new.parents c.root-other.ensures.same.parents c.root-other.result within side c.root-one.result h)
    ∙ sym (c.root-other.ensures.joined side between))

pub returns-else-one-other-clause-later : goal.returns-else-one-other-clause-later
returns-else-one-other-clause-later c = λ side h e.
    let within : c.root-one.result < length c.root-other.new.parents = omega arith in
    let one = c.root-one.ensures.joined side h in
    let between = c.root-one.ensures.same.later side h in
    let other = c.root-other.ensures.joined side between in
    set_later c.root-other.new.parents c.root-other.ensures.same.parents c.root-one.result within side c.root-other.result (c.root-other.ensures.same.later side between) (sym one ∙ (e ∙ other))

pub returns-else-one-other-clause-before : goal.returns-else-one-other-clause-before
returns-else-one-other-clause-before c = λ side h.
    let within : c.root-one.result < length c.root-other.new.parents = omega arith in
    c.root-one.ensures.same.before side (c.root-other.ensures.same.before side (linked_before c.root-other.new.parents c.root-other.ensures.same.parents c.root-one.result within (c.root-other.ensures.roots c.root-one.result c.root-one.ensures.itself) c.root-other.result side h))

pub returns-else-one-other-clause-joined : goal.returns-else-one-other-clause-joined
returns-else-one-other-clause-joined c = λ side h.
    let within : c.root-one.result < length c.root-other.new.parents = omega arith in
    let between = c.root-other.ensures.same.before side (linked_before c.root-other.new.parents c.root-other.ensures.same.parents c.root-one.result within (c.root-other.ensures.roots c.root-one.result c.root-one.ensures.itself) c.root-other.result side h) in
    c.root-one.ensures.joined side (c.root-one.ensures.same.before side between)
    ∙ (set_at_place c.root-other.new.parents c.root-other.ensures.same.parents c.root-one.result within side c.root-other.result h
    ∙ sym (c.root-other.ensures.joined side between))
