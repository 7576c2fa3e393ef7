use Rattle.std.proofs.Common.{rules, ◌≡◌, take, inl, inr, sym, ◌∙◌}
use Rattle.std.proofs.lemmas.List.{take_more, take_all}
use Rattle.std.proofs.lemmas.List.Elements.{Contains-push_cases}
use Rattle.unit_close.specs.Literals.{no_literal, lit_at}
use Rattle.unit_close.proofs.visit.first_open.Goals as goal
use Rattle.unit_close.proofs.visit.first_open.Goals.{else-ne-via-then-ne+else-not-is_false, else-ne-via-else-ne}

pub loop-l-preserved : goal.loop-l-preserved
loop-l-preserved c = λ m h apart.
    let now = rw (take_more c.args.part.now c.loop-l.l-index no_literal c.loop-l-test.true) at h in
    elim (Contains-push_cases (take c.loop-l.l-index c.args.part.now) (lit_at c.args.part.now c.loop-l.l-index) m now) [
      | inl before ↦ c.loop-l.invariant m before apart
      | inr is ↦ elim c.else-ne.branch [
        | else-ne-via-then-ne+else-not-is_false w ↦ rw (← is) (sym w.is_false.ensures.value ∙ w.if-not-is_false.false)
        | else-ne-via-else-ne w ↦
            let same : lit_at c.args.part.now c.loop-l.l-index ≡ c.args.other = search rules in
            absurd (apart (sym is ∙ same))
      ]
    ]

pub returns-clause-none : goal.returns-clause-none
returns-clause-none c = λ _.
    rw (take_all c.loop-l.l-index c.args.part.now c.loop-l-test.false) at c.loop-l.invariant
