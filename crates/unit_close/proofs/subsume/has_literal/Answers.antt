use Rattle.std.proofs.Common.{rules, ◌≢◌, take, inl, inr}
use Rattle.std.proofs.lemmas.List.{take_more, take_all}
use Rattle.std.proofs.lemmas.List.Elements.{Contains-push_cases}
use Rattle.unit_close.specs.Literals.{no_literal, lit_at}
use Rattle.unit_close.proofs.subsume.has_literal.Goals as goal

pub loop-m-preserved : goal.loop-m-preserved
loop-m-preserved c = λ h.
    let now = rw (take_more c.args.clause.now c.loop-m.m-index no_literal c.loop-m-test.true) at h in
    let apart : lit_at c.args.clause.now c.loop-m.m-index ≢ c.args.l = search rules in
    elim (Contains-push_cases (take c.loop-m.m-index c.args.clause.now) (lit_at c.args.clause.now c.loop-m.m-index) c.args.l now) [
      | inl before ↦ c.loop-m.invariant before
      | inr is ↦ apart is
    ]

pub returns-clause-no : goal.returns-clause-no
returns-clause-no c = λ _.
    rw (take_all c.loop-m.m-index c.args.clause.now c.loop-m-test.false) at c.loop-m.invariant
