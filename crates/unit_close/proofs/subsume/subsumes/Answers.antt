use Rattle.std.proofs.Common.{◌-◌, ◌<◌, ◌≤◌, length, arith}
use Rattle.std.proofs.lemmas.Grind.{common_steps}
use Rattle.std.proofs.lemmas.List.Elements.{Contains-get_or}
use Rattle.unit_close.specs.Literals.{no_literal}
use Rattle.unit_close.proofs.SubsumeLemmas.{part_of}
use Rattle.unit_close.proofs.subsume.subsumes.Goals as goal

pub returns-then-is_empty-clause-no : goal.returns-then-is_empty-clause-no
returns-then-is_empty-clause-no c = λ _ is.
    let (k, within, at) = is.some.1 in
    let none : length c.args.part.now ≤ 0 = grind (arith, common_steps) in
    omega (arith, within, none)

pub returns-then-not-has_literal-clause-no : goal.returns-then-not-has_literal-clause-no
returns-then-not-has_literal-clause-no c = λ _ is.
    c.has_literal.ensures.no c.if-not-has_literal.true
    (is.each _ (Contains-get_or c.args.part.now (c.loop-i.i - 1) no_literal (omega (arith, c.loop-i-test.true))))

pub returns-clause-yes : goal.returns-clause-yes
returns-clause-yes c = λ _.
    let some : 0 < length c.args.part.now = grind (arith, common_steps) in
    part_of c.args.part.now c.args.clause.now c.loop-i.i (omega (arith, c.loop-i-test.false)) some c.loop-i.invariant
