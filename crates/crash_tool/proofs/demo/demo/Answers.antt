use Rattle.std.proofs.Common.{◌∙◌, inl}
use Rattle.std.proofs.lemmas.Result.{err_from_is_err_and}
use Rattle.report_maker.specs.Made.{made_value}
use Rattle.crash_tool.proofs.DemoLemmas.{demo-summed, demo-refused}
use Rattle.crash_tool.proofs.demo.demo.Goals as goal

pub returns-in_err-made-clause-answer : goal.returns-in_err-made-clause-answer
returns-in_err-made-clause-answer c =
    let p = err_from_is_err_and c.from_residual-in_err-made.result c.from_residual-in_err-made.ensures.1 in
    rw (p.1, p.2) (demo-refused c.args.kind c.args.size c.args.options c.in_ok-case.case.program _ _ c.in_ok-case.ensures.program c.as_slice.ensures
    (c.as_slice-2.ensures ∙ c.in_ok-case.ensures.input) c.in_err-made.field-0.0 c.in_err-made.ensures.refused)

pub returns-clause-answer : goal.returns-clause-answer
returns-clause-answer c =
    inl (demo-summed c.args.kind c.args.size c.args.options c.in_ok-case.case.program _ _ c.in_ok-case.ensures.program c.as_slice.ensures (c.as_slice-2.ensures ∙ c.in_ok-case.ensures.input)
    (made_value c.in_ok-made.made) _ c.in_ok-made.ensures.made c.in_ok-summary.ensures)
