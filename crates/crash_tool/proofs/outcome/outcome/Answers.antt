use Rattle.std.proofs.Common.{◌∙◌, ap, sym, inl, length, Ok}
use Rattle.std.proofs.lemmas.Result.{err_from_is_err_and}
use Rattle.crash_tool.specs.Outcome.{written}
use Rattle.crash_tool.proofs.MadeLemmas.{outcome-within, refused-outcome}
use Rattle.crash_tool.proofs.outcome.outcome.Goals as goal

pub returns-in_err-made-clause-answer : goal.returns-in_err-made-clause-answer
returns-in_err-made-clause-answer c =
    let p = err_from_is_err_and c.from_residual.result c.from_residual.ensures.1 in
    rw (p.1, p.2) (refused-outcome c.args.program.now c.args.options (length c.args.input.now) _ c.in_err-made.field-0.0 c.requires.short c.requires.few c.in_err-made.ensures.refused)

pub returns-clause-answer : goal.returns-clause-answer
returns-clause-answer c =
    inl (ap Ok c.in_ok-write_report.ensures ∙ sym (outcome-within c.args.program.now c.args.options (length c.args.input.now) _ c.requires.short c.requires.few ∙ ap written c.in_ok-made.ensures.made))
