use Rattle.std.proofs.lemmas.Result.{err_from_is_err_and}
use Rattle.report_maker.specs.Made.{made_value}
use Rattle.crash_tool.specs.Made.{transcript_under}
use Rattle.crash_tool.proofs.MadeLemmas.{report-was-made, report-was-refused, report-of-files}
use Rattle.crash_tool.proofs.made.made.Goals as goal

pub returns-in_err-made-clause-refused : goal.returns-in_err-made-clause-refused
returns-in_err-made-clause-refused c =
    let p = err_from_is_err_and c.from_residual.result c.from_residual.ensures.1 in
    rw p.1 (report-was-refused c.args.program.now c.args.options (transcript_under c.args.program.now c.args.options c.args.input.now) c.in_err-made.field-0.0 p.0 p.2 c.in_err-made.ensures.refused)

pub returns-in_err-made-clause-kind : goal.returns-in_err-made-clause-kind
returns-in_err-made-clause-kind c =
    let p = err_from_is_err_and c.from_residual.result c.from_residual.ensures.1 in
    rw p.1 (report-of-files c.in_err-made.field-0.0 p.0 p.2 c.in_err-made.ensures.rules)

pub returns-clause-made : goal.returns-clause-made
returns-clause-made c =
    report-was-made c.args.program.now c.args.options (transcript_under c.args.program.now c.args.options c.args.input.now) (made_value c.in_ok-made.field-0) c.in_ok-made.ensures.made
