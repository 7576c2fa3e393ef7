use Rattle.std.proofs.Common.{◌∙◌, ap, inl, refl, Ok}
use Rattle.std.proofs.lemmas.Result.{err_from_is_err_and}
use Rattle.report_format.specs.Text.{content_of}
use Rattle.receiver_replay.specs.Received.{checked}
use Rattle.crash_tool.specs.Received.{by_check, check_answer}
use Rattle.crash_tool.proofs.ReceiverLemmas.{not-a-report, refuses, passes}
use Rattle.crash_tool.proofs.receiver.check.Goals as goal

pub returns-in_err-report-clause-answer : goal.returns-in_err-report-clause-answer
returns-in_err-report-clause-answer c =
    let p = err_from_is_err_and c.from_residual.result c.from_residual.ensures.1 in
    rw p.1 (not-a-report (check_answer c.args.program.now c.args.options) c.args.text.now c.in_err-report.field-0.0 p.0 p.2 c.in_err-report.ensures.refused (λ line. refl))

pub returns-in_err-check_report-clause-answer : goal.returns-in_err-check_report-clause-answer
returns-in_err-check_report-clause-answer c =
    let p = err_from_is_err_and c.from_residual-in_err-check_report.result c.from_residual-in_err-check_report.ensures.1 in
    rw p.1 (refuses by_check (check_answer c.args.program.now c.args.options) c.args.text.now
    (content_of c.in_ok-report.report) c.in_ok-report.ensures.read (checked c.args.program.now (content_of c.in_ok-report.report) c.args.options.steps c.args.options.conflicts) refl
    c.in_err-check_report.field-0.0 p.0 p.2 c.in_err-check_report.ensures.checked refl)

pub returns-clause-answer : goal.returns-clause-answer
returns-clause-answer c =
    inl (passes by_check (check_answer c.args.program.now c.args.options) c.args.text.now
    (content_of c.in_ok-report.report) c.in_ok-report.ensures.read (checked c.args.program.now (content_of c.in_ok-report.report) c.args.options.steps c.args.options.conflicts) refl
    _ (Ok c.from_vec.result) c.in_ok-check_report.ensures.checked (ap Ok (c.from_vec.ensures ∙ c.in_ok-to_vec.ensures.items_if_clones_equal (λ x y same. same))))
