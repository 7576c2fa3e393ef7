use Rattle.std.proofs.Common.{◌∙◌, refl, ap, inl, fold, Ok}
use Rattle.std.proofs.lemmas.Result.{err_from_is_err_and}
use Rattle.watchers.specs.Counters.{covered_after, last_after}
use Rattle.watchers.specs.Pairs.{both_after}
use Rattle.report_format.specs.Text.{content_of}
use Rattle.receiver_replay.specs.Received.{its_run, replayed}
use Rattle.crash_tool.specs.Received.{by_replay, replay_answer}
use Rattle.crash_tool.proofs.ReceiverLemmas.{not-a-report, refuses, passes, is-its-run}
use Rattle.crash_tool.proofs.receiver.replay.Goals as goal

pub returns-in_err-report-clause-answer : goal.returns-in_err-report-clause-answer
returns-in_err-report-clause-answer c =
    let p = err_from_is_err_and c.from_residual.result c.from_residual.ensures.1 in
    rw p.1 (not-a-report (replay_answer c.args.program.now) c.args.text.now c.in_err-report.field-0.0 p.0 p.2 c.in_err-report.ensures.refused (λ line. refl))

pub returns-in_err-run-clause-answer : goal.returns-in_err-run-clause-answer
returns-in_err-run-clause-answer c =
    let p = err_from_is_err_and c.from_residual-in_err-run.result c.from_residual-in_err-run.ensures.1 in
    rw p.1 (refuses (by_replay (its_run c.args.program.now (content_of c.in_ok-report.report) c.in_ok-report.report.steps)) (replay_answer c.args.program.now) c.args.text.now
    (content_of c.in_ok-report.report) c.in_ok-report.ensures.read (replayed c.args.program.now (content_of c.in_ok-report.report)) refl c.in_err-run.field-0.0 p.0 p.2
    c.in_err-run.ensures.replayed refl)

pub returns-clause-answer : goal.returns-clause-answer
returns-clause-answer c =
    let its = its_run c.args.program.now (content_of c.in_ok-report.report) c.in_ok-report.report.steps in
    let ran = is-its-run c.args.program.now (content_of c.in_ok-report.report) _ c.in_ok-run.ensures.replayed in
    inl (passes (by_replay its) (replay_answer c.args.program.now) c.args.text.now
    (content_of c.in_ok-report.report) c.in_ok-report.ensures.read (replayed c.args.program.now (content_of c.in_ok-report.report)) refl _ (Ok c.in_ok-run_text.field-0)
    c.in_ok-run.ensures.replayed (ap Ok (c.in_ok-run_text.ensures its ran.0 ran.1
    (c.in_ok-run.ensures.watch ∙ ap (λ start. fold (both_after covered_after last_after) start its.events) c.no_counters-counters.ensures))))
