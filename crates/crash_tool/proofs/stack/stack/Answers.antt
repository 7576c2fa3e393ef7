use Rattle.std.proofs.Common.{◌∙◌, refl, ap, inl, fold, Ok}
use Rattle.std.proofs.lemmas.Result.{err_from_is_err_and}
use Rattle.elf32.specs.Symbols.{symbols}
use Rattle.symbol_stack.specs.Stack.{reached_after}
use Rattle.symbol_stack.specs.declared.reached.Reached.{Reached}
use Rattle.report_format.specs.Text.{content_of}
use Rattle.receiver_replay.specs.Received.{its_run, replayed}
use Rattle.crash_tool.specs.Stack.{by_stack, stack_answer}
use Rattle.crash_tool.proofs.ReceiverLemmas.{not-a-report, refuses, passes, is-unbroken}
use Rattle.crash_tool.proofs.WatchLemmas.{stack-told}
use Rattle.crash_tool.proofs.stack.stack.Goals as goal

pub returns-in_err-report-clause-answer : goal.returns-in_err-report-clause-answer
returns-in_err-report-clause-answer c =
    let p = err_from_is_err_and c.from_residual.result c.from_residual.ensures.1 in
    rw p.1 (not-a-report (stack_answer c.args.program.now) c.args.text.now c.in_err-report.field-0.0 p.0 p.2 c.in_err-report.ensures.refused (λ line. refl))

pub returns-in_err-replay_report-clause-answer : goal.returns-in_err-replay_report-clause-answer
returns-in_err-replay_report-clause-answer c =
    let p = err_from_is_err_and c.from_residual-in_err-replay_report.result c.from_residual-in_err-replay_report.ensures.1 in
    rw p.1 (refuses (by_stack c.args.program.now (its_run c.args.program.now (content_of c.in_ok-report.report) c.in_ok-report.report.steps)) (stack_answer c.args.program.now) c.args.text.now
    (content_of c.in_ok-report.report) c.in_ok-report.ensures.read (replayed c.args.program.now (content_of c.in_ok-report.report)) refl c.in_err-replay_report.field-0.0 p.0 p.2
    c.in_err-replay_report.ensures.replayed refl)

pub tell_stack-requires : goal.tell_stack-requires
tell_stack-requires c = record {
  unbroken = is-unbroken c.args.program.now (content_of c.in_ok-report.report) _ c.in_ok-replay_report.ensures.replayed;
}

pub returns-clause-answer : goal.returns-clause-answer
returns-clause-answer c =
    let its = its_run c.args.program.now (content_of c.in_ok-report.report) c.in_ok-report.report.steps in
    inl (passes (by_stack c.args.program.now its) (stack_answer c.args.program.now) c.args.text.now
    (content_of c.in_ok-report.report) c.in_ok-report.ensures.read (replayed c.args.program.now (content_of c.in_ok-report.report)) refl _ (Ok c.in_ok-tell_stack.field-0)
    c.in_ok-replay_report.ensures.replayed (ap Ok (c.in_ok-tell_stack.ensures ∙ stack-told (symbols c.args.program.now) its _
    (c.in_ok-replay_report.ensures.watch ∙ (ap (λ (s : Reached). fold reached_after s its.events) (c.new-reached.ensures ∙ c.new.ensures) ∙ c.a_run_is_reached.ensures its.events)))))
