use Rattle.std.proofs.Common.{◌≡◌, ◌∙◌, true, false, ap, fold, length, arith}
use Rattle.report_format.specs.Text.{content_of}
use Rattle.rv_machine.specs.Trace.{trace_from}
use Rattle.receiver_replay.proofs.ReplayLemmas.{its_events, another_end, fewer_steps, same_run}
use Rattle.receiver_replay.proofs.replay.replay_report.Goals as goal

pub returns-then-not-is_by-clause-replayed : goal.returns-then-not-is_by-clause-replayed
returns-then-not-is_by-clause-replayed g c =
    another_end c.args.program.now (content_of c.args.report.now) c.in_ok-image.image _ c.in_ok-run.run' c.in_ok-image.ensures.accepted c.in_ok-image.ensures.image c.in_ok-machine.ensures.state (c.in_ok-run.ensures.steps ∙ ap (λ x. length (trace_from c.args.report.now.steps x c.in_ok-machine.machine.state).events) c.as_slice.ensures) (c.in_ok-run.ensures.end ∙ ap (λ x. (trace_from c.args.report.now.steps x c.in_ok-machine.machine.state).end) c.as_slice.ensures) (λ e. let yes_it : c.is_by.result ≡ true = c.is_by.ensures.1 e in let not_it : c.is_by.result ≡ false = c.if-not-is_by.true in cc)

pub returns-then-run-report-clause-replayed : goal.returns-then-run-report-clause-replayed
returns-then-run-report-clause-replayed g c =
    fewer_steps c.args.program.now (content_of c.args.report.now) c.in_ok-image.image _ c.in_ok-run.run' c.in_ok-image.ensures.accepted c.in_ok-image.ensures.image c.in_ok-machine.ensures.state (c.in_ok-run.ensures.steps ∙ ap (λ x. length (trace_from c.args.report.now.steps x c.in_ok-machine.machine.state).events) c.as_slice.ensures) (c.in_ok-run.ensures.end ∙ ap (λ x. (trace_from c.args.report.now.steps x c.in_ok-machine.machine.state).end) c.as_slice.ensures) (c.is_by.ensures.0 c.if-not-is_by.false) c.if-run-report.true

pub returns-clause-replayed : goal.returns-clause-replayed
returns-clause-replayed g c =
    same_run c.args.program.now (content_of c.args.report.now) c.in_ok-image.image _ c.in_ok-run.run' c.in_ok-image.ensures.accepted c.in_ok-image.ensures.image c.in_ok-machine.ensures.state (c.in_ok-run.ensures.steps ∙ ap (λ x. length (trace_from c.args.report.now.steps x c.in_ok-machine.machine.state).events) c.as_slice.ensures) (c.in_ok-run.ensures.end ∙ ap (λ x. (trace_from c.args.report.now.steps x c.in_ok-machine.machine.state).end) c.as_slice.ensures) (c.is_by.ensures.0 c.if-not-is_by.false) (omega (arith, c.if-run-report.false))

pub returns-clause-watch : goal.returns-clause-watch
returns-clause-watch g c =
    c.in_ok-run.ensures.watch
    ∙ ap (λ x. fold g.S.Watched.after c.args.watch.now (trace_from c.args.report.now.steps x c.in_ok-machine.machine.state).events) c.as_slice.ensures
    ∙ ap (λ events. fold g.S.Watched.after c.args.watch.now events) (its_events c.args.program.now (content_of c.args.report.now) c.in_ok-image.image _ c.in_ok-image.ensures.image c.in_ok-machine.ensures.state)
