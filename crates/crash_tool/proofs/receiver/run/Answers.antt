use Rattle.std.proofs.Common.{◌∙◌, inl, refl, ap, fold, length}
use Rattle.std.proofs.lemmas.Result.{err_from_is_err_and}
use Rattle.elf32.specs.Loads.{program_of}
use Rattle.rv_machine.specs.Trace.{transcript_of}
use Rattle.watchers.specs.Counters.{covered_after, last_after}
use Rattle.watchers.specs.Pairs.{both_after}
use Rattle.crash_tool.specs.Answers.{run_answer}
use Rattle.crash_tool.specs.Made.{transcript_under}
use Rattle.crash_tool.proofs.MadeLemmas.{by-refused}
use Rattle.crash_tool.proofs.ReceiverLemmas.{run-told}
use Rattle.crash_tool.proofs.WatchLemmas.{its-end, its-events}
use Rattle.crash_tool.proofs.receiver.run.Goals as goal

pub returns-in_err-image-clause-answer : goal.returns-in_err-image-clause-answer
returns-in_err-image-clause-answer c =
    let p = err_from_is_err_and c.from_residual.result c.from_residual.ensures.1 in
    rw p.1 (by-refused (λ rule. run_answer rule (transcript_under c.args.program.now c.args.options c.args.input.now)) c.args.program.now c.in_err-image.field-0.0 p.0 p.2 c.in_err-image.ensures.refused (λ rule. refl))

pub returns-clause-answer : goal.returns-clause-answer
returns-clause-answer c =
    let p = program_of c.in_ok-image.image in
    let state = c.in_ok-machine.ensures.state in
    let follow = fold (both_after covered_after last_after) in
    inl (run-told c.args.program.now c.args.options c.args.input.now _ c.in_ok-image.image c.in_ok-image.ensures.accepted
    (c.in_ok-run_text.ensures (transcript_of p c.args.input.now c.args.options.steps)
    (c.in_ok-run.ensures.end ∙ its-end p c.args.input.now c.args.options.steps _ state)
    (c.in_ok-run.ensures.steps ∙ ap length (its-events p c.args.input.now c.args.options.steps _ state))
    (c.in_ok-run.ensures.watch ∙ (λ i. follow (c.no_counters-counters.ensures i) (its-events p c.args.input.now c.args.options.steps _ state i)))))
