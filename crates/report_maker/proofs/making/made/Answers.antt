use Rattle.std.proofs.Common.{arith, inl}
use Rattle.std.proofs.lemmas.Result.{err_from_is_err_and}
use Rattle.rv_event.specs.declared.event.End.TheVariants as ends
use Rattle.report_maker.proofs.RunLemmas.{trace-of-image, length-of-run, crash-of, made-refused, made-of-end, made-of-report, made-of-error}
use Rattle.report_maker.proofs.making.made.Goals as goal

pub returns-in_err-image-clause-refused : goal.returns-in_err-image-clause-refused
returns-in_err-image-clause-refused c =
    let p = err_from_is_err_and c.from_residual.result c.from_residual.ensures.1 in
    rw p.1 (made-refused c.args.program.now c.args.seed c.args.steps c.args.conflicts _ c.in_err-image.field-0.0 p.0 p.2 c.in_err-image.ensures.refused)

pub returns-in-Limit-clause-refused : goal.returns-in-Limit-clause-refused
returns-in-Limit-clause-refused c =
    inl (made-of-end c.args.program.now c.args.input.now c.args.seed c.args.steps c.args.conflicts _ c.in_ok-image.ensures.accepted.unbroken
    (trace-of-image _ _ _ c.in_ok-image.image _ c.in_ok-image.ensures.accepted.entry c.in_ok-image.ensures.accepted.segments c.in_ok-transcript.ensures.run) ends.Limit c.in-Limit.is)

pub returns-in-Exit-clause-refused : goal.returns-in-Exit-clause-refused
returns-in-Exit-clause-refused c =
    inl (made-of-end c.args.program.now c.args.input.now c.args.seed c.args.steps c.args.conflicts _ c.in_ok-image.ensures.accepted.unbroken
    (trace-of-image _ _ _ c.in_ok-image.image _ c.in_ok-image.ensures.accepted.entry c.in_ok-image.ensures.accepted.segments c.in_ok-transcript.ensures.run) (ends.Exit c.in-Exit.field-0) c.in-Exit.is)

pub make_report-requires-clause-few : goal.make_report-requires-clause-few
make_report-requires-clause-few c = length-of-run _ c.args.input.now _ _ c.in_ok-transcript.ensures.run c.requires.few

pub make_report-requires-clause-traced : goal.make_report-requires-clause-traced
make_report-requires-clause-traced c =
    crash-of c.args.program.now c.args.input.now c.args.steps _ c.in-Trap.field-0 (λ i. let fits = c.type_inv.input i in omega (arith, fits))
    (trace-of-image _ _ _ c.in_ok-image.image _ c.in_ok-image.ensures.accepted.entry c.in_ok-image.ensures.accepted.segments c.in_ok-transcript.ensures.run) c.in-Trap.is

pub returns-in_err-make_report-in-Trap-clause-refused : goal.returns-in_err-make_report-in-Trap-clause-refused
returns-in_err-make_report-in-Trap-clause-refused c =
    let p = err_from_is_err_and c.from_residual-in_err-make_report-in-Trap.result c.from_residual-in_err-make_report-in-Trap.ensures.1 in
    rw p.1 (made-of-error c.args.program.now c.args.input.now c.args.seed c.args.steps c.args.conflicts _ c.in_ok-image.ensures.accepted.unbroken
    (trace-of-image _ _ _ c.in_ok-image.image _ c.in_ok-image.ensures.accepted.entry c.in_ok-image.ensures.accepted.segments c.in_ok-transcript.ensures.run) c.in-Trap.field-0
    c.in_err-make_report-in-Trap.field-0.0 p.0 c.in-Trap.is p.2 c.in_err-make_report-in-Trap.ensures.spent)

pub returns-clause-made : goal.returns-clause-made
returns-clause-made c =
    let made = c.in_ok-make_report-in-Trap in
    made-of-report c.args.program.now c.args.input.now c.args.seed c.args.steps c.args.conflicts _ c.in_ok-image.ensures.accepted.unbroken
    (trace-of-image _ _ _ c.in_ok-image.image _ c.in_ok-image.ensures.accepted.entry c.in_ok-image.ensures.accepted.segments c.in_ok-transcript.ensures.run) c.in-Trap.field-0
    made.field-0 (λ i. let fits = c.type_inv.input i in omega (arith, fits)) c.in-Trap.is made.ensures.report made.ensures.groups made.ensures.conflicts made.ensures.unspent
