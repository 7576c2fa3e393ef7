use Rattle.std.proofs.Common.{◌≤◌, length, arith}
use Rattle.report_tests.proofs.Crash.{crash-of-image, length-of-run}
use Rattle.report_tests.proofs.tests.made_of.Goals as goal

pub make_report-requires-clause-few : goal.make_report-requires-clause-few
make_report-requires-clause-few c =
    let short : length c.args.input.now ≤ 65536 = omega arith in
    length-of-run _ c.args.input.now _ _ c.in_ok-transcript.ensures.run short

pub make_report-requires-clause-traced : goal.make_report-requires-clause-traced
make_report-requires-clause-traced c =
    crash-of-image _ c.args.input.now _ c.in_ok-image.image _ c.in-Trap.field-0 (λ i. let fits = c.type_inv.input i in omega (arith, fits)) c.in_ok-image.ensures.accepted.entry
    c.in_ok-image.ensures.accepted.segments c.in_ok-transcript.ensures.run c.in-Trap.is
