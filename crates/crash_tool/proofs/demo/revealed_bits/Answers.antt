use Rattle.std.proofs.Common.{arith, ap, length}
use Rattle.input_laws.proofs.Freed.{filled}
use Rattle.report_format.proofs.ChoiceLemmas.{choice-filled, choice-length}
use Rattle.crash_tool.proofs.demo.revealed_bits.Goals as goal

pub revealed-requires-clause-filled : goal.revealed-requires-clause-filled
revealed-requires-clause-filled c =
    rw c.as_slice.ensures (choice-filled filled c.args.report.now.sets c.args.report.now.input c.args.report.now.input_in_sets)

pub revealed-requires-clause-few : goal.revealed-requires-clause-few
revealed-requires-clause-few c =
    let long = ap length c.as_slice.ensures in
    omega (arith, long, choice-length c.args.report.now.sets c.args.report.now.input c.args.report.now.input_in_sets, c.args.report.now.input_length)
