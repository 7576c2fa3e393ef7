use Rattle.std.proofs.lemmas.Result.{IfOk-weaker}
use Rattle.report_maker.specs.Made.{made_value}
use Rattle.crash_tool.proofs.DemoLemmas.{summary-parts}
use Rattle.crash_tool.proofs.demo.summary.Goals as goal

pub returns : goal.returns
returns c = IfOk-weaker c.behind.result _ _
    (λ text is. summary-parts c.args.kind c.args.size (made_value c.args.made.now) _ _ _ _ is c.in_ok-case.ensures c.in_ok-cost.ensures c.in_ok-revealed.ensures) c.behind.ensures
