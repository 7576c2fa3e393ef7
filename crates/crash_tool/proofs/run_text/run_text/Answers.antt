use Rattle.std.proofs.Common.{◌≡◌, ◌∙◌, fold, []}
use Rattle.std.proofs.lemmas.Result.{IfOk-weaker}
use Rattle.std.specs.FinSet as set
use Rattle.watchers.specs.Counters.{covered_after, last_after, counters, all_covered, last_sixteen}
use Rattle.crash_tool.proofs.WatchLemmas.{told}
use Rattle.crash_tool.proofs.run_text.run_text.Goals as goal

pub returns : goal.returns
returns c t is_end is_steps is =
    let both : (fold covered_after set.empty t.events, fold last_after [] t.events) ≡ (all_covered t.events, last_sixteen (counters t.events)) =
    (λ i. (c.states_after_a_run.ensures.covered t.events i, c.states_after_a_run.ensures.last t.events i)) in
    IfOk-weaker c.seen_text.result _ _
    (λ text same. same ∙ told t c.args.run.end c.args.run.steps _ is_end is_steps (is ∙ c.pairs_follow_both.ensures set.empty [] t.events ∙ both)) c.seen_text.ensures
