use Rattle.std.proofs.Common.{◌≤◌, ◌∙◌, arith}
use Rattle.crash_tool.proofs.SinkLemmas.{after_taking-piece, took-piece}
use Rattle.crash_tool.proofs.say.put_all.Goals as goal

pub loop-done-preserved : goal.loop-done-preserved
loop-done-preserved g c =
    let fits : c.in_ok-count.count ≤ c.min.result = omega (arith, c.in_ok-count.ensures.within, c.split_at-in-loop-done.ensures.front_len) in
    record {
      within = omega (arith, c.in_ok-count.ensures.within, c.split_at.ensures.back_len, c.split_at-in-loop-done.ensures.front_len);
      taken =
          let told = rw (c.split_at-in-loop-done.ensures.front, c.split_at.ensures.back, c.loop-done.invariant.taken) at c.in_ok-count.ensures.taken in
          told ∙ after_taking-piece _ _ _ _ _ fits;
      counts = omega (arith, c.in_ok-count.ensures.counts, c.loop-done.invariant.counts);
    }

pub returns-in_err-count-clause-err : goal.returns-in_err-count-clause-err
returns-in_err-count-clause-err g c =
    let part = rw (c.split_at-in-loop-done.ensures.front, c.split_at.ensures.back, c.loop-done.invariant.taken) at c.in_err-count.ensures.part in
    took-piece _ _ _ _ _ c.loop-done.invariant.within part
