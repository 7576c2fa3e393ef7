use Rattle.std.proofs.Common.{◌≡◌, ◌∙◌, ◌+◌, ◌-◌, suc, length, sym, ap, arith}
use Rattle.rv_machine.proofs.Traces.{trace_more, trace_end, trace_zero, state_more, state_end, state_zero}
use Rattle.watched_run.proofs.WatchLemmas.{fold_more, fold_end, fold_zero}
use Rattle.watched_run.proofs.watch_run.Goals as goal

pub loop-i-preserved : goal.loop-i-preserved
loop-i-preserved g c =
    let f = rw c.in-None.is at c.step-stepped.ensures.next in
    let o = rw c.in-None.is at c.step-stepped.ensures.over in
    let one : c.args.limit - c.loop-i.i ≡ suc (c.args.limit - (c.loop-i.i + 1)) = omega arith in
    let t = trace_more (c.args.limit - c.loop-i.i) (c.args.limit - (c.loop-i.i + 1)) c.args.input.now c.loop-i.machine c.step-stepped.new.self one f in
    let n = ap (λ r. length r.events) t in
    record {
      on = o;
      place = c.step-stepped.ensures.place;
      watch = fold_more g.S.Watched.after _ _ _ _ _ c.args.input.now c.loop-i.machine c.step-stepped.new.self c.step-stepped.result.event c.loop-i.invariant.watch one c.step-stepped.ensures.event c.in_ok-advance.ensures f;
      steps = omega (arith, n, c.loop-i.invariant.steps);
      end = c.loop-i.invariant.end ∙ ap (λ r. r.end) t;
      state = c.loop-i.invariant.state ∙ state_more (c.args.limit - c.loop-i.i) (c.args.limit - (c.loop-i.i + 1)) c.args.input.now c.loop-i.machine c.step-stepped.new.self one f;
    }

pub returns-in-Some : goal.returns-in-Some
returns-in-Some g c =
    let f = rw c.in-Some.is at c.step-stepped.ensures.next in
    let o = rw c.in-Some.is at c.step-stepped.ensures.over in
    let one : c.args.limit - c.loop-i.i ≡ suc (c.args.limit - (c.loop-i.i + 1)) = omega arith in
    let t = trace_end (c.args.limit - c.loop-i.i) (c.args.limit - (c.loop-i.i + 1)) c.args.input.now c.loop-i.machine c.step-stepped.new.self c.in-Some.end one f in
    let n = ap (λ r. length r.events) t in
    record {
      watch = fold_end g.S.Watched.after _ _ _ _ _ c.args.input.now c.loop-i.machine c.step-stepped.new.self c.step-stepped.result.event c.loop-i.invariant.watch c.in-Some.end one c.step-stepped.ensures.event c.in_ok-advance.ensures f;
      steps = omega (arith, n, c.loop-i.invariant.steps);
      end = sym (c.loop-i.invariant.end ∙ ap (λ r. r.end) t);
      over = o.0 ∙ sym o.1;
      state = sym (c.loop-i.invariant.state ∙ state_end (c.args.limit - c.loop-i.i) (c.args.limit - (c.loop-i.i + 1)) c.args.input.now c.loop-i.machine c.step-stepped.new.self c.in-Some.end one f);
      place = c.step-stepped.ensures.place;
    }

pub returns : goal.returns
returns g c =
    let none : c.args.limit - c.loop-i.i ≡ 0 = omega arith in
    let z = trace_zero (c.args.limit - c.loop-i.i) c.args.input.now c.loop-i.machine.state none in
    let n = ap (λ r. length r.events) z in
    record {
      watch = fold_zero g.S.Watched.after _ _ _ c.args.input.now c.loop-i.machine.state c.loop-i.invariant.watch none;
      steps = omega (arith, n, c.loop-i.invariant.steps);
      end = sym (c.loop-i.invariant.end ∙ ap (λ r. r.end) z);
      over = c.loop-i.invariant.on;
      state = sym (c.loop-i.invariant.state ∙ state_zero (c.args.limit - c.loop-i.i) c.args.input.now c.loop-i.machine.state none);
      place = c.loop-i.invariant.place;
    }
