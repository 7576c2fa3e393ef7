use Rattle.std.proofs.Common.{◌+◌, ◌-◌, length, sym, ap, ◌∙◌, arith}
use Rattle.rv_machine.proofs.Traces.{trace_more, trace_end, trace_zero, state_more, state_end, state_zero}
use Rattle.rv_machine.proofs.machine.Machine.run.Goals as goal

pub returns-in-Some : goal.returns-in-Some
returns-in-Some c =
    let f = rw c.in-Some.is at c.step-stepped.ensures.next in
    let o = rw c.in-Some.is at c.step-stepped.ensures.over in
    let t = trace_end (c.args.limit - c.loop-i.i) (c.args.limit - (c.loop-i.i + 1)) c.args.input.now c.loop-i.self _ c.in-Some.end (omega arith) f in
    let n = ap (λ r. length r.events) t in
    record {
      steps = omega (arith, n, c.loop-i.invariant.steps);
      end = sym (c.loop-i.invariant.end ∙ ap (λ r. r.end) t);
      over = o.0 ∙ sym o.1;
      state = sym (c.loop-i.invariant.state ∙ state_end (c.args.limit - c.loop-i.i) (c.args.limit - (c.loop-i.i + 1)) c.args.input.now c.loop-i.self _ c.in-Some.end (omega arith) f);
      place = c.step-stepped.ensures.place;
    }

pub loop-i-preserved : goal.loop-i-preserved
loop-i-preserved c =
    let f = rw c.in-None.is at c.step-stepped.ensures.next in
    let o = rw c.in-None.is at c.step-stepped.ensures.over in
    let t = trace_more (c.args.limit - c.loop-i.i) (c.args.limit - (c.loop-i.i + 1)) c.args.input.now c.loop-i.self c.step-stepped.new.self (omega arith) f in
    let n = ap (λ r. length r.events) t in
    record {
      on = o;
      place = c.step-stepped.ensures.place;
      steps = omega (arith, n, c.loop-i.invariant.steps);
      end = c.loop-i.invariant.end ∙ ap (λ r. r.end) t;
      state = c.loop-i.invariant.state ∙ state_more (c.args.limit - c.loop-i.i) (c.args.limit - (c.loop-i.i + 1)) c.args.input.now c.loop-i.self c.step-stepped.new.self (omega arith) f;
    }

pub returns : goal.returns
returns c =
    let z = trace_zero (c.args.limit - c.loop-i.i) c.args.input.now c.loop-i.self.state (omega arith) in
    let n = ap (λ r. length r.events) z in
    record {
      steps = omega (arith, n, c.loop-i.invariant.steps);
      end = sym (c.loop-i.invariant.end ∙ ap (λ r. r.end) z);
      over = c.loop-i.invariant.on;
      state = sym (c.loop-i.invariant.state ∙ state_zero (c.args.limit - c.loop-i.i) c.args.input.now c.loop-i.self.state (omega arith));
      place = c.loop-i.invariant.place;
    }
