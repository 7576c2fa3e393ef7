use Rattle.std.proofs.Common.{◌+◌, ◌-◌, [], ◌∷◌, length, length-append, sym, ap, ◌∙◌, arith, append-nil}
use Rattle.rv_machine.specs.Trace.{trace_from}
use Rattle.rv_machine.proofs.Traces.{behind, behind_more, behind_end, trace_zero}
use Rattle.rv_machine.proofs.trace.transcribe.Goals as goal

pub loop-i-preserved : goal.loop-i-preserved
loop-i-preserved c =
    let f = rw c.in-None.is at c.step-stepped.ensures.next in
    let o = rw c.in-None.is at c.step-stepped.ensures.over in
    let t = behind_more c.loop-i.events (c.args.limit - c.loop-i._i) (c.args.limit - (c.loop-i._i + 1)) c.args.input.now c.loop-i.machine _ _ _ c.loop-i.invariant.so_far (omega arith) c.step-stepped.ensures.event f in
    record {
      on = o;
      place = c.step-stepped.ensures.place;
      few = omega (arith, ap length c.in_ok-push.ensures.added, length-append c.loop-i.events (c.step-stepped.result.event ∷ []), c.loop-i.invariant.few);
      so_far = t ∙ ap (λ x. behind x (trace_from (c.args.limit - (c.loop-i._i + 1)) c.args.input.now c.step-stepped.new.self.state)) (sym c.in_ok-push.ensures.added);
    }

pub returns-in-Some-clause-events : goal.returns-in-Some-clause-events
returns-in-Some-clause-events c =
    let f = rw c.in-Some.is at c.step-stepped.ensures.next in
    let t = behind_end c.loop-i.events (c.args.limit - c.loop-i._i) (c.args.limit - (c.loop-i._i + 1)) c.args.input.now c.loop-i.machine _ _ c.in-Some.end _ c.loop-i.invariant.so_far (omega arith) c.step-stepped.ensures.event f in
    c.in_ok-push.ensures.added ∙ sym (ap (λ r. r.events) t)

pub returns-in-Some-clause-end : goal.returns-in-Some-clause-end
returns-in-Some-clause-end c =
    let f = rw c.in-Some.is at c.step-stepped.ensures.next in
    let t = behind_end c.loop-i.events (c.args.limit - c.loop-i._i) (c.args.limit - (c.loop-i._i + 1)) c.args.input.now c.loop-i.machine _ _ c.in-Some.end _ c.loop-i.invariant.so_far (omega arith) c.step-stepped.ensures.event f in
    sym (ap (λ r. r.end) t)

pub returns-clause-events : goal.returns-clause-events
returns-clause-events c =
    let z = trace_zero (c.args.limit - c.loop-i._i) c.args.input.now c.loop-i.machine.state (omega arith) in
    let t = c.loop-i.invariant.so_far ∙ ap (behind c.loop-i.events) z in
    sym (ap (λ r. r.events) t ∙ append-nil c.loop-i.events)

pub returns-clause-end : goal.returns-clause-end
returns-clause-end c =
    let z = trace_zero (c.args.limit - c.loop-i._i) c.args.input.now c.loop-i.machine.state (omega arith) in
    let t = c.loop-i.invariant.so_far ∙ ap (behind c.loop-i.events) z in
    sym (ap (λ r. r.end) t)
