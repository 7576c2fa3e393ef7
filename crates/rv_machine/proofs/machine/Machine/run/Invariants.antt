use Rattle.std.proofs.Common.{◌≡◌, ◌+◌, ◌-◌, ◌≤◌, length, false}
use Rattle.rv_machine.specs.Trace.{trace_from, state_after}
use Rattle.rv_machine.proofs.machine.Machine.run.Given as goal

abbrev pub invariant-loop-i : goal.invariant-loop-i
invariant-loop-i l = record {
  on : l.self.over ≡ false;
  place : l.self.state.place ≤ length l.input;
  steps : length (trace_from l.fn.limit l.input l.fn.self.state).events ≡ l.i + length (trace_from (l.fn.limit - l.i) l.input l.self.state).events;
  end : (trace_from l.fn.limit l.input l.fn.self.state).end ≡ (trace_from (l.fn.limit - l.i) l.input l.self.state).end;
  state : state_after l.fn.limit l.input l.fn.self.state ≡ state_after (l.fn.limit - l.i) l.input l.self.state;
}
