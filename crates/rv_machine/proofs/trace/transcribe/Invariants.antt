use Rattle.std.proofs.Common.{◌≡◌, ◌-◌, ◌≤◌, length, false}
use Rattle.rv_machine.specs.Trace.{trace_from}
use Rattle.rv_machine.proofs.Traces.{behind}
use Rattle.rv_machine.proofs.trace.transcribe.Given as goal

abbrev pub invariant-loop-i : goal.invariant-loop-i
invariant-loop-i l = record {
  on : l.machine.over ≡ false;
  place : l.machine.state.place ≤ length l.input;
  few : length l.events ≤ l._i;
  so_far : trace_from l.limit l.input l.fn.machine.state ≡ behind l.events (trace_from (l.limit - l._i) l.input l.machine.state);
}
