use Rattle.std.proofs.Common.{◌≡◌, ◌+◌, ◌-◌, ◌≤◌, length, fold, false}
use Rattle.rv_machine.specs.Trace.{trace_from, state_after}
use Rattle.watched_run.proofs.watch_run.Given as goal

-- what the whole run comes to is what the rest of it comes to, from here on
abbrev pub invariant-loop-i : goal.invariant-loop-i
invariant-loop-i g l = record {
  on : l.machine.over ≡ false;
  place : l.machine.state.place ≤ length l.input;
  watch : fold g.S.Watched.after l.fn.watch (trace_from l.fn.limit l.input l.fn.machine.state).events ≡ fold g.S.Watched.after l.watch (trace_from (l.fn.limit - l.i) l.input l.machine.state).events;
  steps : length (trace_from l.fn.limit l.input l.fn.machine.state).events ≡ l.i + length (trace_from (l.fn.limit - l.i) l.input l.machine.state).events;
  end : (trace_from l.fn.limit l.input l.fn.machine.state).end ≡ (trace_from (l.fn.limit - l.i) l.input l.machine.state).end;
  state : state_after l.fn.limit l.input l.fn.machine.state ≡ state_after (l.fn.limit - l.i) l.input l.machine.state;
}
