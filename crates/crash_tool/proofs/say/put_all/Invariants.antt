use Rattle.std.proofs.Common.{◌≡◌, ◌≤◌, ◌-◌, take, length}
use Rattle.fault_io.specs.Faults.{after_taking}
use Rattle.crash_tool.proofs.say.put_all.Given as goal

abbrev pub invariant-loop-done : goal.invariant-loop-done
invariant-loop-done g l = record {
  within : l.done ≤ length l.bytes;
  taken : g.S.Sink.holds l.sink ≡ after_taking (g.S.Sink.holds l.fn.sink) (take l.done l.bytes);
  counts : g.S.Sink.faults l.fn.sink ≤ g.S.Sink.faults l.sink;
}

abbrev pub decreases-loop-done : goal.decreases-loop-done
decreases-loop-done g l = length l.bytes - l.done
