use Rattle.std.proofs.Common.{◌≡◌, ◌≤◌, ◌+◌, ◌-◌, vec_len}
use Rattle.std.specs.Io.KnownBytes.{Consumes}
use Rattle.fault_io.proofs.source.read_up_to.Given as goal

-- the bytes so far are those that the reader has given, at most one more than the limit, and each read gave one at least
abbrev pub invariant-loop-buffer : goal.invariant-loop-buffer
invariant-loop-buffer g l = record {
  within : vec_len l.bytes ≤ l.limit + 1;
  given : Consumes l.fn.source.left l.source.left l.bytes.items;
  reads : l.source.reads ≤ l.fn.source.reads + vec_len l.bytes;
  quiet : l.source.faults ≡ l.fn.source.faults;
}

abbrev pub decreases-loop-buffer : goal.decreases-loop-buffer
decreases-loop-buffer g l = l.limit + 1 - vec_len l.bytes
