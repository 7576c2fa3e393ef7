use Rattle.std.proofs.Common.{◌≡◌, ◌≤◌, ◌+◌}
use Rattle.fault_io.specs.Reads.{after_reads, NoneFails}
use Rattle.fault_io.proofs.mem_folder.Reads.make.Given as goal

-- so many reads were made, and none of them failed
abbrev pub invariant-loop-more : goal.invariant-loop-more
invariant-loop-more l = record {
  kept : l.self.failing ≡ l.fn.self.failing;
  from : l.first ≡ l.fn.self.made;
  made : l.self.made ≡ after_reads l.first l.more;
  most : l.self.made ≤ l.fn.self.made + l.more;
  quiet : NoneFails l.fn.self.failing l.fn.self.made l.self.made;
}
