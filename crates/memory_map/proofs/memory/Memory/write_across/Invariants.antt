use Rattle.std.proofs.Common.{◌≡◌, ◌-◌, None, length, drop}
use Rattle.memory_map.specs.Cells.{first_without, write, placed}
use Rattle.memory_map.proofs.memory.Memory.write_across.Given as goal

abbrev pub invariant-loop-byte : goal.invariant-loop-byte
invariant-loop-byte l = record {
  room : first_without write l.self.map l.at (length l.bytes - l.byte-index) ≡ None;
  heap : l.self.heap ≡ l.fn.self.heap;
  rest : placed l.fn.self.map l.address l.bytes ≡ placed l.self.map l.at (drop l.byte-index l.bytes);
}
