use Rattle.std.proofs.Common.{◌≡◌, ◌≤◌, ◌*◌, ◌^◌, take}
use Rattle.std.specs.List.{sum_by}
use Rattle.test_programs.proofs.memory.memory_size.Given as goal

abbrev pub invariant-loop-region : goal.invariant-loop-region
invariant-loop-region l = record { sum : l.total ≡ sum_by (λ r. r.size) (take l.region-index l.regions); small : l.total ≤ l.region-index * 2 ^ 32 }
