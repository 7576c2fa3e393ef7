use Rattle.byte_groups.specs.Gathered.{AreGathered, lists_of}
use Rattle.byte_groups.proofs.gathered.gather.Given as goal

abbrev pub invariant-loop-place : goal.invariant-loop-place
invariant-loop-place l = AreGathered l.labels l.marks l.numbers (lists_of l.lists.items) l.place
