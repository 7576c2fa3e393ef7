use Rattle.std.proofs.Common.{take}
use Rattle.byte_groups.specs.Gathered.{lists_of}
use Rattle.byte_groups.specs.Dealt.{number_of, AreDealt}
use Rattle.byte_groups.proofs.dealt.deal.Given as goal

abbrev pub invariant-loop-t : goal.invariant-loop-t
invariant-loop-t l = AreDealt (number_of l.labels l.numbers l.leaves) l.count (take l.t-index l.conditions) (lists_of l.lists.items)
