use Rattle.byte_groups.proofs.LeafLemmas.{AreLeaves}
use Rattle.byte_groups.proofs.joined.leaves_of.Given as goal

abbrev pub invariant-loop-done : goal.invariant-loop-done
invariant-loop-done l = AreLeaves l.arena l.terms l.leaves l.done
