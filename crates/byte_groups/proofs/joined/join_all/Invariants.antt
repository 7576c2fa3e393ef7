use Rattle.std.proofs.Common.{length}
use Rattle.byte_groups.proofs.LeafLemmas.{AreJoining}
use Rattle.byte_groups.proofs.joined.join_all.Given as goal

abbrev pub invariant-loop-t : goal.invariant-loop-t
invariant-loop-t l = AreJoining l.arena l.terms (length l.initial.labels) l.t-index l.labels
