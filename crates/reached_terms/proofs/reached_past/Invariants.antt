use Rattle.std.specs.Ordering.{nat_cmp}
use Rattle.std.specs.BTreeMap.{ContainsKey}
use Rattle.reached_terms.proofs.KeyLemmas.{bound}
use Rattle.reached_terms.proofs.ReachedLemmas.{IsReaching}
use Rattle.reached_terms.proofs.reached_past.Given as goal

abbrev pub invariant-loop-t : goal.invariant-loop-t
invariant-loop-t g l = IsReaching l.arena (ContainsKey nat_cmp l.known) l.conditions l.pending.keys l.terms.items

abbrev pub decreases-loop-t : goal.decreases-loop-t
decreases-loop-t g l = bound l.pending.keys
