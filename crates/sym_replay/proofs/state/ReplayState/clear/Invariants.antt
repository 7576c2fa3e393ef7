use Rattle.std.proofs.Common.{◌≡◌, ℕ}
use Rattle.std.specs.Ordering.{nat_cmp}
use Rattle.std.specs.BTreeMap.{get, btree_map_len}
use Rattle.sym_replay.proofs.HeapLemmas.{cleared}
use Rattle.sym_replay.proofs.state.ReplayState.clear.Given as goal

-- what was taken away so far lies in the range, and nothing else has changed
abbrev pub invariant-loop-address : goal.invariant-loop-address
invariant-loop-address l =
    ((q : ℕ) → cleared l.from l.to q (get nat_cmp l.self.bytes q) ≡ cleared l.from l.to q (get nat_cmp l.fn.self.bytes q))
    × (l.self ≡ record l.fn.self { bytes = l.self.bytes })

abbrev pub decreases-loop-address : goal.decreases-loop-address
decreases-loop-address l = btree_map_len l.self.bytes
