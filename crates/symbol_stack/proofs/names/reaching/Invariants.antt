use Rattle.std.proofs.Common.{◌≤◌}
use Rattle.std.specs.List.{AllWithin}
use Rattle.symbol_stack.proofs.names.reaching.Given as goal

abbrev pub invariant-loop-reached : goal.invariant-loop-reached
invariant-loop-reached l = record {
  fewer : l.reached ≤ l.count;
  passed : AllWithin (λ r. r.end ≤ l.address) l.rows l.reached l.count;
}

abbrev pub decreases-loop-reached : goal.decreases-loop-reached
decreases-loop-reached l = l.reached
