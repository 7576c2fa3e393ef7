use Rattle.std.proofs.Common.{◌≡◌, true, false}
use Rattle.std.specs.Ordering.{nat_cmp}
use Rattle.std.specs.BTreeMap.{ContainsKey}
use Rattle.reached_terms.proofs.ReachedLemmas.{reached_with_none}
use Rattle.reached_terms.proofs.reached.Goals as goal

pub returns : goal.returns
returns c = reached_with_none c.args.arena.now (ContainsKey nat_cmp c.new-none.result) c.args.conditions.now c.in_ok-terms.terms.items (λ t h. let e : false ≡ true = rw c.new-none.ensures.empty at h in cc) c.in_ok-terms.ensures
