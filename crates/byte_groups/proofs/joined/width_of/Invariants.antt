use Rattle.std.proofs.Common.{ℕ, ◌<◌, ◌≤◌, ◌^◌, get_or}
use Rattle.reached_terms.specs.Reached.{OperandsPass}
use Rattle.byte_groups.specs.Joined.{ReadsUpTo}
use Rattle.byte_groups.proofs.joined.width_of.Given as goal

abbrev pub invariant-loop-t : goal.invariant-loop-t
invariant-loop-t l = record {
  above : (j d : ℕ) → j < l.t-index → (n : ℕ) → l.width ≤ n → OperandsPass l.arena (ReadsUpTo l.arena n) (get_or l.terms j d) → ReadsUpTo l.arena n (get_or l.terms j d);
  small : l.width ≤ 2 ^ 32;
}
