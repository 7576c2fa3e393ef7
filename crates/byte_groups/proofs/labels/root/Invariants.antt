use Rattle.std.proofs.Common.{◌≡◌, ◌≤◌, ℕ, Bool}
use Rattle.std.specs.Prelude.{slice_index}
use Rattle.byte_groups.specs.Labels.{IsSteadyAlong, JoinTheSame}
use Rattle.byte_groups.proofs.labels.root.Given as goal

abbrev pub invariant-loop-at : goal.invariant-loop-at
invariant-loop-at l = record {
  below : l.at ≤ l.place;
  same : JoinTheSame l.initial.parents l.parents;
  joined : (side : ℕ → Bool) → IsSteadyAlong side l.initial.parents → side l.place ≡ side l.at;
  roots : (k : ℕ) → slice_index l.initial.parents k ≡ k → slice_index l.parents k ≡ k;
}

abbrev pub decreases-loop-at : goal.decreases-loop-at
decreases-loop-at l = l.at
