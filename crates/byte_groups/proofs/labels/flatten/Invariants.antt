use Rattle.std.proofs.Common.{◌≡◌, ◌<◌, ℕ}
use Rattle.std.specs.Prelude.{slice_index}
use Rattle.byte_groups.specs.Labels.{JoinTheSame}
use Rattle.byte_groups.proofs.labels.flatten.Given as goal

abbrev pub invariant-loop-place : goal.invariant-loop-place
invariant-loop-place l = record {
  same : JoinTheSame l.initial.parents l.parents;
  flat : (k : ℕ) → k < l.place → slice_index l.parents (slice_index l.parents k) ≡ slice_index l.parents k;
}
