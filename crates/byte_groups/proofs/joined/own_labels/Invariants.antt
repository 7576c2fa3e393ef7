use Rattle.std.proofs.Common.{◌≡◌, ℕ, ◌<◌, length}
use Rattle.std.specs.Prelude.{slice_index}
use Rattle.byte_groups.proofs.joined.own_labels.Given as goal

abbrev pub invariant-loop-place : goal.invariant-loop-place
invariant-loop-place l = record {
  long : length l.labels.items ≡ l.place;
  own : (k : ℕ) → k < l.place → slice_index l.labels.items k ≡ k;
}
