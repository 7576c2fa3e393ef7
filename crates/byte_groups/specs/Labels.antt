-- Places joined into groups: each place points to itself or to a lower place of its group.
use Rattle.std.specs.Prelude.{◌≡◌, ℕ, ◌<◌, ◌≤◌, List, Bool, length, slice_index}

-- each place points to itself or below
abbrev pub AreParents : List ℕ → Type 0
AreParents parents = (k : ℕ) → k < length parents → slice_index parents k ≤ k

-- the test gives one answer on each place and on that to which it points
abbrev pub IsSteadyAlong : (ℕ → Bool) → List ℕ → Type 0
IsSteadyAlong side parents = (k : ℕ) → k < length parents → side k ≡ side (slice_index parents k)

-- the same places are joined: a test is steady along the one list where it is along the other
pub record JoinTheSame (old new : List ℕ) : Type 0 where
  pub parents : AreParents new
  pub later : (side : ℕ → Bool) → IsSteadyAlong side old → IsSteadyAlong side new
  pub before : (side : ℕ → Bool) → IsSteadyAlong side new → IsSteadyAlong side old
