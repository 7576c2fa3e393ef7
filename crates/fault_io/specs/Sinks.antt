-- A sink in memory, and one over a stream.
use Rattle.std.specs.Prelude.{ℕ, ◌-◌, ◌≤◌, List, take, length, Option}
use Rattle.std.specs.Io.KnownBytes.{Appends}

-- the bytes taken so far, for how many the sink was made, and the pieces that failed
pub record SinkState : Type 0 where
  pub bytes : List ℕ
  pub room : ℕ
  pub faults : ℕ

-- how many bytes more there is room for
abbrev pub left : SinkState → ℕ
left sink = sink.room - length sink.bytes

-- the pieces that failed, and the bytes of the stream, where it tells them
pub record StreamState : Type 0 where
  pub faults : ℕ
  pub written : Option (List ℕ)

-- a stream took some first part of these bytes, where it tells what it has
abbrev pub AppendsPrefix : Option (List ℕ) → Option (List ℕ) → List ℕ → Type 0
AppendsPrefix old new bytes = (k : ℕ) × (k ≤ length bytes) × Appends old new (take k bytes)
