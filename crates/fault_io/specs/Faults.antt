-- Counts of faults, which stop at 2^64 - 1, and what a sink has taken.
use Rattle.std.specs.Prelude.{◌≡◌, ℕ, ◌+◌, ◌-◌, ◌^◌, ◌<◌, ◌≤◌, min, List, ◌++◌, take, length, Option}
use Rattle.std.specs.Option.{option_map}

-- the count after one more fault
abbrev pub raised : ℕ → ℕ
raised old = min (old + 1) (2 ^ 64 - 1)

-- the count rose, or stands at its last value
abbrev pub Rose : ℕ → ℕ → Type 0
Rose old new = raised old ≤ new

-- the count is the same, and is below its last value
pub record NoFault (old new : ℕ) : Type 0 where
  pub same : new ≡ old
  pub below : old < 2 ^ 64 - 1

-- what a sink holds, if it tells, once it took these bytes too
abbrev pub after_taking : Option (List ℕ) → List ℕ → Option (List ℕ)
after_taking held bytes = option_map (λ xs. xs ++ bytes) held

-- a sink took some first part of these bytes
abbrev pub TookPrefix : Option (List ℕ) → Option (List ℕ) → List ℕ → Type 0
TookPrefix old new bytes = (k : ℕ) × (k ≤ length bytes) × (new ≡ after_taking old (take k bytes))
