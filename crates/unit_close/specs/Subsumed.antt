-- Learned clauses that others stand for.
use Rattle.std.specs.Prelude.{ℕ, ◌≤◌, List, Contains, length, drop}
use Rattle.gate_net.specs.declared.literals.Lit.{Lit}

-- the part has a literal, and the clause has each of the part's
pub record Subsumes (part clause : List Lit) : Type 0 where
  pub some : (l : Lit) × Contains part l
  pub each : (l : Lit) → Contains part l → Contains clause l

-- one of the clauses is a part of the clause
abbrev pub AreSubsuming : List (List Lit) → List Lit → Type 0
AreSubsuming clauses clause = (part : List Lit) × Contains clauses part × Subsumes part clause

-- The clauses after the first ones are learned, and each learned one that has a literal has a part among the clauses.
pub record StandFor (given : ℕ) (clauses learned : List (List Lit)) : Type 0 where
  pub within : given ≤ length clauses
  pub are_learned : (c : List Lit) → Contains (drop given clauses) c → Contains learned c
  pub subsumed : (c : List Lit) (l : Lit) → Contains learned c → Contains c l → AreSubsuming clauses c
