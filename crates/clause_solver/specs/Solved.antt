-- What the search answers, and where it stands.
use Rattle.std.specs.Prelude.{◌≡◌, ◌↔◌, ℕ, Bool, true, false, List, Contains, take, drop}
use Rattle.gate_net.specs.declared.literals.Lit.{Lit}
use Rattle.unit_close.specs.Closing.{Closing}
use Rattle.search_model.specs.Literals.{named}
use Rattle.search_model.specs.Search.{State, trimmed, after, conflict_count, ends_in_conflict, values_found}
use Rattle.search_model.specs.Model.{IsModel, IsFirstModel}
use Rattle.clause_solver.specs.declared.found.Found.{Found}
use Rattle.clause_solver.specs.declared.found.Found.TheVariants as found

-- where the search stands with these decisions
abbrev pub state_of : Closing → List Lit → State Lit
state_of closer decisions = record { decisions = decisions; learned = closer.learned }

-- the search comes to the state
abbrev pub IsReached : List (List Lit) → List Lit → State Lit → Type 0
IsReached clauses order s = (n : ℕ) × (after named clauses order n ≡ s)

-- the closer has the same names and the same formula
pub record SameFormula (old new : Closing) : Type 0 where
  pub names : new.names ≡ old.names
  pub formula : new.formula ≡ old.formula

-- and the same learned clauses
pub record SameClauses (old new : Closing) : Type 0 where
  pub names : new.names ≡ old.names
  pub formula : new.formula ≡ old.formula
  pub learned : new.learned ≡ old.learned

-- how the search ends, and what this tells of the models
abbrev pub IsFound : List (List Lit) → List Lit → Found → Type 0
IsFound clauses order (found.Model values conflicts) =
    (ends_in_conflict named clauses order ≡ false) × (values ≡ values_found named clauses order)
    × (conflicts ≡ conflict_count named clauses order) × IsFirstModel named clauses order values
IsFound clauses order found.Unsatisfiable =
    (ends_in_conflict named clauses order ≡ true) × ((set : Lit → Bool) → IsModel named clauses set → ⊥)

-- both lists have the same literals
abbrev pub HaveSame : List Lit → List Lit → Type 0
HaveSame xs ys = (l : Lit) → Contains xs l ↔ Contains ys l

-- from those left before decision `start`, and what stood before the last of them, trimming comes to these at `end`
abbrev pub Trims : (List Lit → Bool) → List Lit → ℕ → ℕ → List Lit → ℕ → List Lit → ℕ → Type 0
Trims test decisions start end left before left' before' =
    trimmed test (record { left = left; before = take before decisions }) (take start decisions) (drop start decisions)
    ≡ trimmed test (record { left = left'; before = take before' decisions }) (take end decisions) (drop end decisions)
