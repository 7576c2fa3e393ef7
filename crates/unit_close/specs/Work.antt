-- What holds while clauses are visited.
use Rattle.std.specs.Prelude.{◌≡◌, ℕ, ◌<◌, ◌≤◌, Bool, true, List, Contains, length, slice_index, take}
use Rattle.gate_net.specs.declared.literals.Lit.{Lit}
use Rattle.gate_net.specs.Lits.{negation}
use Rattle.search_model.specs.Literals.{named}
use Rattle.search_model.specs.Closure.{IsClosedUnder}
use Rattle.unit_close.specs.Literals.{lit_at}
use Rattle.unit_close.specs.Path.{Path}
use Rattle.unit_close.specs.Watching.{Watching, IsWatching, partner}

-- a node whose literal was made false by the front has its partner's literal among the whole
abbrev pub IsSettledAt : List Lit → List Lit → List Lit → ℕ → Type 0
IsSettledAt watched front whole n = Contains front (negation (lit_at watched n)) → Contains whole (lit_at watched (partner n))

-- each node is settled
abbrev pub IsSettled : List Lit → List Lit → List Lit → Type 0
IsSettled watched front whole = (n : ℕ) → n < length watched → IsSettledAt watched front whole n

-- each node is settled that isn't loose
abbrev pub IsSettledBut : List Lit → List ℕ → List Lit → List Lit → Type 0
IsSettledBut watched loose front whole = (n : ℕ) → n < length watched → (Contains loose n → ⊥) → IsSettledAt watched front whole n

-- the set is closed under each clause
abbrev pub IsClosedUnderAll : List (List Lit) → (Lit → Bool) → Type 0
IsClosedUnderAll clauses set = (c : List Lit) → Contains clauses c → IsClosedUnder named set c

-- the set has each decision
abbrev pub HasDecisions : List Lit → List ℕ → (Lit → Bool) → Type 0
HasDecisions literals marks set = (i : ℕ) → i < length marks → set (lit_at literals (slice_index marks i)) ≡ true

-- each literal is in each closed set that has the decisions up to it
abbrev pub AreForced : List (List Lit) → List Lit → List ℕ → Type 0
AreForced clauses literals marks =
    (p : ℕ) → p < length literals → (set : Lit → Bool) → IsClosedUnderAll clauses set →
    ((i : ℕ) → i < length marks → slice_index marks i ≤ p → set (lit_at literals (slice_index marks i)) ≡ true) →
    set (lit_at literals p) ≡ true

-- some literal is in each closed set that has the decisions, with its negation
abbrev pub IsRefuted : List (List Lit) → List Lit → List ℕ → Type 0
IsRefuted clauses literals marks =
    (l : Lit) × ((set : Lit → Bool) → IsClosedUnderAll clauses set → HasDecisions literals marks set → (set l ≡ true) × (set (negation l) ≡ true))

-- the literals before each decision are settled, and each literal is forced
pub record IsWorking (w : Watching) (path : Path) : Type 0 where
  pub watching : IsWatching w
  pub names : w.names ≡ length path.values
  pub lower : (i : ℕ) → i < length path.marks →
      IsSettled w.watched (take (slice_index path.marks i) path.literals) (take (slice_index path.marks i) path.literals)
  pub forced : AreForced w.clauses path.literals path.marks

-- the later path has more literals and the same decisions
pub record IsExtended (old new : Path) : Type 0 where
  pub names : length new.values ≡ length old.values
  pub marks : new.marks ≡ old.marks
  pub longer : length old.literals ≤ length new.literals
  pub before : take (length old.literals) new.literals ≡ old.literals

-- the same clauses, with other nodes
pub record HasSameClauses (old new : Watching) : Type 0 where
  pub names : new.names ≡ old.names
  pub clauses : new.clauses ≡ old.clauses
  pub units : new.units ≡ old.units
