-- The closure of clauses and decisions: the least set of literals that is closed.
use Rattle.std.specs.Prelude.{◌≡◌, ◌≢◌, ◌⊎◌, Bool, true, List, Contains}
use Rattle.search_model.specs.Literals.{Literals}

module _ {L : Type 0} (lits : Literals L) where
  -- the set has a clause's last literal whenever it has the negations of all others
  abbrev pub IsClosedUnder : (L → Bool) → List L → Type 0
  IsClosedUnder set clause =
      (l : L) → Contains clause l → ((m : L) → Contains clause m → m ≢ l → set (lits.negation m) ≡ true) → set l ≡ true

  -- a closed set: it has the decisions, and is closed under each clause
  pub record IsClosed (clauses : List (List L)) (decisions : List L) (set : L → Bool) : Type 0 where
    pub decided : (l : L) → Contains decisions l → set l ≡ true
    pub each : (c : List L) → Contains clauses c → IsClosedUnder set c

  -- the literal is in the closure: every closed set has it
  abbrev pub IsInClosure : List (List L) → List L → L → Type 0
  IsInClosure clauses decisions l = (set : L → Bool) → IsClosed clauses decisions set → set l ≡ true

  -- the closure has a literal and its negation
  abbrev pub IsConflict : List (List L) → List L → Type 0
  IsConflict clauses decisions =
      (l : L) × IsInClosure clauses decisions l × IsInClosure clauses decisions (lits.negation l)

  -- the closure has the literal or its negation
  abbrev pub IsSettled : List (List L) → List L → L → Type 0
  IsSettled clauses decisions l = IsInClosure clauses decisions l ⊎ IsInClosure clauses decisions (lits.negation l)
