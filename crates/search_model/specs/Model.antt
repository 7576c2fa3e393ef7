-- Models of clauses.
use Rattle.std.specs.Prelude.{◌≡◌, ◌<◌, ◌⊎◌, Bool, true, false, not, List, [], ◌∷◌, All, Contains, length, map, if◌then◌else◌}
use Rattle.search_model.specs.Literals.{Literals}
use Rattle.search_model.specs.Closure.{IsSettled}

-- no clause is empty
abbrev pub AreFilled : {L : Type 0} → List (List L) → Type 0
AreFilled clauses = All (λ c. 0 < length c) clauses

-- the set has a literal of the clause
abbrev pub Satisfies : {L : Type 0} → (L → Bool) → List L → Type 0
Satisfies {L} set clause = (l : L) × Contains clause l × (set l ≡ true)

-- They agree on the order, or the first literal where they differ is in `found` with the order's sign.
abbrev pub IsNotAfter : {L : Type 0} → List L → (L → Bool) → (L → Bool) → Type 0
IsNotAfter [] found other = Unit {0}
IsNotAfter (o ∷ os) found other =
    ((found o ≡ true) × (other o ≡ false)) ⊎ ((found o ≡ other o) × IsNotAfter os found other)

module _ {L : Type 0} (lits : Literals L) where
  -- the set has of each literal and its negation one
  abbrev pub IsTotal : (L → Bool) → Type 0
  IsTotal set = (l : L) → set (lits.negation l) ≡ not (set l)

  -- each literal or its negation, never both, and a literal of each clause
  pub record IsModel (clauses : List (List L)) (set : L → Bool) : Type 0 where
    pub one : IsTotal set
    pub each : (c : List L) → Contains clauses c → Satisfies set c

  -- the order's literals, each or its negation as the set has them
  abbrev pub signed : (L → Bool) → List L → List L
  signed set order = map (λ l. if set l then l else lits.negation l) order

  -- Whichever of each literal of the order and its negation are decided, the closure has each literal of the clauses
  -- or its negation.
  abbrev pub Settles : List (List L) → List L → Type 0
  Settles clauses order =
      (set : L → Bool) → IsTotal set → (c : List L) (l : L) → Contains clauses c → Contains c l → IsSettled lits clauses (signed set order) l

  -- values of the order's literals in a model from which every other model differs first, if at all, against the order's sign
  pub record IsFirstModel (clauses : List (List L)) (order : List L) (values : List Bool) : Type 0 where
    pub set : L → Bool
    pub model : IsModel clauses set
    pub reads : values ≡ map set order
    pub first : (other : L → Bool) → IsModel clauses other → IsNotAfter order set other
