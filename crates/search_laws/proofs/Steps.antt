-- Ends of the search, and readings of a closure.
use Rattle.std.proofs.Common.{◌≡◌, Bool, true, false, List, length, ap, inl, inr, arith}
use Rattle.search_model.specs.Literals.{Literals, AreLiterals}
use Rattle.search_model.specs.Closure.{IsInClosure}
use Rattle.search_model.specs.Search.{State}
use Rattle.search_model.specs.Turns.{Turn, EndsUnsatisfiable}

module _ {L : Type 0} (lits : Literals L) (laws : AreLiterals lits) where
  module _ (clauses : List (List L)) (order : List L) where
    pub unsat_is_end : (s t : State L) → EndsUnsatisfiable lits clauses order s → Turn lits clauses order s t → ⊥
    unsat_is_end s t e (inl h) = h.calm e.conflict
    unsat_is_end s t e (inr h) = let none : length s.decisions ≡ 0 = ap length e.none in absurd (omega (arith, h.some))

  -- the set has the closure's literals, and not their negations
  pub record IsRead (clauses : List (List L)) (decisions : List L) (set : L → Bool) : Type 0 where
    pub has : (l : L) → IsInClosure lits clauses decisions l → set l ≡ true
    pub lacks : (l : L) → IsInClosure lits clauses decisions (lits.negation l) → set l ≡ false
