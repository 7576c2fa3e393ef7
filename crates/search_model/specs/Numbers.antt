-- The numbers of the conflicts that a search counts.
use Rattle.std.specs.Prelude.{◌≡◌, ◌⊎◌, ℕ, ◌+◌, ◌^◌, List, [], ◌∷◌, ◌++◌, length, Contains}
use Rattle.search_model.specs.Literals.{Literals}
use Rattle.search_model.specs.Closure.{IsInClosure, IsConflict}
use Rattle.search_model.specs.Search.{State}
use Rattle.search_model.specs.Turns.{IsFirstOpen, Learns, Comes}

module _ {L : Type 0} (lits : Literals L) where
  -- One binary digit for each literal of the order, the first literal's digit highest: before d, 0 where the closure has
  -- the literal and 1 where it has the negation; 1 at d; 0 after it.
  abbrev pub IsNumber : List (List L) → List L → List L → L → ℕ → Type 0
  IsNumber clauses decisions [] d n = ⊥
  IsNumber clauses decisions (o ∷ os) d n =
      ((o ≡ d) × (n ≡ 2 ^ length os))
      ⊎ (IsInClosure lits clauses decisions o × IsNumber clauses decisions os d n)
      ⊎ (IsInClosure lits clauses decisions (lits.negation o) × ((m : ℕ) × (n ≡ 2 ^ length os + m) × IsNumber clauses decisions os d m))

  module _ (clauses : List (List L)) (order : List L) where
    -- In a state of the search with these decisions, no conflict, and no clause that isn't there now, d was the first
    -- open literal; n is its number in the closure of that state.
    pub record WasDecided (now : List (List L)) (decisions : List L) (d : L) (n : ℕ) : Type 0 where
      pub when : State L
      pub comes : Comes lits clauses order when
      pub at : when.decisions ≡ decisions
      pub grown : (c : List L) → Contains (clauses ++ when.learned) c → Contains now c
      pub calm : IsConflict lits (clauses ++ when.learned) when.decisions → ⊥
      pub first : IsFirstOpen lits (clauses ++ when.learned) when.decisions order d
      pub number : IsNumber (clauses ++ when.learned) when.decisions order d n

    -- The turn from s to t counts a conflict that leaves a decision. The last one left stood after the decisions that are
    -- kept, and has this number.
    pub record HasNumber (s t : State L) (n : ℕ) : Type 0 where
      pub learns : Learns lits clauses order s t
      pub others : List L
      pub last : L
      pub left : learns.left ≡ others ++ last ∷ []
      pub later : List L
      pub whole : s.decisions ≡ t.decisions ++ last ∷ later
      pub decided : WasDecided (clauses ++ s.learned) t.decisions last n
