-- The search in the words of its turns, by the least closed set.
use Rattle.std.specs.Prelude.{◌≡◌, ◌⊎◌, ℕ, zero, suc, ◌+◌, ◌<◌, List, [], ◌∷◌, ◌++◌, map, length}
use Rattle.std.specs.List.{AllByRecursion}
use mathlib.Core.Logic.{inl, inr}
use Rattle.search_model.specs.Literals.{Literals}
use Rattle.search_model.specs.Closure.{IsConflict, IsSettled}
use Rattle.search_model.specs.Search.{State, start}

module _ {L : Type 0} (lits : Literals L) where
  -- along the order: the literal is the first that the closure leaves open
  abbrev pub IsFirstOpen : List (List L) → List L → List L → L → Type 0
  IsFirstOpen clauses decisions [] l = ⊥
  IsFirstOpen clauses decisions (o ∷ os) l =
      ((IsSettled lits clauses decisions o → ⊥) × (l ≡ o)) ⊎ (IsSettled lits clauses decisions o × IsFirstOpen clauses decisions os l)

  -- Going through the decisions, each is dropped without which those left so far and those after it still conflict.
  -- At the end these are left, and `before` is what had been passed when the last of them came.
  abbrev pub IsTrimmed : List (List L) → List L → List L → List L → List L → List L → List L → Type 0
  IsTrimmed clauses so_far passed stem [] left before = (left ≡ so_far) × (before ≡ stem)
  IsTrimmed clauses so_far passed stem (d ∷ ds) left before =
      (IsConflict lits clauses (so_far ++ ds) × IsTrimmed clauses so_far (passed ++ d ∷ []) stem ds left before)
      ⊎ ((IsConflict lits clauses (so_far ++ ds) → ⊥) × IsTrimmed clauses (so_far ++ d ∷ []) (passed ++ d ∷ []) passed ds left before)

  module _ (clauses : List (List L)) (order : List L) where
    -- no conflict and an open literal: the first open one is decided, with its sign
    pub record Decides (s t : State L) : Type 0 where
      pub calm : IsConflict lits (clauses ++ s.learned) s.decisions → ⊥
      pub literal : L
      pub first : IsFirstOpen (clauses ++ s.learned) s.decisions order literal
      pub after : t ≡ record { decisions = s.decisions ++ literal ∷ []; learned = s.learned }

    -- a conflict and decisions: the negations of those left are learned, and those before the last one left are kept
    pub record Learns (s t : State L) : Type 0 where
      pub conflict : IsConflict lits (clauses ++ s.learned) s.decisions
      pub some : 0 < length s.decisions
      pub left : List L
      pub before : List L
      pub trimmed : IsTrimmed (clauses ++ s.learned) [] [] [] s.decisions left before
      pub after : t ≡ record { decisions = before; learned = s.learned ++ map lits.negation left ∷ [] }

    -- no conflict and no open literal: the end with a model
    pub record EndsInModel (s : State L) : Type 0 where
      pub calm : IsConflict lits (clauses ++ s.learned) s.decisions → ⊥
      pub settled : AllByRecursion (IsSettled lits (clauses ++ s.learned) s.decisions) order

    -- a conflict and no decision: the end as unsatisfiable
    pub record EndsUnsatisfiable (s : State L) : Type 0 where
      pub conflict : IsConflict lits (clauses ++ s.learned) s.decisions
      pub none : s.decisions ≡ []

    -- what a turn does where the search goes on
    abbrev pub Turn : State L → State L → Type 0
    Turn s t = Decides s t ⊎ Learns s t

    -- where the search ends
    abbrev pub Ends : State L → Type 0
    Ends s = EndsInModel s ⊎ EndsUnsatisfiable s

    -- so many turns lead from the start, with no decision and nothing learned, to the state
    abbrev pub Turns : ℕ → State L → Type 0
    Turns zero s = s ≡ start
    Turns (suc n) s = (earlier : State L) × Turns n earlier × Turn earlier s

    -- the search comes to the state
    abbrev pub Comes : State L → Type 0
    Comes s = (n : ℕ) × Turns n s

    -- so many of the turns counted a conflict
    abbrev pub HasCounted : (n : ℕ) (s : State L) → Turns n s → ℕ → Type 0
    HasCounted zero s run count = count ≡ 0
    HasCounted (suc n) s (earlier, run, inl decides) count = HasCounted n earlier run count
    HasCounted (suc n) s (earlier, run, inr learns) count = (before : ℕ) × (count ≡ before + 1) × HasCounted n earlier run before
