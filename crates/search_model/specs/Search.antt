-- A search for a model of clauses. It decides literals of an order, and learns a clause from each conflict.
use Rattle.std.specs.Prelude.{ℕ, zero, suc, ◌*◌, ◌^◌, Bool, List, [], ◌∷◌, ◌++◌, map, length, find, Option, Some, None, unwrap_or, if◌then◌else◌}
use Rattle.search_model.specs.Literals.{Literals}
use Rattle.search_model.specs.Tests.{in_closure, is_conflict, is_open}

-- where the search stands; each conflict that it counted gave one learned clause
pub record State (L : Type 0) : Type 0 where
  pub decisions : List L
  pub learned : List (List L)

abbrev pub start : {L : Type 0} → State L
start = record { decisions = []; learned = [] }

-- the decisions that the trimming leaves, and those that stood before the last one left
pub record Trimmed (L : Type 0) : Type 0 where
  pub left : List L
  pub before : List L

-- one more decision
abbrev pub decide : {L : Type 0} → State L → L → State L
decide s l = record { decisions = s.decisions ++ l ∷ []; learned = s.learned }

-- without a conflict: where no literal of the order is open the search ends
abbrev pub on_open : {L : Type 0} → State L → Option L → Option (State L)
on_open s None = None
on_open s (Some l) = Some (decide s l)

-- Each decision of the rest is dropped without which those left so far and those after it still pass the test.
unfoldable pub trimmed : {L : Type 0} → (List L → Bool) → Trimmed L → List L → List L → Trimmed L
trimmed test t passed [] = t
trimmed test t passed (d ∷ rest) =
    let next = if test (t.left ++ rest) then t else record { left = t.left ++ d ∷ []; before = passed } in
    trimmed test next (passed ++ d ∷ []) rest

module _ {L : Type 0} (lits : Literals L) where
  -- the decisions that a conflict needs
  abbrev pub trim : List (List L) → List L → Trimmed L
  trim clauses decisions = trimmed (is_conflict lits clauses) (record { left = []; before = [] }) [] decisions

  -- a conflict counted: the negations of the decisions left are learned, and those before the last of them are kept
  abbrev pub learn : List (List L) → State L → State L
  learn clauses s =
      let t = trim (clauses ++ s.learned) s.decisions in
      record { decisions = t.before; learned = s.learned ++ map lits.negation t.left ∷ [] }

  -- after a conflict: without a decision the search ends
  abbrev pub on_conflict : List (List L) → State L → List L → Option (State L)
  on_conflict clauses s [] = None
  on_conflict clauses s (d ∷ rest) = Some (learn clauses s)

  -- the next state, or none where the search ends
  unfoldable pub turn : List (List L) → List L → State L → Option (State L)
  turn clauses order s =
      let all = clauses ++ s.learned in
      if is_conflict lits all s.decisions then on_conflict clauses s s.decisions else on_open s (find (is_open lits all s.decisions) order)

  -- the state after so many turns, or at the end where that comes before
  unfoldable pub after : List (List L) → List L → ℕ → State L
  after clauses order zero = start
  after clauses order (suc n) = unwrap_or (turn clauses order (after clauses order n)) (after clauses order n)

  -- the state in which the search ends: it never takes more turns than this
  unfoldable pub search_end : List (List L) → List L → State L
  search_end clauses order = after clauses order (2 ^ length order * 2 ^ length order)

  -- how many conflicts the search counts
  abbrev pub conflict_count : List (List L) → List L → ℕ
  conflict_count clauses order = length (search_end clauses order).learned

  -- the search ends with a conflict, and not with a model
  abbrev pub ends_in_conflict : List (List L) → List L → Bool
  ends_in_conflict clauses order = let s = search_end clauses order in is_conflict lits (clauses ++ s.learned) s.decisions

  -- the values of the order's literals at the end of the search
  abbrev pub values_found : List (List L) → List L → List Bool
  values_found clauses order = let s = search_end clauses order in map (in_closure lits (clauses ++ s.learned) s.decisions) order
