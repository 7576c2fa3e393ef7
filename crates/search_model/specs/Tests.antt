-- The closure as a test, by passes over the clauses.
use Rattle.std.specs.Prelude.{ℕ, zero, suc, Bool, not, ◌&&◌, ◌||◌, List, ◌++◌, length, flat_map}
use Rattle.std.specs.List.{list_any, list_all}
use Rattle.search_model.specs.Literals.{Literals}

-- the literals of the clauses
abbrev pub literals_of : {L : Type 0} → List (List L) → List L
literals_of clauses = flat_map (λ clause. clause) clauses

module _ {L : Type 0} (lits : Literals L) where
  abbrev pub is_among : List L → L → Bool
  is_among literals l = list_any (lits.same l) literals

  -- the literal is the clause's, and the set has the negation of each other one
  abbrev pub forces : (L → Bool) → List L → L → Bool
  forces set clause l = is_among clause l && list_all (λ m. lits.same m l || set (lits.negation m)) clause

  -- the decisions, with what so many passes over the clauses add
  unfoldable pub grown : List (List L) → List L → ℕ → L → Bool
  grown clauses decisions zero l = is_among decisions l
  grown clauses decisions (suc n) l =
      grown clauses decisions n l || list_any (λ clause. forces (grown clauses decisions n) clause l) clauses

  -- Whether the closure has the literal: as many passes as the clauses have literals find all that is to be added.
  unfoldable pub in_closure : List (List L) → List L → L → Bool
  in_closure clauses decisions l = grown clauses decisions (length (literals_of clauses)) l

  -- whether the closure has a literal and its negation, which are decisions or stand in clauses
  unfoldable pub is_conflict : List (List L) → List L → Bool
  is_conflict clauses decisions =
      list_any (λ l. in_closure clauses decisions l && in_closure clauses decisions (lits.negation l)) (decisions ++ literals_of clauses)

  -- the closure has neither the literal nor its negation
  abbrev pub is_open : List (List L) → List L → L → Bool
  is_open clauses decisions l = not (in_closure clauses decisions l || in_closure clauses decisions (lits.negation l))
