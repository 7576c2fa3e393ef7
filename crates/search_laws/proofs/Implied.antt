-- Each learned clause is implied.
use Rattle.std.proofs.Common.{◌≡◌, ◌≢◌, ℕ, zero, suc, Bool, true, false, List, [], ◌∷◌, ◌++◌, sym, ◌∙◌, ap, inl, inr, arith, map, subst, append_assoc, append-nil}
use Rattle.std.specs.Prelude.{Contains, not, ◌⊎◌}
use Rattle.std.proofs.lemmas.List.Elements.{Contains-push_cases}
use Rattle.search_model.specs.Literals.{Literals, AreLiterals}
use Rattle.search_model.specs.Closure.{IsClosedUnder, IsInClosure, IsConflict}
use Rattle.search_model.specs.Search.{State}
use Rattle.search_laws.proofs.ListLemmas.{bool_cases, not_false, not_true, Contains-head, Contains-tail, Contains-cons_cases}
use Rattle.search_model.specs.Turns.{IsTrimmed, Turn, EndsUnsatisfiable, Turns, Comes}
use Rattle.search_model.specs.Model.{Satisfies, IsModel}

module _ {L : Type 0} (lits : Literals L) (laws : AreLiterals lits) where
  pub Contains-negations : (xs : List L) (x : L) → Contains xs x → Contains (map lits.negation xs) (lits.negation x)
  Contains-negations [] x h = absurd (omega (arith, h.1))
  Contains-negations (y ∷ ys) x h =
      elim (Contains-cons_cases y ys x h) [
        | inl is ↦ rw (← is) (Contains-head (lits.negation y) (map lits.negation ys))
        | inr later ↦ Contains-tail (lits.negation y) (map lits.negation ys) (lits.negation x) (Contains-negations ys x later)
      ]

  -- The set lacks one of the literals, or has all.
  pub find_false : (set : L → Bool) (xs : List L) → ((x : L) × Contains xs x × (set x ≡ false)) ⊎ ((x : L) → Contains xs x → set x ≡ true)
  find_false set [] = inr (λ x h. absurd (omega (arith, h.1)))
  find_false set (y ∷ ys) =
      elim (bool_cases (set y)) [
        | inl is_true ↦ elim (find_false set ys) [
          | inl found ↦ inl (found.0, Contains-tail y ys found.0 found.1, found.2)
          | inr all ↦ inr (λ x h. elim (Contains-cons_cases y ys x h) [
            | inl is ↦ ap set (sym is) ∙ is_true
            | inr later ↦ all x later
          ])
        ]
        | inr is_false ↦ inl (y, Contains-head y ys, is_false)
      ]

  module _ (set : L → Bool) (one : (l : L) → set (lits.negation l) ≡ not (set l)) where
    pub satisfied_closed : (c : List L) → Satisfies set c → IsClosedUnder lits set c
    satisfied_closed c (x, within, is_true) l here others =
        elim (bool_cases (set l)) [
          | inl is ↦ is
          | inr is_false ↦
              let apart : x ≢ l = λ e. let same : set x ≡ set l = ap set e in cc in
              absurd (not_true (set x) is_true (sym (one x) ∙ others x within apart))
        ]

  -- A model that has the decisions has their closure.
  pub model_closure : (clauses : List (List L)) (decisions : List L) (set : L → Bool) → IsModel lits clauses set → ((d : L) → Contains decisions d → set d ≡ true) → (l : L) → IsInClosure lits clauses decisions l → set l ≡ true
  model_closure clauses decisions set model all l within =
      within set (record { decided = all; each = λ c here. satisfied_closed set model.one c (model.each c here) })

  pub model_no_conflict : (clauses : List (List L)) (decisions : List L) (set : L → Bool) → IsModel lits clauses set → ((d : L) → Contains decisions d → set d ≡ true) → IsConflict lits clauses decisions → ⊥
  model_no_conflict clauses decisions set model all (l, here, other) =
      not_true (set l) (model_closure clauses decisions set model all l here) (sym (model.one l) ∙ model_closure clauses decisions set model all (lits.negation l) other)

  pub trimmed_conflict : (clauses : List (List L)) (kept passed stem rest left before : List L) → IsConflict lits clauses (kept ++ rest) → IsTrimmed lits clauses kept passed stem rest left before → IsConflict lits clauses left
  trimmed_conflict clauses kept passed stem [] left before conflict h =
      let P : List L → Type 0 = λ ds. IsConflict lits clauses ds in
      subst P (sym h.0) (rw append-nil at conflict)
  trimmed_conflict clauses kept passed stem (d ∷ ds) left before conflict (inl h) = trimmed_conflict clauses kept (passed ++ d ∷ []) stem ds left before h.0 h.1
  trimmed_conflict clauses kept passed stem (d ∷ ds) left before conflict (inr h) =
      let P : List L → Type 0 = λ ds. IsConflict lits clauses ds in
      trimmed_conflict clauses (kept ++ d ∷ []) (passed ++ d ∷ []) passed ds left before (subst P (sym (append_assoc kept (d ∷ []) ds)) conflict) h.1

  -- A model satisfies the negations of decisions that conflict.
  pub learned_satisfied : (clauses : List (List L)) (left : List L) (set : L → Bool) → IsModel lits clauses set → IsConflict lits clauses left → Satisfies set (map lits.negation left)
  learned_satisfied clauses left set model conflict =
      elim (find_false set left) [
        | inl found ↦ (lits.negation found.0, Contains-negations left found.0 found.1, model.one found.0 ∙ not_false (set found.0) found.2)
        | inr all ↦ absurd (model_no_conflict clauses left set model all conflict)
      ]

  pub model_push : (clauses : List (List L)) (c : List L) (set : L → Bool) → IsModel lits clauses set → Satisfies set c → IsModel lits (clauses ++ c ∷ []) set
  model_push clauses c set model is_true = record {
    one = model.one;
    each = λ k here. elim (Contains-push_cases clauses c k here) [
      | inl before ↦ model.each k before
      | inr is ↦ let P : List L → Type 0 = λ x. Satisfies set x in subst P is is_true
    ];
  }

  module _ (clauses : List (List L)) (order : List L) (set : L → Bool) (model : IsModel lits clauses set) where
    pub model_turn : (s t : State L) → Turn lits clauses order s t → IsModel lits (clauses ++ s.learned) set → IsModel lits (clauses ++ t.learned) set
    model_turn s t (inl h) m = rw h.after m
    model_turn s t (inr h) m =
        let conflict : IsConflict lits (clauses ++ s.learned) h.left = trimmed_conflict (clauses ++ s.learned) [] [] [] s.decisions h.left h.before h.conflict h.trimmed in
        let more : IsModel lits ((clauses ++ s.learned) ++ map lits.negation h.left ∷ []) set = model_push (clauses ++ s.learned) (map lits.negation h.left) set m (learned_satisfied (clauses ++ s.learned) h.left set m conflict) in
        let P : List (List L) → Type 0 = λ cs. IsModel lits cs set in
        rw h.after (subst P (append_assoc clauses s.learned (map lits.negation h.left ∷ [])) more)

    model_turns : (n : ℕ) (s : State L) → Turns lits clauses order n s → IsModel lits (clauses ++ s.learned) set
    model_turns zero s h = let P : List (List L) → Type 0 = λ cs. IsModel lits cs set in rw h (subst P (sym (append-nil clauses)) model)
    model_turns (suc n) s (e, h, turn) = model_turn e s turn (model_turns n e h)

    -- each model of the clauses is one of the learned clauses too
    pub learned_implied : (s : State L) → Comes lits clauses order s → IsModel lits (clauses ++ s.learned) set
    learned_implied s (n, h) = model_turns n s h

    -- where the search ends as unsatisfiable there is no model
    pub unsatisfiable_no_model : (s : State L) → Comes lits clauses order s → EndsUnsatisfiable lits clauses order s → ⊥
    unsatisfiable_no_model s h e =
        let conflict : IsConflict lits (clauses ++ s.learned) [] = let P : List L → Type 0 = λ ds. IsConflict lits (clauses ++ s.learned) ds in subst P e.none e.conflict in
        model_no_conflict (clauses ++ s.learned) [] set (learned_implied s h) (λ d none. absurd (omega (arith, none.1))) conflict
