-- The states of the search, one after another.
-- the first open literal, by the test
use Rattle.std.proofs.Common.{◌≡◌, ℕ, zero, suc, ◌*◌, ◌^◌, ◌≤◌, true, false, List, [], ◌∷◌, ◌++◌, refl, sym, ◌∙◌, ap, inl, inr, arith, length, length-append, map, subst, append_assoc, append-nil, cond, take}
use Rattle.std.specs.Prelude.{◌⊎◌, Option, Some, None, unwrap_or, find, if◌then◌else◌}
use Rattle.std.specs.List.{AllByRecursion}
use Rattle.std.proofs.Math.Seq.{take-append_seam}
use Rattle.std.proofs.lemmas.Bool.{cases_eq, cases_lt}
use Rattle.search_model.specs.Literals.{Literals, AreLiterals}
use Rattle.search_model.specs.Closure.{IsConflict, IsSettled}
use Rattle.search_model.specs.Tests.{is_conflict, is_open}
use Rattle.search_model.specs.Search.{State, start, Trimmed, trimmed, trim, on_conflict, on_open, turn, after, search_end, conflict_count}
use Rattle.search_laws.proofs.ListLemmas.{bool_cases}
use Rattle.search_laws.proofs.TestLemmas.{conflict_is, calm_is, open_is, settled_is}
use Rattle.search_model.specs.Turns.{IsFirstOpen, IsTrimmed, Turn, EndsInModel, EndsUnsatisfiable, Turns, Comes}
use Rattle.search_laws.proofs.Ends.{turns_bound}

module _ {L : Type 0} (lits : Literals L) (laws : AreLiterals lits) where
  module _ (clauses : List (List L)) (decisions : List L) where
    pub found_first_open : (order : List L) (l : L) → find (is_open lits clauses decisions) order ≡ Some l → IsFirstOpen lits clauses decisions order l
    found_first_open [] l e = cc
    found_first_open (o ∷ os) l e = elim (bool_cases (is_open lits clauses decisions o)) [
      | inl free ↦
          let here : find (is_open lits clauses decisions) (o ∷ os) ≡ Some o = ap (λ b. cond b (Some o) (find (is_open lits clauses decisions) os)) free in
          let is : l ≡ o = cc in
          inl (open_is lits laws clauses decisions o free, is)
      | inr settled ↦
          let later : find (is_open lits clauses decisions) (o ∷ os) ≡ find (is_open lits clauses decisions) os = ap (λ b. cond b (Some o) (find (is_open lits clauses decisions) os)) settled in
          inr (settled_is lits laws clauses decisions o settled, found_first_open os l (sym later ∙ e))
    ]

    pub found_none_open : (order : List L) → find (is_open lits clauses decisions) order ≡ None → AllByRecursion (IsSettled lits clauses decisions) order
    found_none_open [] e = tt
    found_none_open (o ∷ os) e = elim (bool_cases (is_open lits clauses decisions o)) [
      | inl free ↦
          let here : find (is_open lits clauses decisions) (o ∷ os) ≡ Some o = ap (λ b. cond b (Some o) (find (is_open lits clauses decisions) os)) free in
          cc
      | inr settled ↦
          let later : find (is_open lits clauses decisions) (o ∷ os) ≡ find (is_open lits clauses decisions) os = ap (λ b. cond b (Some o) (find (is_open lits clauses decisions) os)) settled in
          (settled_is lits laws clauses decisions o settled, found_none_open os (sym later ∙ e))
    ]

  module _ (clauses : List (List L)) where
    pub trimmed_end : (t : Trimmed L) (passed : List L) → trimmed (is_conflict lits clauses) t passed [] ≡ t
    unfolding trimmed
    trimmed_end t passed = refl

    pub trimmed_drops : (t : Trimmed L) (passed : List L) (d : L) (rest : List L) → is_conflict lits clauses (t.left ++ rest) ≡ true → trimmed (is_conflict lits clauses) t passed (d ∷ rest) ≡ trimmed (is_conflict lits clauses) t (passed ++ d ∷ []) rest
    unfolding trimmed
    trimmed_drops t passed d rest e = ap (λ b. trimmed (is_conflict lits clauses) (if b then t else record { left = t.left ++ d ∷ []; before = passed }) (passed ++ d ∷ []) rest) e

    pub trimmed_keeps : (t : Trimmed L) (passed : List L) (d : L) (rest : List L) → is_conflict lits clauses (t.left ++ rest) ≡ false → trimmed (is_conflict lits clauses) t passed (d ∷ rest) ≡ trimmed (is_conflict lits clauses) (record { left = t.left ++ d ∷ []; before = passed }) (passed ++ d ∷ []) rest
    unfolding trimmed
    trimmed_keeps t passed d rest e = ap (λ b. trimmed (is_conflict lits clauses) (if b then t else record { left = t.left ++ d ∷ []; before = passed }) (passed ++ d ∷ []) rest) e

    abbrev AsTrimmed : List L → List L → List L → List L → Trimmed L → Type 0
    AsTrimmed kept passed stem rest t = IsTrimmed lits clauses kept passed stem rest t.left t.before

    pub trimmed_is : (t : Trimmed L) (passed rest : List L) → IsTrimmed lits clauses t.left passed t.before rest (trimmed (is_conflict lits clauses) t passed rest).left (trimmed (is_conflict lits clauses) t passed rest).before
    trimmed_is t passed [] = (ap (λ x. x.left) (trimmed_end t passed), ap (λ x. x.before) (trimmed_end t passed))
    trimmed_is t passed (d ∷ rest) = elim (bool_cases (is_conflict lits clauses (t.left ++ rest))) [
      | inl e ↦
          let P : Trimmed L → Type 0 = λ x. AsTrimmed t.left passed t.before (d ∷ rest) x in
          subst P (sym (trimmed_drops t passed d rest e)) (inl (conflict_is lits laws clauses (t.left ++ rest) e, trimmed_is t (passed ++ d ∷ []) rest))
      | inr e ↦
          let P : Trimmed L → Type 0 = λ x. AsTrimmed t.left passed t.before (d ∷ rest) x in
          subst P (sym (trimmed_keeps t passed d rest e)) (inr (calm_is lits laws clauses (t.left ++ rest) e, trimmed_is (record { left = t.left ++ d ∷ []; before = passed }) (passed ++ d ∷ []) rest))
    ]

  module _ (clauses : List (List L)) (order : List L) where
    pub turn_conflict : (s : State L) → is_conflict lits (clauses ++ s.learned) s.decisions ≡ true → turn lits clauses order s ≡ on_conflict lits clauses s s.decisions
    unfolding turn
    turn_conflict s e = ap (λ b. if b then on_conflict lits clauses s s.decisions else on_open s (find (is_open lits (clauses ++ s.learned) s.decisions) order)) e

    pub turn_calm : (s : State L) → is_conflict lits (clauses ++ s.learned) s.decisions ≡ false → turn lits clauses order s ≡ on_open s (find (is_open lits (clauses ++ s.learned) s.decisions) order)
    unfolding turn
    turn_calm s e = ap (λ b. if b then on_conflict lits clauses s s.decisions else on_open s (find (is_open lits (clauses ++ s.learned) s.decisions) order)) e

    abbrev pub Ends : State L → Type 0
    Ends s = EndsInModel lits clauses order s ⊎ EndsUnsatisfiable lits clauses order s

    -- what a next state, or that there is none, means for the relation
    abbrev Follows : State L → Option (State L) → Type 0
    Follows s (Some t) = Turn lits clauses order s t
    Follows s None = Ends s

    conflict_follows : (s : State L) (ds : List L) → s.decisions ≡ ds → IsConflict lits (clauses ++ s.learned) s.decisions → Follows s (on_conflict lits clauses s ds)
    conflict_follows s [] none conflict = inr (record { conflict = conflict; none = none })
    conflict_follows s (d ∷ ds) is conflict =
        let size : length s.decisions ≡ suc (length ds) = ap length is in
        let t : Trimmed L = trim lits (clauses ++ s.learned) s.decisions in
        inr (record { conflict = conflict; some = omega (arith, size); left = t.left; before = t.before; trimmed = trimmed_is (clauses ++ s.learned) (record { left = []; before = [] }) [] s.decisions; after = refl })

    open_follows : (s : State L) (o : Option L) → find (is_open lits (clauses ++ s.learned) s.decisions) order ≡ o → (IsConflict lits (clauses ++ s.learned) s.decisions → ⊥) → Follows s (on_open s o)
    open_follows s (Some l) e calm = inl (record { calm = calm; literal = l; first = found_first_open (clauses ++ s.learned) s.decisions order l e; after = refl })
    open_follows s None e calm = inl (record { calm = calm; settled = found_none_open (clauses ++ s.learned) s.decisions order e })

    turn_follows : (s : State L) → Follows s (turn lits clauses order s)
    turn_follows s = elim (bool_cases (is_conflict lits (clauses ++ s.learned) s.decisions)) [
      | inl e ↦ subst (Follows s) (sym (turn_conflict s e)) (conflict_follows s s.decisions refl (conflict_is lits laws (clauses ++ s.learned) s.decisions e))
      | inr e ↦ subst (Follows s) (sym (turn_calm s e)) (open_follows s (find (is_open lits (clauses ++ s.learned) s.decisions) order) refl (calm_is lits laws (clauses ++ s.learned) s.decisions e))
    ]

    pub turn_some : (s t : State L) → turn lits clauses order s ≡ Some t → Turn lits clauses order s t
    turn_some s t e = subst (Follows s) e (turn_follows s)

    pub turn_none : (s : State L) → turn lits clauses order s ≡ None → Ends s
    turn_none s e = subst (Follows s) e (turn_follows s)

    after_suc : (n : ℕ) → after lits clauses order (suc n) ≡ unwrap_or (turn lits clauses order (after lits clauses order n)) (after lits clauses order n)
    unfolding after
    after_suc n = refl

    pub after_zero : after lits clauses order 0 ≡ start
    unfolding after
    after_zero = refl

    pub after_next : (n : ℕ) (t : State L) → turn lits clauses order (after lits clauses order n) ≡ Some t → after lits clauses order (suc n) ≡ t
    after_next n t e = after_suc n ∙ ap (λ o. unwrap_or o (after lits clauses order n)) e

    pub after_stays : (n : ℕ) → turn lits clauses order (after lits clauses order n) ≡ None → after lits clauses order (suc n) ≡ after lits clauses order n
    after_stays n e = after_suc n ∙ ap (λ o. unwrap_or o (after lits clauses order n)) e

    -- so many turns were made, or the search has ended
    abbrev Runs : ℕ → Type 0
    Runs n = Turns lits clauses order n (after lits clauses order n) ⊎ ((turn lits clauses order (after lits clauses order n) ≡ None) × Comes lits clauses order (after lits clauses order n))

    comes_runs : (n : ℕ) → Runs n → Comes lits clauses order (after lits clauses order n)
    comes_runs n (inl h) = (n, h)
    comes_runs n (inr h) = h.1

    runs_step : (n : ℕ) (o : Option (State L)) → turn lits clauses order (after lits clauses order n) ≡ o → Runs n → Runs (suc n)
    runs_step n None e h =
        let P : State L → Type 0 = λ s. (turn lits clauses order s ≡ None) × Comes lits clauses order s in
        inr (subst P (sym (after_stays n e)) (e, comes_runs n h))
    runs_step n (Some t) e (inl h) =
        inl (after lits clauses order n, h, (let P : State L → Type 0 = λ s. Turn lits clauses order (after lits clauses order n) s in subst P (sym (after_next n t e)) (turn_some (after lits clauses order n) t e)))
    runs_step n (Some t) e (inr h) = let stop : turn lits clauses order (after lits clauses order n) ≡ None = h.0 in absurd (cc)

    runs : (n : ℕ) → Runs n
    runs zero = inl after_zero
    runs (suc n) = runs_step n (turn lits clauses order (after lits clauses order n)) refl (runs n)

    pub after_comes : (n : ℕ) → Comes lits clauses order (after lits clauses order n)
    after_comes n = comes_runs n (runs n)

    abbrev enough : ℕ
    enough = 2 ^ length order * 2 ^ length order

    stops : (o : Option (State L)) → turn lits clauses order (after lits clauses order enough) ≡ o → Runs enough → o ≡ None
    stops None e h = refl
    stops (Some t) e (inl h) = absurd (omega (arith, turns_bound lits laws clauses order (suc enough) t (after lits clauses order enough, h, turn_some (after lits clauses order enough) t e)))
    stops (Some t) e (inr h) = let stop : turn lits clauses order (after lits clauses order enough) ≡ None = h.0 in cc

    pub end_stops : turn lits clauses order (search_end lits clauses order) ≡ None
    unfolding search_end
    end_stops = stops (turn lits clauses order (after lits clauses order enough)) refl (runs enough)

    pub end_comes : Comes lits clauses order (search_end lits clauses order)
    unfolding search_end
    end_comes = after_comes enough

    stays : (n m : ℕ) → turn lits clauses order (after lits clauses order n) ≡ None → n ≤ m → after lits clauses order m ≡ after lits clauses order n
    stays n zero e le = let same : n ≡ 0 = omega arith in ap (after lits clauses order) (sym same)
    stays n (suc m) e le = elim (cases_eq n (suc m)) [
      | inl is ↦ ap (after lits clauses order) (sym is)
      | inr apart ↦
          let before : after lits clauses order m ≡ after lits clauses order n = stays n m e (omega arith) in
          let stop : turn lits clauses order (after lits clauses order m) ≡ None = ap (turn lits clauses order) before ∙ e in
          after_stays m stop ∙ before
    ]

    -- where the search has no next state, it has come to its end
    pub stopped_is_end : (n : ℕ) → turn lits clauses order (after lits clauses order n) ≡ None → after lits clauses order n ≡ search_end lits clauses order
    unfolding search_end
    stopped_is_end n e = elim (cases_lt enough n) [
      | inl lt ↦ stays enough n (stops (turn lits clauses order (after lits clauses order enough)) refl (runs enough)) (omega arith)
      | inr le ↦ sym (stays n enough e (omega arith))
    ]

    -- the first learned clauses of the second state are the learned clauses of the first
    abbrev pub IsFront : List (List L) → List (List L) → Type 0
    IsFront front whole = (rest : List (List L)) × (whole ≡ front ++ rest)

    pub front_itself : (cs : List (List L)) → IsFront cs cs
    front_itself cs = ([], sym (append-nil cs))

    front_more : (a b c : List (List L)) → IsFront a b → IsFront b c → IsFront a c
    front_more a b c (x, e) (y, f) = (x ++ y, f ∙ ap (λ (k : List (List L)). k ++ y) e ∙ append_assoc a x y)

    turn_front : (s t : State L) → Turn lits clauses order s t → IsFront s.learned t.learned
    turn_front s t (inl h) = ([], ap (λ (x : State L). x.learned) h.after ∙ sym (append-nil s.learned))
    turn_front s t (inr h) = (map lits.negation h.left ∷ [], ap (λ (x : State L). x.learned) h.after)

    next_front : (n : ℕ) (o : Option (State L)) → turn lits clauses order (after lits clauses order n) ≡ o → IsFront (after lits clauses order n).learned (after lits clauses order (suc n)).learned
    next_front n None e =
        let P : State L → Type 0 = λ s. IsFront (after lits clauses order n).learned s.learned in
        subst P (sym (after_stays n e)) (front_itself (after lits clauses order n).learned)
    next_front n (Some t) e =
        let P : State L → Type 0 = λ s. IsFront (after lits clauses order n).learned s.learned in
        subst P (sym (after_next n t e)) (turn_front (after lits clauses order n) t (turn_some (after lits clauses order n) t e))

    pub later_front : (n m : ℕ) → n ≤ m → IsFront (after lits clauses order n).learned (after lits clauses order m).learned
    later_front n zero le =
        let same : n ≡ 0 = omega arith in
        let P : ℕ → Type 0 = λ k. IsFront (after lits clauses order n).learned (after lits clauses order k).learned in
        subst P same (front_itself (after lits clauses order n).learned)
    later_front n (suc m) le = elim (cases_eq n (suc m)) [
      | inl is ↦
          let P : ℕ → Type 0 = λ k. IsFront (after lits clauses order n).learned (after lits clauses order k).learned in
          subst P is (front_itself (after lits clauses order n).learned)
      | inr apart ↦ front_more (after lits clauses order n).learned (after lits clauses order m).learned (after lits clauses order (suc m)).learned
          (later_front n m (omega arith)) (next_front m (turn lits clauses order (after lits clauses order m)) refl)
    ]

    pub end_front : (n : ℕ) → IsFront (after lits clauses order n).learned (search_end lits clauses order).learned
    unfolding search_end
    end_front n = elim (cases_lt enough n) [
      | inl lt ↦
          let P : State L → Type 0 = λ s. IsFront s.learned (after lits clauses order enough).learned in
          subst P (sym (stays enough n (stops (turn lits clauses order (after lits clauses order enough)) refl (runs enough)) (omega arith))) (front_itself (after lits clauses order enough).learned)
      | inr le ↦ later_front n enough (omega arith)
    ]

    pub count_most : (n : ℕ) → length (after lits clauses order n).learned ≤ conflict_count lits clauses order
    count_most n =
        let (rest, e) = end_front n in
        let size : length (search_end lits clauses order).learned ≡ length ((after lits clauses order n).learned ++ rest) = ap length e in
        omega (arith, size, length-append (after lits clauses order n).learned rest)

    pub front_is_take : (front whole : List (List L)) → IsFront front whole → front ≡ take (length front) whole
    front_is_take front whole (rest, e) = sym (ap (take (length front)) e ∙ take-append_seam front rest)
