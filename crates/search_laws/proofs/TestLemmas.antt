-- The tests of closure and conflict tell the least set.
use Rattle.std.proofs.Common.{◌≡◌, ◌≢◌, ℕ, zero, suc, ◌≤◌, Bool, true, false, List, ◌++◌, refl, sym, ◌∙◌, inl, inr, arith, length, subst}
use Rattle.std.specs.Prelude.{Contains, ◌⊎◌, ◌&&◌, ◌||◌}
use Rattle.std.specs.List.{list_any, list_all}
use Rattle.std.proofs.lemmas.List.Elements.{Contains-append_left, Contains-append_right}
use Rattle.search_model.specs.Literals.{Literals, AreLiterals}
use Rattle.search_model.specs.Closure.{IsClosedUnder, IsClosed, IsInClosure, IsConflict, IsSettled}
use Rattle.search_model.specs.Tests.{is_among, forces, grown, literals_of, in_closure, is_conflict, is_open}
use Rattle.search_laws.proofs.ListLemmas.{bool_cases, both, both_true, either, either_left, either_right, true_is_false, not_false, not_true, each_or_one, any_true, any_one, all_true, all_each, Contains-flat_map, passing, passing_less, passing_all}

module _ {L : Type 0} (lits : Literals L) (laws : AreLiterals lits) where
  pub lit_eq_same : (a b : L) → lits.same a b ≡ true → a ≡ b
  lit_eq_same a b e = (laws.same_is a b).0 e

  pub lit_eq_itself : (a : L) → lits.same a a ≡ true
  lit_eq_itself a = (laws.same_is a a).1 refl

  pub lit_cases : (a b : L) → (a ≡ b) ⊎ (a ≢ b)
  lit_cases a b = elim (bool_cases (lits.same a b)) [
    | inl e ↦ inl (lit_eq_same a b e)
    | inr e ↦ inr (λ is. let P : L → Type 0 = λ x. lits.same a x ≡ false in true_is_false (lits.same a a) (lit_eq_itself a) (subst P (sym is) e))
  ]

  pub among_contains : (ls : List L) (l : L) → is_among lits ls l ≡ true → Contains ls l
  among_contains ls l e =
      let one = any_one (lits.same l) ls e in
      let P : L → Type 0 = λ x. Contains ls x in subst P (sym (lit_eq_same l one.0 one.2)) one.1

  pub contains_among : (ls : List L) (l : L) → Contains ls l → is_among lits ls l ≡ true
  contains_among ls l h = any_true (lits.same l) ls l h (lit_eq_itself l)

  -- what a set forces lits, a greater one forces lits too
  forces_more : (s t : L → Bool) → ((m : L) → s m ≡ true → t m ≡ true) → (c : List L) (l : L) → forces lits s c l ≡ true → forces lits t c l ≡ true
  forces_more s t more c l e =
      let parts = both (is_among lits c l) (list_all (λ m. lits.same m l || s (lits.negation m)) c) e in
      both_true (is_among lits c l) (list_all (λ m. lits.same m l || t (lits.negation m)) c) parts.0
      (all_true (λ m. lits.same m l || t (lits.negation m)) c (λ m at. elim (either (lits.same m l) (s (lits.negation m)) (all_each (λ m. lits.same m l || s (lits.negation m)) c parts.1 m at)) [
        | inl same ↦ either_left (lits.same m l) (t (lits.negation m)) same
        | inr is ↦ either_right (lits.same m l) (t (lits.negation m)) (more (lits.negation m) is)
      ]))

  -- a set that is closed under a clause has what the clause forces lits
  closed_forces : (s : L → Bool) (c : List L) → IsClosedUnder lits s c → (l : L) → forces lits s c l ≡ true → s l ≡ true
  closed_forces s c closed l e =
      let parts = both (is_among lits c l) (list_all (λ m. lits.same m l || s (lits.negation m)) c) e in
      closed l (among_contains c l parts.0) (λ m at apart. elim (either (lits.same m l) (s (lits.negation m)) (all_each (λ m. lits.same m l || s (lits.negation m)) c parts.1 m at)) [
        | inl same ↦ absurd (apart (lit_eq_same m l same))
        | inr is ↦ is
      ])

  forces_closed : (s : L → Bool) (c : List L) → ((l : L) → forces lits s c l ≡ true → s l ≡ true) → IsClosedUnder lits s c
  forces_closed s c has l at others = has l (both_true (is_among lits c l) (list_all (λ m. lits.same m l || s (lits.negation m)) c) (contains_among c l at)
      (all_true (λ m. lits.same m l || s (lits.negation m)) c (λ m here. elim (lit_cases m l) [
        | inl is ↦ let P : L → Type 0 = λ x. lits.same x l ≡ true in either_left (lits.same m l) (s (lits.negation m)) (subst P (sym is) (lit_eq_itself l))
        | inr apart ↦ either_right (lits.same m l) (s (lits.negation m)) (others m here apart)
      ])))

  module _ (clauses : List (List L)) (decisions : List L) where
    pass : ℕ → L → Bool
    pass n = grown lits clauses decisions n

    pass_zero : (l : L) → pass 0 l ≡ is_among lits decisions l
    unfolding grown pass
    pass_zero l = refl

    pass_suc : (n : ℕ) (l : L) → pass (suc n) l ≡ (pass n l || list_any (λ c. forces lits (pass n) c l) clauses)
    unfolding grown pass
    pass_suc n l = refl

    pass_more : (n : ℕ) (l : L) → pass n l ≡ true → pass (suc n) l ≡ true
    pass_more n l e = pass_suc n l ∙ either_left (pass n l) (list_any (λ c. forces lits (pass n) c l) clauses) e

    pass_forced : (n : ℕ) (c : List L) (l : L) → Contains clauses c → forces lits (pass n) c l ≡ true → pass (suc n) l ≡ true
    pass_forced n c l at e = pass_suc n l ∙ either_right (pass n l) (list_any (λ c. forces lits (pass n) c l) clauses) (any_true (λ c. forces lits (pass n) c l) clauses c at e)

    pass_cases : (n : ℕ) (l : L) → pass (suc n) l ≡ true → (pass n l ≡ true) ⊎ ((c : List L) × Contains clauses c × (forces lits (pass n) c l ≡ true))
    pass_cases n l e = elim (either (pass n l) (list_any (λ c. forces lits (pass n) c l) clauses) (sym (pass_suc n l) ∙ e)) [
      | inl before ↦ inl before
      | inr now ↦ inr (any_one (λ c. forces lits (pass n) c l) clauses now)
    ]

    pass_decided : (n : ℕ) (l : L) → Contains decisions l → pass n l ≡ true
    pass_decided zero l h = pass_zero l ∙ contains_among decisions l h
    pass_decided (suc n) l h = pass_more n l (pass_decided n l h)

    -- each pass adds only what every closed set has
    pass_sound : (n : ℕ) (l : L) → pass n l ≡ true → IsInClosure lits clauses decisions l
    pass_sound zero l e = λ set closed. closed.decided l (among_contains decisions l (sym (pass_zero l) ∙ e))
    pass_sound (suc n) l e = elim (pass_cases n l e) [
      | inl before ↦ pass_sound n l before
      | inr (c, at, forced) ↦ λ set closed.
          closed_forces set c (closed.each c at) l (forces_more (pass n) set (λ m is. pass_sound n m is set closed) c l forced)
    ]

    -- a pass that adds nothing
    abbrev IsStill : ℕ → Type 0
    IsStill n = (c : List L) → Contains clauses c → (l : L) → Contains c l → forces lits (pass n) c l ≡ true → pass n l ≡ true

    forced_contains : (s : L → Bool) (c : List L) (l : L) → forces lits s c l ≡ true → Contains c l
    forced_contains s c l e = among_contains c l (both (is_among lits c l) (list_all (λ m. lits.same m l || s (lits.negation m)) c) e).0

    abbrev Adds : ℕ → List L → L → Type 0
    Adds n c l = (forces lits (pass n) c l ≡ true) × (pass n l ≡ false)

    adds_or_not : (n : ℕ) (c : List L) (l : L) → (forces lits (pass n) c l ≡ true → pass n l ≡ true) ⊎ Adds n c l
    adds_or_not n c l = elim (bool_cases (pass n l)) [
      | inl e ↦ inl (λ h. e)
      | inr e ↦ elim (bool_cases (forces lits (pass n) c l)) [
        | inl f ↦ inr (f, e)
        | inr f ↦ inl (λ h. absurd (true_is_false (forces lits (pass n) c l) h f))
      ]
    ]

    still_or_adds : (n : ℕ) → IsStill n ⊎ ((c : List L) × Contains clauses c × ((l : L) × Contains c l × Adds n c l))
    still_or_adds n = each_or_one (λ c. (l : L) → Contains c l → forces lits (pass n) c l ≡ true → pass n l ≡ true) (λ c. (l : L) × Contains c l × Adds n c l)
        (λ c. each_or_one (λ l. forces lits (pass n) c l ≡ true → pass n l ≡ true) (Adds n c) (adds_or_not n c) c) clauses

    still_stays : (n : ℕ) → IsStill n → IsStill (suc n)
    still_stays n still c at l here e =
        let same : (m : L) → pass (suc n) m ≡ true → pass n m ≡ true = λ m is. elim (pass_cases n m is) [
          | inl before ↦ before
          | inr (k, among, forced) ↦ still k among m (forced_contains (pass n) k m forced) forced
        ] in
        pass_more n l (still c at l here (forces_more (pass (suc n)) (pass n) same c l e))

    -- so many literals have been added, or nothing more will be
    still_or_many : (n : ℕ) → IsStill n ⊎ (n ≤ passing (pass n) (literals_of clauses))
    still_or_many zero = inr (omega arith)
    still_or_many (suc n) = elim (still_or_many n) [
      | inl still ↦ inl (still_stays n still)
      | inr many ↦ elim (still_or_adds n) [
        | inl still ↦ inl (still_stays n still)
        | inr (c, at, (l, here, adds)) ↦
            inr (omega (arith, many, passing_less (pass n) (pass (suc n)) (pass_more n) (literals_of clauses) l (Contains-flat_map clauses c l at here) adds.1 (pass_forced n c l at adds.0)))
      ]
    ]

    -- after as many passes as there are literals nothing is left to add
    all_still : IsStill (length (literals_of clauses))
    all_still = elim (still_or_many (length (literals_of clauses))) [
      | inl still ↦ still
      | inr many ↦ λ c at l here e. passing_all (pass (length (literals_of clauses))) (literals_of clauses) many l (Contains-flat_map clauses c l at here)
    ]

    last_closed : IsClosed lits clauses decisions (pass (length (literals_of clauses)))
    last_closed = record {
      decided = pass_decided (length (literals_of clauses));
      each = λ c at. forces_closed (pass (length (literals_of clauses))) c (λ l e. all_still c at l (forced_contains (pass (length (literals_of clauses))) c l e) e);
    }

    pub in_is : (l : L) → in_closure lits clauses decisions l ≡ true → IsInClosure lits clauses decisions l
    unfolding in_closure pass
    in_is l e = pass_sound (length (literals_of clauses)) l e

    pub is_in : (l : L) → IsInClosure lits clauses decisions l → in_closure lits clauses decisions l ≡ true
    unfolding in_closure pass
    is_in l h = h (pass (length (literals_of clauses))) last_closed

    pub not_in : (l : L) → in_closure lits clauses decisions l ≡ false → IsInClosure lits clauses decisions l → ⊥
    not_in l e h = true_is_false (in_closure lits clauses decisions l) (is_in l h) e

    -- a literal of the closure is a decision or stands in a clause
    pass_stands : (n : ℕ) (l : L) → pass n l ≡ true → Contains (decisions ++ literals_of clauses) l
    pass_stands zero l e = Contains-append_left decisions (literals_of clauses) l (among_contains decisions l (sym (pass_zero l) ∙ e))
    pass_stands (suc n) l e = elim (pass_cases n l e) [
      | inl before ↦ pass_stands n l before
      | inr (c, at, forced) ↦ Contains-append_right decisions (literals_of clauses) l (Contains-flat_map clauses c l at (forced_contains (pass n) c l forced))
    ]

    pub stands : (l : L) → in_closure lits clauses decisions l ≡ true → Contains (decisions ++ literals_of clauses) l
    unfolding in_closure pass
    stands l e = pass_stands (length (literals_of clauses)) l e

    abbrev both_in : L → Bool
    both_in l = in_closure lits clauses decisions l && in_closure lits clauses decisions (lits.negation l)

    pub conflict_is : is_conflict lits clauses decisions ≡ true → IsConflict lits clauses decisions
    unfolding is_conflict
    conflict_is e =
        let one = any_one both_in (decisions ++ literals_of clauses) e in
        let parts = both (in_closure lits clauses decisions one.0) (in_closure lits clauses decisions (lits.negation one.0)) one.2 in
        (one.0, in_is one.0 parts.0, in_is (lits.negation one.0) parts.1)

    pub is_conflicting : IsConflict lits clauses decisions → is_conflict lits clauses decisions ≡ true
    unfolding is_conflict
    is_conflicting (l, here, other) =
        any_true both_in (decisions ++ literals_of clauses) l (stands l (is_in l here))
        (both_true (in_closure lits clauses decisions l) (in_closure lits clauses decisions (lits.negation l)) (is_in l here) (is_in (lits.negation l) other))

    pub calm_is : is_conflict lits clauses decisions ≡ false → IsConflict lits clauses decisions → ⊥
    calm_is e h = true_is_false (is_conflict lits clauses decisions) (is_conflicting h) e

    pub is_calm : (IsConflict lits clauses decisions → ⊥) → is_conflict lits clauses decisions ≡ false
    is_calm calm = elim (bool_cases (is_conflict lits clauses decisions)) [
      | inl e ↦ absurd (calm (conflict_is e))
      | inr e ↦ e
    ]

    pub open_is : (l : L) → is_open lits clauses decisions l ≡ true → IsSettled lits clauses decisions l → ⊥
    open_is l e settled =
        not_true (in_closure lits clauses decisions l || in_closure lits clauses decisions (lits.negation l)) (elim settled [
          | inl h ↦ either_left (in_closure lits clauses decisions l) (in_closure lits clauses decisions (lits.negation l)) (is_in l h)
          | inr h ↦ either_right (in_closure lits clauses decisions l) (in_closure lits clauses decisions (lits.negation l)) (is_in (lits.negation l) h)
        ]) e

    pub settled_is : (l : L) → is_open lits clauses decisions l ≡ false → IsSettled lits clauses decisions l
    settled_is l e = elim (bool_cases (in_closure lits clauses decisions l || in_closure lits clauses decisions (lits.negation l))) [
      | inl h ↦ elim (either (in_closure lits clauses decisions l) (in_closure lits clauses decisions (lits.negation l)) h) [
        | inl is ↦ inl (in_is l is)
        | inr is ↦ inr (in_is (lits.negation l) is)
      ]
      | inr h ↦ absurd (true_is_false (is_open lits clauses decisions l) (not_false (in_closure lits clauses decisions l || in_closure lits clauses decisions (lits.negation l)) h) e)
    ]

    pub is_settled : (l : L) → IsSettled lits clauses decisions l → is_open lits clauses decisions l ≡ false
    is_settled l h = elim (bool_cases (is_open lits clauses decisions l)) [
      | inl e ↦ absurd (open_is l e h)
      | inr e ↦ e
    ]
