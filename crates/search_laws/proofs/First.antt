-- The model found is the first in the order's signs.
use Rattle.std.proofs.Common.{◌≡◌, ℕ, ◌^◌, ◌<◌, Bool, true, false, List, [], ◌∷◌, ◌++◌, sym, ◌∙◌, ap, inl, inr, arith, length, subst, append_assoc, append-nil}
use Rattle.std.specs.Prelude.{Contains, not, ◌⊎◌}
use Rattle.std.specs.List.{AllByRecursion}
use Rattle.std.proofs.lemmas.List.Elements.{Contains-append_left, Contains-append_right, Contains-push_cases}
use Rattle.search_model.specs.Literals.{Literals, AreLiterals}
use Rattle.search_model.specs.Closure.{IsInClosure}
use Rattle.search_model.specs.Search.{State}
use Rattle.search_model.specs.Closure.{IsSettled}
use Rattle.search_model.specs.Turns.{EndsInModel, Comes}
use Rattle.search_model.specs.Model.{Satisfies, IsModel, IsNotAfter}
use Rattle.search_laws.proofs.Steps.{IsRead}
use Rattle.search_model.specs.Numbers.{IsNumber}
use Rattle.search_laws.proofs.Rise.{IsStack}
use Rattle.search_laws.proofs.ListLemmas.{bool_cases, Contains-head, Contains-tail, Contains-cons_cases, not_is_true, true_is_false}
use Rattle.search_laws.proofs.Implied.{model_closure, learned_implied}
use Rattle.search_laws.proofs.Numbers.{IsWithin, closure_more}
use Rattle.search_laws.proofs.Rising.{chosen_number}
use Rattle.search_laws.proofs.Bounds.{counted}

module _ {L : Type 0} (lits : Literals L) (laws : AreLiterals lits) where
  module _ (clauses : List (List L)) (found other : L → Bool) (model : IsModel lits clauses other) where
    lacked : (l : L) → other (lits.negation l) ≡ true → other l ≡ false
    lacked l e = not_is_true (other l) (sym (model.one l) ∙ e)

    settled_agree : (decisions : List L) → IsRead lits laws clauses decisions found → ((d : L) → Contains decisions d → other d ≡ true) → (order : List L) → AllByRecursion (IsSettled lits clauses decisions) order → IsNotAfter order found other
    settled_agree decisions read all [] h = tt
    settled_agree decisions read all (o ∷ os) (inl here, h) =
        inr (read.has o here ∙ sym (model_closure lits laws clauses decisions other model all o here), settled_agree decisions read all os h)
    settled_agree decisions read all (o ∷ os) (inr here, h) =
        inr (read.lacks o here ∙ sym (lacked o (model_closure lits laws clauses decisions other model all (lits.negation o) here)), settled_agree decisions read all os h)

    -- the first decision that the other model lacks
    number_later : (passed : List L) → IsRead lits laws clauses passed found → ((x : L) → Contains passed x → other x ≡ true) → (d : L) → found d ≡ true → other d ≡ false → (order : List L) (n : ℕ) → IsNumber lits clauses passed order d n → IsNotAfter order found other
    number_later passed read all d has lacks [] n h = absurd h
    number_later passed read all d has lacks (o ∷ os) n (inl h) = inl (ap found h.0 ∙ has, ap other h.0 ∙ lacks)
    number_later passed read all d has lacks (o ∷ os) n (inr (inl h)) =
        inr (read.has o h.0 ∙ sym (model_closure lits laws clauses passed other model all o h.0), number_later passed read all d has lacks os n h.1)
    number_later passed read all d has lacks (o ∷ os) n (inr (inr (here, (m, e, h)))) =
        inr (read.lacks o here ∙ sym (lacked o (model_closure lits laws clauses passed other model all (lits.negation o) here)), number_later passed read all d has lacks os m h)

    stack_first : (base : List (List L)) (order passed : List L) (bound : ℕ) (ds : List L) (n : ℕ) → IsRead lits laws clauses (passed ++ ds) found → AllByRecursion (IsSettled lits clauses (passed ++ ds)) order
        → ((x : L) → Contains passed x → other x ≡ true) → IsStack lits laws base clauses order passed bound ds n → IsNotAfter order found other
    stack_first base order passed bound [] n read settled all h =
        settled_agree passed (subst (λ (x : List L). IsRead lits laws clauses x found) (append-nil passed) read) all order (subst (λ (x : List L). AllByRecursion (IsSettled lits clauses x) order) (append-nil passed) settled)
    stack_first base order passed bound (d ∷ ds) n read settled all (k, lt, number, h) =
        let same : passed ++ d ∷ ds ≡ (passed ++ d ∷ []) ++ ds = sym (append_assoc passed (d ∷ []) ds) in
        let within : IsWithin lits laws clauses passed clauses (passed ++ d ∷ ds) = record { clause = λ c here. here; decision = λ x here. Contains-append_left passed (d ∷ ds) x here } in
        let before : IsRead lits laws clauses passed found = record {
          has = λ l here. read.has l (closure_more lits laws clauses passed clauses (passed ++ d ∷ ds) within l here);
          lacks = λ l here. read.lacks l (closure_more lits laws clauses passed clauses (passed ++ d ∷ ds) within (lits.negation l) here);
        } in
        let has : found d ≡ true = read.has d (λ set closed. closed.decided d (Contains-append_right passed (d ∷ ds) d (Contains-head d ds))) in
        elim (bool_cases (other d)) [
          | inl e ↦ stack_first base order (passed ++ d ∷ []) k ds n
              (subst (λ (x : List L). IsRead lits laws clauses x found) same read)
              (subst (λ (x : List L). AllByRecursion (IsSettled lits clauses x) order) same settled)
              (λ x here. elim (Contains-push_cases passed d x here) [
                | inl older ↦ all x older
                | inr is ↦ ap other (sym is) ∙ e
              ]) h
          | inr e ↦ number_later passed before all d has e order k (chosen_number lits laws base order clauses passed d k number)
        ]

  -- each model agrees on the order with the model found, or comes after it
  pub found_first : (clauses : List (List L)) (order : List L) (s : State L) (found other : L → Bool) → Comes lits clauses order s → EndsInModel lits clauses order s → IsRead lits laws (clauses ++ s.learned) s.decisions found → IsModel lits clauses other → IsNotAfter order found other
  found_first clauses order s found other (m, h) ends read model =
      elim (counted lits laws clauses order m s h) [
        | inl (n, le, floor) ↦
            stack_first (clauses ++ s.learned) found other (learned_implied lits laws clauses order other model s (m, h)) clauses order [] (2 ^ length order) s.decisions n read ends.settled (λ x none. absurd (omega (arith, none.1))) floor.stack
        | inr stopped ↦ absurd (ends.calm stopped.0.conflict)
      ]

  find_true : (set : L → Bool) (xs : List L) → ((x : L) × Contains xs x × (set x ≡ true)) ⊎ ((x : L) → Contains xs x → set x ≡ false)
  find_true set [] = inr (λ x h. absurd (omega (arith, h.1)))
  find_true set (y ∷ ys) =
      elim (bool_cases (set y)) [
        | inl e ↦ inl (y, Contains-head y ys, e)
        | inr e ↦ elim (find_true set ys) [
          | inl k ↦ inl (k.0, Contains-tail y ys k.0 k.1, k.2)
          | inr all ↦ inr (λ x h. elim (Contains-cons_cases y ys x h) [
            | inl is ↦ ap set (sym is) ∙ e
            | inr later ↦ all x later
          ])
        ]
      ]

  Contains-clause : (xs ys : List (List L)) (c : List L) → Contains xs c → Contains (xs ++ ys) c
  Contains-clause xs ys c h = Contains-append_left xs ys c h

  -- A closure that settles every literal of the clauses is a model, where no clause is empty.
  module _ (clauses more : List (List L)) (decisions : List L) (found : L → Bool) (read : IsRead lits laws (clauses ++ more) decisions found)
      (settled : (c : List L) → Contains clauses c → (l : L) → Contains c l → IsSettled lits (clauses ++ more) decisions l) where
    negated : (c : List L) → Contains clauses c → (l : L) → Contains c l → found l ≡ false → IsInClosure lits (clauses ++ more) decisions (lits.negation l)
    negated c at l here e = elim (settled c at l here) [
      | inl within ↦ absurd (true_is_false (found l) (read.has l within) e)
      | inr within ↦ within
    ]

    satisfied : (c : List L) → Contains clauses c → 0 < length c → Satisfies found c
    satisfied [] at some = absurd (omega (arith, some))
    satisfied (l ∷ ls) at some = elim (find_true found (l ∷ ls)) [
      | inl k ↦ k
      | inr none ↦
          let within : IsInClosure lits (clauses ++ more) decisions l = λ set closed.
          closed.each (l ∷ ls) (Contains-clause clauses more (l ∷ ls) at) l (Contains-head l ls)
          (λ x there apart. negated (l ∷ ls) at x there (none x there) set closed) in
          (l, Contains-head l ls, read.has l within)
    ]

    pub found_is_model : ((l : L) → found (lits.negation l) ≡ not (found l)) → ((c : List L) → Contains clauses c → 0 < length c) → IsModel lits clauses found
    found_is_model one some = record { one = one; each = λ c at. satisfied c at (some c at) }
