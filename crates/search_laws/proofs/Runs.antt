-- A state is followed by one, and the search's run is the one run of its turns.
use Rattle.std.proofs.Common.{◌≡◌, ℕ, zero, suc, ◌+◌, List, [], ◌∷◌, ◌++◌, refl, sym, ◌∙◌, ap, inl, inr, length, length-append, map, subst}
use Rattle.std.specs.Prelude.{◌⊎◌, Option, Some, None}
use Rattle.std.specs.List.{AllByRecursion}
use Rattle.search_model.specs.Literals.{Literals, AreLiterals}
use Rattle.search_model.specs.Closure.{IsSettled}
use Rattle.search_model.specs.Search.{State, turn, after, search_end}
use Rattle.search_model.specs.Turns.{IsFirstOpen, IsTrimmed, Turn, Ends, Turns, Comes, HasCounted}
use Rattle.search_laws.proofs.Steps.{unsat_is_end}
use Rattle.search_laws.proofs.After.{turn_some, turn_none, after_zero, after_next, end_stops, stopped_is_end}

module _ {L : Type 0} (lits : Literals L) (laws : AreLiterals lits) where
  module _ (clauses : List (List L)) (decisions : List L) where
    first_one : (order : List L) (l m : L) → IsFirstOpen lits clauses decisions order l → IsFirstOpen lits clauses decisions order m → l ≡ m
    first_one [] l m g h = absurd g
    first_one (o ∷ os) l m (inl g) (inl h) = g.1 ∙ sym h.1
    first_one (o ∷ os) l m (inl g) (inr h) = absurd (g.0 h.0)
    first_one (o ∷ os) l m (inr g) (inl h) = absurd (h.0 g.0)
    first_one (o ∷ os) l m (inr g) (inr h) = first_one os l m g.1 h.1

    first_not_settled : (order : List L) (l : L) → IsFirstOpen lits clauses decisions order l → AllByRecursion (IsSettled lits clauses decisions) order → ⊥
    first_not_settled [] l g h = absurd g
    first_not_settled (o ∷ os) l (inl g) h = g.0 h.0
    first_not_settled (o ∷ os) l (inr g) h = first_not_settled os l g.1 h.1

  trimmed_one : (clauses : List (List L)) (so_far passed stem rest left before left' before' : List L) → IsTrimmed lits clauses so_far passed stem rest left before → IsTrimmed lits clauses so_far passed stem rest left' before'
      → (left ≡ left') × (before ≡ before')
  trimmed_one clauses so_far passed stem [] left before left' before' g h = (g.0 ∙ sym h.0, g.1 ∙ sym h.1)
  trimmed_one clauses so_far passed stem (d ∷ ds) left before left' before' (inl g) (inl h) = trimmed_one clauses so_far (passed ++ d ∷ []) stem ds left before left' before' g.1 h.1
  trimmed_one clauses so_far passed stem (d ∷ ds) left before left' before' (inl g) (inr h) = absurd (h.0 g.0)
  trimmed_one clauses so_far passed stem (d ∷ ds) left before left' before' (inr g) (inl h) = absurd (g.0 h.0)
  trimmed_one clauses so_far passed stem (d ∷ ds) left before left' before' (inr g) (inr h) = trimmed_one clauses (so_far ++ d ∷ []) (passed ++ d ∷ []) passed ds left before left' before' g.1 h.1

  module _ (clauses : List (List L)) (order : List L) where
    pub one_next : (s t u : State L) → Turn lits clauses order s t → Turn lits clauses order s u → t ≡ u
    one_next s t u (inl g) (inl h) =
        g.after
        ∙ ap (λ (l : L). record { decisions = s.decisions ++ l ∷ []; learned = s.learned }) (first_one (clauses ++ s.learned) s.decisions order g.literal h.literal g.first h.first)
        ∙ sym h.after
    one_next s t u (inl g) (inr h) = absurd (g.calm h.conflict)
    one_next s t u (inr g) (inl h) = absurd (h.calm g.conflict)
    one_next s t u (inr g) (inr h) =
        let same = trimmed_one (clauses ++ s.learned) [] [] [] s.decisions g.left g.before h.left h.before g.trimmed h.trimmed in
        g.after
        ∙ ap (λ (ds : List L). record { decisions = ds; learned = s.learned ++ map lits.negation g.left ∷ [] }) same.1
        ∙ ap (λ (ds : List L). record { decisions = h.before; learned = s.learned ++ map lits.negation ds ∷ [] }) same.0
        ∙ sym h.after

    pub end_is_last : (s t : State L) → Ends lits clauses order s → Turn lits clauses order s t → ⊥
    end_is_last s t (inl g) (inl h) = first_not_settled (clauses ++ s.learned) s.decisions order h.literal h.first g.settled
    end_is_last s t (inl g) (inr h) = g.calm h.conflict
    end_is_last s t (inr g) h = unsat_is_end lits laws clauses order s t g h

    some_turn : (s t : State L) (o : Option (State L)) → turn lits clauses order s ≡ o → Turn lits clauses order s t → turn lits clauses order s ≡ Some t
    some_turn s t None e h = absurd (end_is_last s t (turn_none lits laws clauses order s e) h)
    some_turn s t (Some u) e h = e ∙ ap (λ (x : State L). Some x) (one_next s u t (turn_some lits laws clauses order s u e) h)

    pub turn_is : (s t : State L) → Turn lits clauses order s t → turn lits clauses order s ≡ Some t
    turn_is s t h = some_turn s t (turn lits clauses order s) refl h

    none_turn : (s : State L) (o : Option (State L)) → turn lits clauses order s ≡ o → Ends lits clauses order s → turn lits clauses order s ≡ None
    none_turn s None e h = e
    none_turn s (Some t) e h = absurd (end_is_last s t h (turn_some lits laws clauses order s t e))

    pub end_is : (s : State L) → Ends lits clauses order s → turn lits clauses order s ≡ None
    end_is s h = none_turn s (turn lits clauses order s) refl h

    next_or_end : (s : State L) (o : Option (State L)) → turn lits clauses order s ≡ o → ((t : State L) × Turn lits clauses order s t) ⊎ Ends lits clauses order s
    next_or_end s None e = inr (turn_none lits laws clauses order s e)
    next_or_end s (Some t) e = inl (t, turn_some lits laws clauses order s t e)

    pub turns_or_ends : (s : State L) → ((t : State L) × Turn lits clauses order s t) ⊎ Ends lits clauses order s
    turns_or_ends s = next_or_end s (turn lits clauses order s) refl

    pub turns_after : (n : ℕ) (s : State L) → Turns lits clauses order n s → after lits clauses order n ≡ s
    turns_after zero s h = after_zero lits laws clauses order ∙ sym h
    turns_after (suc n) s (e, h, next) =
        after_next lits laws clauses order n s (ap (turn lits clauses order) (turns_after n e h) ∙ turn_is e s next)

    pub come_to_end : (s : State L) → Comes lits clauses order s → Ends lits clauses order s → s ≡ search_end lits clauses order
    come_to_end s (n, h) ends =
        let here : after lits clauses order n ≡ s = turns_after n s h in
        sym here ∙ stopped_is_end lits laws clauses order n (ap (turn lits clauses order) here ∙ end_is s ends)

    pub the_end : Ends lits clauses order (search_end lits clauses order)
    the_end = turn_none lits laws clauses order (search_end lits clauses order) (end_stops lits laws clauses order)

    -- each conflict counted gave one learned clause
    pub has_counted : (n : ℕ) (s : State L) (run : Turns lits clauses order n s) → HasCounted lits clauses order n s run (length s.learned)
    has_counted zero s run = ap (λ (x : State L). length x.learned) run
    has_counted (suc n) s (e, run, inl h) =
        let same : length e.learned ≡ length s.learned = sym (ap (λ (x : State L). length x.learned) h.after) in
        subst (HasCounted lits clauses order n e run) same (has_counted n e run)
    has_counted (suc n) s (e, run, inr h) =
        let more : length s.learned ≡ length e.learned + 1 = ap (λ (x : State L). length x.learned) h.after ∙ length-append e.learned (map lits.negation h.left ∷ []) in
        (length e.learned, more, has_counted n e run)

    pub counted_one : (n : ℕ) (s : State L) (run : Turns lits clauses order n s) (i j : ℕ) → HasCounted lits clauses order n s run i → HasCounted lits clauses order n s run j → i ≡ j
    counted_one zero s run i j g h = g ∙ sym h
    counted_one (suc n) s (e, run, inl turned) i j g h = counted_one n e run i j g h
    counted_one (suc n) s (e, run, inr turned) i j (a, ga, gb) (b, ha, hb) = ga ∙ ap (λ k. k + 1) (counted_one n e run a b gb hb) ∙ sym ha
