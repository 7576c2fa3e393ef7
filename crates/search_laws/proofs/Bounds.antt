-- The search's conflicts are bounded.
-- n is the number of the last conflict (0 before the first): the closure has its digits, and each decision's number is above it.
use Rattle.std.proofs.Common.{◌≡◌, ℕ, zero, suc, ◌+◌, ◌^◌, ◌<◌, ◌≤◌, Bool, List, [], ◌∷◌, ◌++◌, refl, sym, ◌∙◌, ap, inl, inr, arith, length, map, subst, append_assoc, length-append}
use Rattle.std.specs.Prelude.{Contains, ◌⊎◌}
use Rattle.std.proofs.lemmas.List.Elements.{Contains-append_left}
use Rattle.search_model.specs.Literals.{Literals, AreLiterals}
use Rattle.search_model.specs.Closure.{IsInClosure, IsConflict}
use Rattle.search_model.specs.Search.{State, start}
use Rattle.search_model.specs.Turns.{IsFirstOpen, Learns, Turn, EndsUnsatisfiable, Turns, Comes}
use Rattle.search_laws.proofs.Steps.{unsat_is_end}
use Rattle.search_model.specs.Model.{IsModel}
use Rattle.search_model.specs.Numbers.{WasDecided, HasNumber}
use Rattle.search_laws.proofs.Rise.{IsStack}
use Rattle.search_laws.proofs.Bound.{IsNumbered}
use Rattle.search_laws.proofs.Implied.{trimmed_conflict, unsatisfiable_no_model}
use Rattle.search_laws.proofs.Numbers.{IsWithin, IsBelow, closure_more, below_more, number_below, first_number, below_first, number_bound, below_zero, positive}
use Rattle.search_laws.proofs.Rising.{IsCut, cut_of, last_negated, stack_bound, stack_push, stack_cut, stack_more, chosen_number}

module _ {L : Type 0} (lits : Literals L) (laws : AreLiterals lits) where
  pub record IsFloor (clauses : List (List L)) (order : List L) (s : State L) (n : ℕ) : Type 0 where
    pub below : IsBelow lits laws (clauses ++ s.learned) s.decisions order n
    pub stack : IsStack lits laws clauses (clauses ++ s.learned) order [] (2 ^ length order) s.decisions n

  -- What a turn leaves: the floor stays, or it rises to the number of the conflict that was counted, or the end is reached.
  pub data Step (clauses : List (List L)) (order : List L) (s t : State L) (n : ℕ) : Type 0 where
    decided : (t.learned ≡ s.learned) → (length t.decisions ≡ length s.decisions + 1) → IsFloor clauses order t n → Step clauses order s t n
    rose : (k : ℕ) → n < k → HasNumber lits clauses order s t k → (length t.learned ≡ length s.learned + 1) → IsFloor clauses order t k → Step clauses order s t n
    ended : EndsUnsatisfiable lits clauses order t → (length t.learned ≡ length s.learned + 1) → Step clauses order s t n

  module _ (clauses : List (List L)) (order : List L) where
    pub start_floor : IsFloor clauses order start 0
    start_floor = record { below = below_zero lits laws (clauses ++ []) [] order; stack = positive lits laws (length order) }

    step_decides : (s : State L) (n : ℕ) (l : L) → Comes lits clauses order s → IsFloor clauses order s n → (IsConflict lits (clauses ++ s.learned) s.decisions → ⊥) → IsFirstOpen lits (clauses ++ s.learned) s.decisions order l
        → IsFloor clauses order (record { decisions = s.decisions ++ l ∷ []; learned = s.learned }) n
    step_decides s n l comes floor calm first =
        let (k, number) = first_number lits laws (clauses ++ s.learned) s.decisions order l first in
        let above : n < k = below_first lits laws (clauses ++ s.learned) s.decisions order l n k calm first floor.below number in
        let chosen : WasDecided lits clauses order (clauses ++ s.learned) s.decisions l k = record { when = s; comes = comes; at = refl; grown = λ c here. here; calm = calm; first = first; number = number } in
        let lt : k < 2 ^ length order = number_bound lits laws (clauses ++ s.learned) s.decisions order l k number in
        let within : IsWithin lits laws (clauses ++ s.learned) s.decisions (clauses ++ s.learned) (s.decisions ++ l ∷ []) = record { clause = λ c here. here; decision = λ x here. Contains-append_left s.decisions (l ∷ []) x here } in
        record {
          below = below_more lits laws (clauses ++ s.learned) s.decisions (clauses ++ s.learned) (s.decisions ++ l ∷ []) within order n floor.below;
          stack = stack_push lits laws clauses order (clauses ++ s.learned) [] (2 ^ length order) s.decisions n l k calm first number chosen above lt floor.stack;
        }

    -- a conflict that leaves a decision
    pub step_leaves : (s : State L) (n : ℕ) (left before : List L) (cut : IsCut lits laws s.decisions left before) → IsFloor clauses order s n
        → (k : ℕ) × (n < k) × WasDecided lits clauses order (clauses ++ s.learned) before cut.last k × IsFloor clauses order (record { decisions = before; learned = s.learned ++ map lits.negation left ∷ [] }) k
    step_leaves s n left before cut floor =
        let old : List (List L) = clauses ++ s.learned in
        let new : List (List L) = old ++ map lits.negation left ∷ [] in
        let same : new ≡ clauses ++ (s.learned ++ map lits.negation left ∷ []) = append_assoc clauses s.learned (map lits.negation left ∷ []) in
        let P : List L → Type 0 = λ ds. IsStack lits laws clauses old order [] (2 ^ length order) ds n in
        let (k, above, number, rest) = stack_cut lits laws clauses order old [] (2 ^ length order) before cut.last cut.later n (subst P cut.whole floor.stack) in
        let grows : (c : List L) → Contains old c → Contains new c = λ c here. Contains-append_left old (map lits.negation left ∷ []) c here in
        let within : IsWithin lits laws old before new before = record { clause = grows; decision = λ x here. here } in
        let B : List (List L) → Type 0 = λ cs. IsBelow lits laws cs before order k in
        let S : List (List L) → Type 0 = λ cs. IsStack lits laws clauses cs order [] (2 ^ length order) before k in (
          k,
          above,
          number,
          record {
            below = subst B same (number_below lits laws old before new before within order cut.last k (last_negated lits laws old s.decisions left before cut) (chosen_number lits laws clauses order old before cut.last k number));
            stack = subst S same (stack_more lits laws clauses order old new grows [] (2 ^ length order) before k rest);
          },
        )

    pub empty_ends : (s : State L) (left before : List L) → left ≡ [] → before ≡ [] → IsConflict lits (clauses ++ s.learned) left → EndsUnsatisfiable lits clauses order (record { decisions = before; learned = s.learned ++ map lits.negation left ∷ [] })
    empty_ends s left before none empty (l, here, there) =
        let within : IsWithin lits laws (clauses ++ s.learned) left (clauses ++ (s.learned ++ map lits.negation left ∷ [])) before = record {
          clause = λ c at. (let P : List (List L) → Type 0 = λ cs. Contains cs c in subst P (append_assoc clauses s.learned (map lits.negation left ∷ [])) (Contains-append_left (clauses ++ s.learned) (map lits.negation left ∷ []) c at));
          decision = λ x at. (let P : List L → Type 0 = λ ds. Contains ds x in subst P (none ∙ sym empty) at);
        } in
        let more : (x : L) → IsInClosure lits (clauses ++ s.learned) left x → IsInClosure lits (clauses ++ (s.learned ++ map lits.negation left ∷ [])) before x =
        closure_more lits laws (clauses ++ s.learned) left (clauses ++ (s.learned ++ map lits.negation left ∷ [])) before within in
        record { conflict = (l, more l here, more (lits.negation l) there); none = empty }

    floor_bound : (s : State L) (n : ℕ) → IsFloor clauses order s n → n < 2 ^ length order
    floor_bound s n floor = stack_bound lits laws clauses order (clauses ++ s.learned) [] (2 ^ length order) s.decisions n floor.stack

    pub step : (s t : State L) (n : ℕ) → Comes lits clauses order s → IsFloor clauses order s n → Turn lits clauses order s t → Step clauses order s t n
    step s t n comes floor (inl h) =
        let P : State L → Type 0 = λ x. Step clauses order s x n in
        subst P (sym h.after) (decided refl (length-append s.decisions (h.literal ∷ [])) (step_decides s n h.literal comes floor h.calm h.first))
    step s t n comes floor (inr h) =
        let P : State L → Type 0 = λ x. Step clauses order s x n in
        let count : length (s.learned ++ map lits.negation h.left ∷ []) ≡ length s.learned + 1 = length-append s.learned (map lits.negation h.left ∷ []) in
        subst P (sym h.after) (elim (cut_of lits laws (clauses ++ s.learned) s.decisions h.left h.before h.trimmed) [
          | inl none ↦
              let conflict : IsConflict lits (clauses ++ s.learned) h.left = trimmed_conflict lits laws (clauses ++ s.learned) [] [] [] s.decisions h.left h.before h.conflict h.trimmed in
              ended (empty_ends s h.left h.before none.0 none.1 conflict) count
          | inr cut ↦
              let (k, above, number, rest) = step_leaves s n h.left h.before cut floor in
              let learns : Learns lits clauses order s (record { decisions = h.before; learned = s.learned ++ map lits.negation h.left ∷ [] }) =
              record { conflict = h.conflict; some = h.some; left = h.left; before = h.before; trimmed = h.trimmed; after = refl } in
              rose k above (record { learns = learns; others = cut.front; last = cut.last; left = cut.left_is; later = cut.later; whole = cut.whole; decided = number }) count rest
        ])

    abbrev Counted : State L → Type 0
    Counted s = ((n : ℕ) × (length s.learned ≤ n) × IsFloor clauses order s n) ⊎ (EndsUnsatisfiable lits clauses order s × (length s.learned ≤ 2 ^ length order))

    count_step : (e s : State L) (n : ℕ) → length e.learned ≤ n → IsFloor clauses order e n → Step clauses order e s n → Counted s
    count_step e s n le floor (decided same more next) = let count : length s.learned ≡ length e.learned = ap length same in inl (n, omega (arith, count), next)
    count_step e s n le floor (rose k above leaves count next) = inl (k, omega arith, next)
    count_step e s n le floor (ended ends count) = inr (ends, omega (arith, floor_bound e n floor))

    -- Up to now each conflict left a decision, and they are at most the last one's number; or the search has ended.
    pub counted : (m : ℕ) (s : State L) → Turns lits clauses order m s → Counted s
    counted zero s h =
        let P : State L → Type 0 = λ x. (n : ℕ) × (length x.learned ≤ n) × IsFloor clauses order x n in
        inl (subst P (sym h) (0, omega arith, start_floor))
    counted (suc m) s (e, h, turn) =
        elim (counted m e h) [
          | inl (n, le, floor) ↦ count_step e s n le floor (step e s n (m, h) floor turn)
          | inr (ends, le) ↦ absurd (unsat_is_end lits laws clauses order e s ends turn)
        ]

    -- the conflicts are at most 2^k - 1, and one more where the last leaves no decision
    pub conflicts_bound : (s : State L) → Comes lits clauses order s → (length s.learned < 2 ^ length order) ⊎ (EndsUnsatisfiable lits clauses order s × (length s.learned ≤ 2 ^ length order))
    conflicts_bound s (m, h) = elim (counted m s h) [
      | inl (n, le, floor) ↦ inl (omega (arith, le, floor_bound s n floor))
      | inr ends ↦ inr ends
    ]

    -- where there is a model, at most 2^k - 1
    pub conflicts_with_model : (set : L → Bool) → IsModel lits clauses set → (s : State L) → Comes lits clauses order s → length s.learned < 2 ^ length order
    conflicts_with_model set model s h = elim (conflicts_bound s h) [
      | inl lt ↦ lt
      | inr ends ↦ absurd (unsatisfiable_no_model lits laws clauses order set model s h ends.0)
    ]

    number_step : (m : ℕ) (e s : State L) (h : Turns lits clauses order m e) (turn : Turn lits clauses order e s) (n : ℕ) → IsNumbered lits laws clauses order m e h n → Step clauses order e s n
        → ((k : ℕ) × IsNumbered lits laws clauses order (suc m) s (e, h, turn) k × IsFloor clauses order s k) ⊎ EndsUnsatisfiable lits clauses order s
    number_step m e s h turn n so_far (decided same more next) = inl (n, inl (same, so_far), next)
    number_step m e s h turn n so_far (rose k above leaves count next) = inl (k, inr (n, above, leaves, so_far), next)
    number_step m e s h turn n so_far (ended ends count) = inr ends

    -- Each run is numbered, until it ends as unsatisfiable.
    pub numbered : (m : ℕ) (s : State L) (h : Turns lits clauses order m s) → ((n : ℕ) × IsNumbered lits laws clauses order m s h n × IsFloor clauses order s n) ⊎ EndsUnsatisfiable lits clauses order s
    numbered zero s h =
        let P : State L → Type 0 = λ x. IsFloor clauses order x 0 in
        inl (0, refl, subst P (sym h) start_floor)
    numbered (suc m) s (e, h, turn) =
        elim (numbered m e h) [
          | inl (n, so_far, floor) ↦ number_step m e s h turn n so_far (step e s n (m, h) floor turn)
          | inr ends ↦ absurd (unsat_is_end lits laws clauses order e s ends turn)
        ]
