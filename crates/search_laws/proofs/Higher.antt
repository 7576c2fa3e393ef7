-- Each conflict that leaves a decision has a greater number than those before it.
use Rattle.std.proofs.Common.{◌≡◌, ℕ, zero, suc, ◌+◌, ◌^◌, ◌<◌, ◌≤◌, List, [], ◌∷◌, ◌++◌, sym, ◌∙◌, ap, inl, inr, arith, length, length-append, map, subst}
use Rattle.std.specs.Prelude.{Contains}
use Rattle.std.proofs.lemmas.Bool.{cases_eq, cases_lt}
use Rattle.std.proofs.lemmas.List.{append_cancel_left}
use Rattle.std.proofs.lemmas.List.Elements.{Contains-append_left, Contains-append_right, Contains-append_cases}
use Rattle.search_model.specs.Literals.{Literals, AreLiterals}
use Rattle.search_model.specs.Closure.{IsConflict}
use Rattle.search_model.specs.Search.{State, after}
use Rattle.search_model.specs.Turns.{Learns, EndsUnsatisfiable, Turn, Turns}
use Rattle.search_model.specs.Numbers.{IsNumber, WasDecided, HasNumber}
use Rattle.search_laws.proofs.Steps.{unsat_is_end}
use Rattle.search_laws.proofs.Implied.{trimmed_conflict}
use Rattle.search_laws.proofs.Numbers.{number_more, number_one, number_bound, number_positive}
use Rattle.search_laws.proofs.Rising.{IsCut, cut_of}
use Rattle.search_laws.proofs.Bound.{IsNumbered}
use Rattle.search_laws.proofs.Bounds.{IsFloor, numbered, step_leaves, empty_ends}
use Rattle.search_laws.proofs.After.{IsFront, later_front}
use Rattle.search_laws.proofs.Runs.{one_next, turns_after}

no_push : {X : Type 0} (xs : List X) (x : X) → [] ≡ xs ++ x ∷ [] → ⊥
no_push xs x e = let size : 0 ≡ length (xs ++ x ∷ []) = ap length e in absurd (omega (arith, size, length-append xs (x ∷ [])))

abbrev first_of : {X : Type 0} → X → List X → X
first_of none [] = none
first_of none (x ∷ xs) = x

module _ {L : Type 0} (lits : Literals L) (laws : AreLiterals lits) where
  module _ (clauses : List (List L)) (order : List L) where
    front_within : (a b : List (List L)) → IsFront lits laws clauses order a b → (c : List L) → Contains (clauses ++ a) c → Contains (clauses ++ b) c
    front_within a b (rest, e) c h =
        let P : List (List L) → Type 0 = λ k. Contains (clauses ++ k) c in
        subst P (sym e) (elim (Contains-append_cases clauses a c h) [
          | inl base ↦ Contains-append_left clauses (a ++ rest) c base
          | inr own ↦ Contains-append_right clauses (a ++ rest) c (Contains-append_left a rest c own)
        ])

    -- of two states the later has the clauses of the earlier
    run_within : (i j : ℕ) (s t : State L) → Turns lits clauses order i s → Turns lits clauses order j t → i ≤ j → (c : List L) → Contains (clauses ++ s.learned) c → Contains (clauses ++ t.learned) c
    run_within i j s t g h le =
        let P : State L → Type 0 = λ x. IsFront lits laws clauses order x.learned t.learned in
        let Q : State L → Type 0 = λ x. IsFront lits laws clauses order (after lits clauses order i).learned x.learned in
        front_within s.learned t.learned (subst P (turns_after lits laws clauses order i s g) (subst Q (turns_after lits laws clauses order j t h) (later_front lits laws clauses order i j le)))

    -- where one decision after the same ones was made twice, its numbers are the same
    earlier_same : (now now' : List (List L)) (passed : List L) (d : L) (n k : ℕ) (g : WasDecided lits clauses order now passed d n) (h : WasDecided lits clauses order now' passed d k) → g.comes.0 ≤ h.comes.0 → n ≡ k
    earlier_same now now' passed d n k g h le =
        let P : List L → Type 0 = λ ds. IsNumber lits (clauses ++ g.when.learned) ds order d n in
        let within = run_within g.comes.0 h.comes.0 g.when h.when g.comes.1 h.comes.1 le in
        let moved : IsNumber lits (clauses ++ h.when.learned) h.when.decisions order d n =
        number_more lits laws (clauses ++ g.when.learned) h.when.decisions (clauses ++ h.when.learned) h.when.decisions (record { clause = within; decision = λ x here. here }) order d n
        (subst P (g.at ∙ sym h.at) g.number) in
        number_one lits laws (clauses ++ h.when.learned) h.when.decisions order d n k h.calm h.first moved h.number

    chosen_same : (now now' : List (List L)) (passed : List L) (d : L) (n k : ℕ) → WasDecided lits clauses order now passed d n → WasDecided lits clauses order now' passed d k → n ≡ k
    chosen_same now now' passed d n k g h = elim (cases_lt g.comes.0 h.comes.0) [
      | inl less ↦ earlier_same now now' passed d n k g h (omega (arith, less))
      | inr more ↦ sym (earlier_same now' now passed d k n h g (omega (arith, more)))
    ]

    -- a conflict has one number
    pub one_number : (s t : State L) (n k : ℕ) → HasNumber lits clauses order s t n → HasNumber lits clauses order s t k → n ≡ k
    one_number s t n k g h =
        let same : g.last ∷ g.later ≡ h.last ∷ h.later = append_cancel_left t.decisions (g.last ∷ g.later) (h.last ∷ h.later) (sym g.whole ∙ h.whole) in
        let last : g.last ≡ h.last = ap (first_of g.last) same in
        let P : L → Type 0 = λ d. WasDecided lits clauses order (clauses ++ s.learned) t.decisions d n in
        chosen_same (clauses ++ s.learned) (clauses ++ s.learned) t.decisions h.last n k (subst P last g.decided) h.decided

    -- from a floor: a conflict that leaves a decision has a number above it
    leaves_number : (s t : State L) (p : ℕ) → IsFloor lits laws clauses order s p → (h : Learns lits clauses order s t) (cut : IsCut lits laws s.decisions h.left h.before) → (k : ℕ) × (p < k) × HasNumber lits clauses order s t k
    leaves_number s t p floor h cut =
        let (k, above, number, rest) = step_leaves lits laws clauses order s p h.left h.before cut floor in
        let kept : t.decisions ≡ h.before = ap (λ (x : State L). x.decisions) h.after in
        let P : List L → Type 0 = λ ds. s.decisions ≡ ds ++ cut.last ∷ cut.later in
        let Q : List L → Type 0 = λ ds. WasDecided lits clauses order (clauses ++ s.learned) ds cut.last k in
        (k, above, record { learns = h; others = cut.front; last = cut.last; left = cut.left_is; later = cut.later; whole = subst P (sym kept) cut.whole; decided = subst Q (sym kept) number })

    cut_from : (s t : State L) (h : Learns lits clauses order s t) → (h.left ≡ [] → ⊥) → IsCut lits laws s.decisions h.left h.before
    cut_from s t h some = elim (cut_of lits laws (clauses ++ s.learned) s.decisions h.left h.before h.trimmed) [
      | inl none ↦ absurd (some none.0)
      | inr cut ↦ cut
    ]

    -- the floor of a state from which the search goes on
    floor_at : (m : ℕ) (s t : State L) (run : Turns lits clauses order m s) → Learns lits clauses order s t → (p : ℕ) × IsNumbered lits laws clauses order m s run p × IsFloor lits laws clauses order s p
    floor_at m s t run h = elim (numbered lits laws clauses order m s run) [
      | inl floor ↦ floor
      | inr ends ↦ absurd (unsat_is_end lits laws clauses order s t ends (inr h))
    ]

    pub some_number : (m : ℕ) (s t : State L) → Turns lits clauses order m s → (h : Learns lits clauses order s t) → (h.left ≡ [] → ⊥) → (n : ℕ) × HasNumber lits clauses order s t n
    some_number m s t run h some =
        let (p, marks, floor) = floor_at m s t run h in
        let (k, above, number) = leaves_number s t p floor h (cut_from s t h some) in
        (k, number)

    -- no later number is less
    module _ (i : ℕ) (u v : State L) (n : ℕ) (run : Turns lits clauses order i u) (number : HasNumber lits clauses order u v n) where
      same_state : (s : State L) → Turns lits clauses order i s → u ≡ s
      same_state s h = sym (turns_after lits laws clauses order i u run) ∙ turns_after lits laws clauses order i s h

      at_turn : (e s : State L) → Turns lits clauses order i e → Turn lits clauses order e s → HasNumber lits clauses order e s n
      at_turn e s h turn =
          let P : State L → Type 0 = λ x. HasNumber lits clauses order x v n in
          let here : HasNumber lits clauses order e v n = subst P (same_state e h) number in
          subst (λ (x : State L). HasNumber lits clauses order e x n) (one_next lits laws clauses order e v s (inr here.learns) turn) here

      at_most : (m : ℕ) (s : State L) (h : Turns lits clauses order m s) (p : ℕ) → IsNumbered lits laws clauses order m s h p → i < m → n ≤ p
      at_most zero s h p marks less = absurd (omega (arith, less))
      at_most (suc m) s (e, h, turn) p (inl (same, marks)) less = elim (cases_eq i m) [
        | inl is ↦
            let P : ℕ → Type 0 = λ k. Turns lits clauses order k e in
            let here : HasNumber lits clauses order e s n = at_turn e s (subst P (sym is) h) turn in
            let more : length s.learned ≡ length e.learned + 1 = ap (λ (x : State L). length x.learned) here.learns.after ∙ length-append e.learned (map lits.negation here.learns.left ∷ []) in
            let size : length s.learned ≡ length e.learned = ap length same in
            absurd (omega (arith, more, size))
        | inr apart ↦ at_most m e h p marks (omega (arith, less, apart))
      ]
      at_most (suc m) s (e, h, turn) p (inr (k, above, own, marks)) less = elim (cases_eq i m) [
        | inl is ↦
            let P : ℕ → Type 0 = λ x. Turns lits clauses order x e in
            let here : HasNumber lits clauses order e s n = at_turn e s (subst P (sym is) h) turn in
            let same : n ≡ p = one_number e s n p here own in
            omega (arith, same)
        | inr apart ↦
            let before : n ≤ k = at_most m e h k marks (omega (arith, less, apart)) in
            omega (arith, before, above)
      ]

      pub rises : (j : ℕ) (s t : State L) (k : ℕ) → i < j → Turns lits clauses order j s → HasNumber lits clauses order s t k → n < k
      rises j s t k less later other =
          let (p, marks, floor) = floor_at j s t later other.learns in
          let before : n ≤ p = at_most j s later p marks less in
          let some : other.learns.left ≡ [] → ⊥ = λ none. no_push other.others other.last (sym none ∙ other.left) in
          let (q, above, mine) = leaves_number s t p floor other.learns (cut_from s t other.learns some) in
          let same : k ≡ q = one_number s t k q other mine in
          omega (arith, before, above, same)

    pub number_within : (s t : State L) (n : ℕ) → HasNumber lits clauses order s t n → (0 < n) × (n < 2 ^ length order)
    number_within s t n h = (
      number_positive lits laws (clauses ++ h.decided.when.learned) h.decided.when.decisions order h.last n h.decided.number,
      number_bound lits laws (clauses ++ h.decided.when.learned) h.decided.when.decisions order h.last n h.decided.number,
    )

    -- where no decision is left the next state is the end
    pub none_left_ends : (s t : State L) (h : Learns lits clauses order s t) → h.left ≡ [] → EndsUnsatisfiable lits clauses order t
    none_left_ends s t h none = elim (cut_of lits laws (clauses ++ s.learned) s.decisions h.left h.before h.trimmed) [
      | inl empty ↦
          let conflict : IsConflict lits (clauses ++ s.learned) h.left = trimmed_conflict lits laws (clauses ++ s.learned) [] [] [] s.decisions h.left h.before h.conflict h.trimmed in
          subst (EndsUnsatisfiable lits clauses order) (sym h.after) (empty_ends lits laws clauses order s h.left h.before empty.0 empty.1 conflict)
      | inr cut ↦ absurd (no_push cut.front cut.last (sym none ∙ cut.left_is))
    ]
