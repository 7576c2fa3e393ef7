-- Trimming by passes leaves the same decisions.
use Rattle.std.proofs.Common.{◌≡◌, ℕ, zero, suc, ◌+◌, ◌-◌, ◌≤◌, Bool, true, false, List, [], ◌∷◌, ◌++◌, refl, sym, ◌∙◌, ap, inl, inr, arith, length, length-append, subst, append_assoc, append-nil, take}
use Rattle.std.specs.Prelude.{◌⊎◌, Contains, reverse, if◌then◌else◌}
use Rattle.std.proofs.Math.Seq.{take-append_seam}
use Rattle.std.proofs.lemmas.List.{nil_from_length, reverse-reverse}
use Rattle.std.proofs.lemmas.Grind.{reverse_onto}
use Rattle.std.proofs.lemmas.List.Elements.{Contains-append_left, Contains-append_right, Contains-append_cases, Contains-push_cases, Contains-push}
use Rattle.search_model.specs.Literals.{Literals, AreLiterals}
use Rattle.search_model.specs.Closure.{IsClosed}
use Rattle.search_model.specs.Tests.{is_conflict}
use Rattle.search_model.specs.Search.{Trimmed, trimmed, trim}
use Rattle.search_model.specs.Growing.{IsMonotone, grown_end, keep_first, passes, trim_by_passes}
use Rattle.search_laws.proofs.ListLemmas.{bool_cases, true_is_false, Contains-head, Contains-tail, Contains-cons_cases}
use Rattle.search_laws.proofs.TestLemmas.{conflict_is, is_conflicting}

module _ {L : Type 0} where
  -- both lists have the same elements
  pub record AreSame (xs ys : List L) : Type 0 where
    pub there : (l : L) → Contains xs l → Contains ys l
    pub back : (l : L) → Contains ys l → Contains xs l

  pub same_itself : (xs : List L) → AreSame xs (xs ++ [])
  same_itself xs = record { there = λ l h. Contains-append_left xs [] l h; back = λ l h. subst (λ (ys : List L). Contains ys l) (append-nil xs) h }

  pub same_more : (tried left end : List L) (d : L) → AreSame tried (left ++ end) → AreSame (tried ++ d ∷ []) (left ++ d ∷ end)
  same_more tried left end d same = record {
    there = λ l h. elim (Contains-push_cases tried d l h) [
      | inl before ↦ elim (Contains-append_cases left end l (same.there l before)) [
        | inl here ↦ Contains-append_left left (d ∷ end) l here
        | inr later ↦ Contains-append_right left (d ∷ end) l (Contains-tail d end l later)
      ]
      | inr is ↦ Contains-append_right left (d ∷ end) l (subst (λ x. Contains (d ∷ end) x) is (Contains-head d end))
    ];
    back = λ l h. elim (Contains-append_cases left (d ∷ end) l h) [
      | inl here ↦ Contains-append_left tried (d ∷ []) l (same.back l (Contains-append_left left end l here))
      | inr later ↦ elim (Contains-cons_cases d end l later) [
        | inl is ↦ subst (λ x. Contains (tried ++ d ∷ []) x) is (Contains-push tried d)
        | inr at ↦ Contains-append_left tried (d ∷ []) l (same.back l (Contains-append_right left end l at))
      ]
    ];
  }

  reverse_cons : (d : L) (earlier end : List L) → reverse (d ∷ earlier) ++ end ≡ reverse earlier ++ d ∷ end
  reverse_cons d earlier end = ap (λ (xs : List L). xs ++ end) (reverse_onto earlier d []) ∙ append_assoc (reverse earlier) (d ∷ []) end

  module _ (test : List L → Bool) where
    pub trimmed_none : (t : Trimmed L) (passed : List L) → trimmed test t passed [] ≡ t
    unfolding trimmed
    trimmed_none t passed = refl

    pub trimmed_drop : (t : Trimmed L) (passed : List L) (d : L) (rest : List L) → test (t.left ++ rest) ≡ true → trimmed test t passed (d ∷ rest) ≡ trimmed test t (passed ++ d ∷ []) rest
    unfolding trimmed
    trimmed_drop t passed d rest e = ap (λ b. trimmed test (if b then t else record { left = t.left ++ d ∷ []; before = passed }) (passed ++ d ∷ []) rest) e

    pub trimmed_keep : (t : Trimmed L) (passed : List L) (d : L) (rest : List L) → test (t.left ++ rest) ≡ false → trimmed test t passed (d ∷ rest) ≡ trimmed test (record { left = t.left ++ d ∷ []; before = passed }) (passed ++ d ∷ []) rest
    unfolding trimmed
    trimmed_keep t passed d rest e = ap (λ b. trimmed test (if b then t else record { left = t.left ++ d ∷ []; before = passed }) (passed ++ d ∷ []) rest) e

    grown_more : (tried end : List L) (d : L) (earlier : List L) → test tried ≡ false → grown_end test tried end (d ∷ earlier) ≡ grown_end test (tried ++ d ∷ []) (d ∷ end) earlier
    unfolding grown_end
    grown_more tried end d earlier e = ap (λ b. if b then end else grown_end test (tried ++ d ∷ []) (d ∷ end) earlier) e

    grown_stops : (tried end : List L) (d : L) (earlier : List L) → test tried ≡ true → grown_end test tried end (d ∷ earlier) ≡ end
    unfolding grown_end
    grown_stops tried end d earlier e = ap (λ b. if b then end else grown_end test (tried ++ d ∷ []) (d ∷ end) earlier) e

    grown_all : (tried end : List L) → grown_end test tried end [] ≡ end
    unfolding grown_end
    grown_all tried end = refl

    passes_none : (decisions : List L) (t : Trimmed L) (rest : List L) → passes test decisions zero t rest ≡ t
    unfolding passes
    passes_none decisions t rest = refl

    passes_next : (decisions : List L) (n : ℕ) (t : Trimmed L) (rest : List L) → passes test decisions (suc n) t rest ≡ keep_first (λ t later. passes test decisions n t later) decisions t (grown_end test t.left [] (reverse rest))
    unfolding passes
    passes_next decisions n t rest = refl

    -- without its first decision the end fails
    abbrev pub IsLeast : List L → List L → Type 0
    IsLeast left end = (d : L) (later : List L) → end ≡ d ∷ later → test (left ++ later) ≡ false

    -- the rest ends in the shortest end that passes with those left, or fails
    pub record IsCut (left rest end : List L) : Type 0 where
      pub front : List L
      pub is : rest ≡ front ++ end
      pub passes : (test (left ++ end) ≡ true) ⊎ (front ≡ [])
      pub least : IsLeast left end

    module _ (monotone : IsMonotone test) where
      pub fails : (few more : List L) → ((l : L) → Contains few l → Contains more l) → test more ≡ false → test few ≡ false
      fails few more within e = elim (bool_cases (test few)) [
        | inl passed ↦ absurd (true_is_false (test more) (monotone few more within passed) e)
        | inr failed ↦ failed
      ]

      cut_by : (left tried end earlier : List L) → AreSame tried (left ++ end) → IsLeast left end → IsCut left (reverse earlier ++ end) (grown_end test tried end earlier)
      cut_by left tried end [] same least =
          subst (IsCut left end) (sym (grown_all tried end)) (record { front = []; is = refl; passes = inr refl; least = least })
      cut_by left tried end (d ∷ earlier) same least = elim (bool_cases (test tried)) [
        | inl e ↦
            let cut : IsCut left (reverse (d ∷ earlier) ++ end) end = record { front = reverse (d ∷ earlier); is = refl; passes = inl (monotone tried (left ++ end) same.there e); least = least } in
            subst (IsCut left (reverse (d ∷ earlier) ++ end)) (sym (grown_stops tried end d earlier e)) cut
        | inr e ↦
            let failed : test (left ++ end) ≡ false = fails (left ++ end) tried same.back e in
            let tail_of : List L → List L = λ xs. elim xs [ [] ↦ [] | y ∷ ys ↦ ys ] in
            let least_more : IsLeast left (d ∷ end) = λ o later is. subst (λ (xs : List L). test (left ++ xs) ≡ false) (ap tail_of is) failed in
            let cut : IsCut left (reverse earlier ++ d ∷ end) (grown_end test (tried ++ d ∷ []) (d ∷ end) earlier) = cut_by left (tried ++ d ∷ []) (d ∷ end) earlier (same_more tried left end d same) least_more in
            subst (IsCut left (reverse (d ∷ earlier) ++ end)) (sym (grown_more tried end d earlier e))
            (subst (λ (xs : List L). IsCut left xs (grown_end test (tried ++ d ∷ []) (d ∷ end) earlier)) (sym (reverse_cons d earlier end)) cut)
      ]

      -- What stands before an end that passes is dropped.
      pub trimmed_skips : (t : Trimmed L) (passed front end : List L) → test (t.left ++ end) ≡ true → trimmed test t passed (front ++ end) ≡ trimmed test t (passed ++ front) end
      trimmed_skips t passed [] end e = ap (λ (p : List L). trimmed test t p end) (sym (append-nil passed))
      trimmed_skips t passed (d ∷ front) end e =
          let within : (l : L) → Contains (t.left ++ end) l → Contains (t.left ++ (front ++ end)) l = λ l h. elim (Contains-append_cases t.left end l h) [
            | inl here ↦ Contains-append_left t.left (front ++ end) l here
            | inr later ↦ Contains-append_right t.left (front ++ end) l (Contains-append_right front end l later)
          ] in
          trimmed_drop t passed d (front ++ end) (monotone (t.left ++ end) (t.left ++ (front ++ end)) within e)
          ∙ trimmed_skips t (passed ++ d ∷ []) front end e
          ∙ ap (λ (p : List L). trimmed test t p end) (append_assoc passed (d ∷ []) front)

      stem_is : (decisions front end : List L) → decisions ≡ front ++ end → take (length decisions - length end) decisions ≡ front
      stem_is decisions front end is =
          let size : length decisions ≡ length front + length end = ap length is ∙ length-append front end in
          let stands : length decisions - length end ≡ length front = omega (arith, size) in
          ap (λ (k : ℕ). take k decisions) stands ∙ ap (take (length front)) is ∙ take-append_seam front end

      abbrev AgreeIn : ℕ → Type 0
      AgreeIn n = (decisions : List L) (t : Trimmed L) (passed rest : List L) → decisions ≡ passed ++ rest → length rest ≤ n → passes test decisions n t rest ≡ trimmed test t passed rest

      -- the trimming comes to the end that a pass finds
      to_cut : (t : Trimmed L) (passed rest end : List L) → (cut : IsCut t.left rest end) → trimmed test t passed rest ≡ trimmed test t (passed ++ cut.front) end
      to_cut t passed rest end cut = ap (trimmed test t passed) cut.is ∙ elim cut.passes [
        | inl e ↦ trimmed_skips t passed cut.front end e
        | inr none ↦
            ap (λ (p : List L). trimmed test t passed (p ++ end)) none
            ∙ ap (λ (p : List L). trimmed test t p end) (sym (append-nil passed))
            ∙ ap (λ (p : List L). trimmed test t (passed ++ p) end) (sym none)
      ]

      after_pass : (n : ℕ) → AgreeIn n → (decisions : List L) (t : Trimmed L) (passed rest : List L) → decisions ≡ passed ++ rest → length rest ≤ suc n
          → (end : List L) → IsCut t.left rest end → keep_first (λ s later. passes test decisions n s later) decisions t end ≡ trimmed test t passed rest
      after_pass n so_far decisions t passed rest is size [] cut = sym (to_cut t passed rest [] cut ∙ trimmed_none t (passed ++ cut.front))
      after_pass n so_far decisions t passed rest is size (d ∷ later) cut =
          let stem : List L = passed ++ cut.front in
          let whole : decisions ≡ stem ++ d ∷ later = is ∙ ap (λ (xs : List L). passed ++ xs) cut.is ∙ sym (append_assoc passed cut.front (d ∷ later)) in
          let whole_next : decisions ≡ (stem ++ d ∷ []) ++ later = whole ∙ sym (append_assoc stem (d ∷ []) later) in
          let rest_size : length rest ≡ length cut.front + length (d ∷ later) = ap length cut.is ∙ length-append cut.front (d ∷ later) in
          let smaller : length later ≤ n = omega (arith, size, rest_size) in
          let next : List L → Trimmed L = λ p. record { left = t.left ++ d ∷ []; before = p } in
          ap (λ (p : List L). passes test decisions n (next p) later) (stem_is decisions stem (d ∷ later) whole)
          ∙ so_far decisions (next stem) (stem ++ d ∷ []) later whole_next smaller
          ∙ sym (to_cut t passed rest (d ∷ later) cut ∙ trimmed_keep t stem d later (cut.least d later refl))

      passes_agree : (n : ℕ) → AgreeIn n
      passes_agree zero decisions t passed rest is size =
          let none : rest ≡ [] = nil_from_length rest (omega (arith, size)) in
          passes_none decisions t rest ∙ sym (ap (trimmed test t passed) none ∙ trimmed_none t passed)
      passes_agree (suc n) decisions t passed rest is size =
          let no_later : IsLeast t.left [] = λ d later e. cc in
          let cut : IsCut t.left (reverse (reverse rest) ++ []) (grown_end test t.left [] (reverse rest)) = cut_by t.left t.left [] (reverse rest) (same_itself t.left) no_later in
          let again : reverse (reverse rest) ++ [] ≡ rest = append-nil (reverse (reverse rest)) ∙ reverse-reverse rest in
          passes_next decisions n t rest
          ∙ after_pass n (passes_agree n) decisions t passed rest is size (grown_end test t.left [] (reverse rest))
          (subst (λ (xs : List L). IsCut t.left xs (grown_end test t.left [] (reverse rest))) again cut)

      -- For a monotone test the passes leave what trimming from the first leaves.
      pub passes_trim : (decisions : List L) (t : Trimmed L) → passes test decisions (length decisions) t decisions ≡ trimmed test t [] decisions
      passes_trim decisions t = passes_agree (length decisions) decisions t [] decisions refl (omega arith)

module _ {L : Type 0} (lits : Literals L) (laws : AreLiterals lits) (clauses : List (List L)) where
  closed_fewer : (few more : List L) (set : L → Bool) → ((l : L) → Contains few l → Contains more l) → IsClosed lits clauses more set → IsClosed lits clauses few set
  closed_fewer few more set within closed = record { decided = λ l h. closed.decided l (within l h); each = closed.each }

  pub conflict_grows : IsMonotone (is_conflict lits clauses)
  conflict_grows few more within e =
      let one = conflict_is lits laws clauses few e in
      is_conflicting lits laws clauses more
      (one.0, λ set closed. one.1 set (closed_fewer few more set within closed), λ set closed. one.2 set (closed_fewer few more set within closed))

  pub passes_trim_conflict : (decisions : List L) → trim_by_passes lits clauses decisions ≡ trim lits clauses decisions
  passes_trim_conflict decisions = passes_trim (is_conflict lits clauses) conflict_grows decisions (record { left = []; before = [] })
