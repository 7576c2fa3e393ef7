-- The conflicts' numbers rise.
-- What the trimming leaves ends in a decision of the list, and the rest of it stood before that one.
use Rattle.std.proofs.Common.{◌≡◌, ℕ, ◌<◌, true, List, [], ◌∷◌, ◌++◌, refl, sym, ◌∙◌, ap, inl, inr, arith, map, subst, append_assoc, append-nil}
use Rattle.std.specs.Prelude.{Contains, ◌⊎◌}
use Rattle.std.proofs.lemmas.List.Elements.{Contains-append_left, Contains-append_right, Contains-push_cases, Contains-push}
use Rattle.search_model.specs.Literals.{Literals, AreLiterals}
use Rattle.search_model.specs.Closure.{IsInClosure, IsConflict}
use Rattle.search_model.specs.Turns.{IsFirstOpen, IsTrimmed}
use Rattle.search_model.specs.Numbers.{IsNumber, WasDecided}
use Rattle.search_laws.proofs.Rise.{IsStack}
use Rattle.search_laws.proofs.ListLemmas.{Contains-cons_cases, Contains-head}
use Rattle.search_laws.proofs.Implied.{Contains-negations}
use Rattle.search_laws.proofs.Numbers.{IsWithin, number_more, number_above, first_below}

module _ {L : Type 0} (lits : Literals L) (laws : AreLiterals lits) where
  pub record IsCut (decisions left before : List L) : Type 0 where
    pub last : L
    pub front : List L
    pub later : List L
    pub left_is : left ≡ front ++ last ∷ []
    pub whole : decisions ≡ before ++ last ∷ later
    pub within : (x : L) → Contains front x → Contains before x

  -- the same while the trimming goes on: kept is empty and so is the stem, or kept is cut
  abbrev IsCutSoFar : List L → List L → List L → Type 0
  IsCutSoFar passed kept stem = ((kept ≡ []) × (stem ≡ [])) ⊎ IsCut passed kept stem

  cut_more : (passed kept stem : List L) (d : L) → IsCutSoFar passed kept stem → IsCutSoFar (passed ++ d ∷ []) kept stem
  cut_more passed kept stem d (inl h) = inl h
  cut_more passed kept stem d (inr h) = inr (record {
    last = h.last;
    front = h.front;
    later = h.later ++ d ∷ [];
    left_is = h.left_is;
    whole = ap (λ (x : List L). x ++ d ∷ []) h.whole ∙ append_assoc stem (h.last ∷ h.later) (d ∷ []);
    within = h.within;
  })

  trimmed_cut : (clauses : List (List L)) (kept passed stem rest left before : List L) → IsCutSoFar passed kept stem → ((x : L) → Contains kept x → Contains passed x) → IsTrimmed lits clauses kept passed stem rest left before → IsCutSoFar (passed ++ rest) left before
  trimmed_cut clauses kept passed stem [] left before cut within h =
      let P : List L → List L → Type 0 = λ l b. IsCutSoFar passed l b in
      rw append-nil (subst (λ (b : List L). IsCutSoFar passed left b) (sym h.1) (subst (λ (l : List L). IsCutSoFar passed l stem) (sym h.0) cut))
  trimmed_cut clauses kept passed stem (d ∷ ds) left before cut within (inl h) =
      let go : IsCutSoFar ((passed ++ d ∷ []) ++ ds) left before =
      trimmed_cut clauses kept (passed ++ d ∷ []) stem ds left before (cut_more passed kept stem d cut) (λ x at. Contains-append_left passed (d ∷ []) x (within x at)) h.1 in
      subst (λ (p : List L). IsCutSoFar p left before) (append_assoc passed (d ∷ []) ds) go
  trimmed_cut clauses kept passed stem (d ∷ ds) left before cut within (inr h) =
      let now : IsCut (passed ++ d ∷ []) (kept ++ d ∷ []) passed = record { last = d; front = kept; later = []; left_is = refl; whole = refl; within = within } in
      let go : IsCutSoFar ((passed ++ d ∷ []) ++ ds) left before =
      trimmed_cut clauses (kept ++ d ∷ []) (passed ++ d ∷ []) passed ds left before (inr now) (λ x at. elim (Contains-push_cases kept d x at) [
        | inl older ↦ Contains-append_left passed (d ∷ []) x (within x older)
        | inr is ↦ let P : L → Type 0 = λ y. Contains (passed ++ d ∷ []) y in subst P is (Contains-push passed d)
      ]) h.1 in
      subst (λ (p : List L). IsCutSoFar p left before) (append_assoc passed (d ∷ []) ds) go

  pub cut_of : (clauses : List (List L)) (decisions left before : List L) → IsTrimmed lits clauses [] [] [] decisions left before → ((left ≡ []) × (before ≡ [])) ⊎ IsCut decisions left before
  cut_of clauses decisions left before h = trimmed_cut clauses [] [] [] decisions left before (inl (refl, refl)) (λ x at. at) h

  find_negation : (xs : List L) (m : L) → Contains (map lits.negation xs) m → (x : L) × Contains xs x × (m ≡ lits.negation x)
  find_negation [] m h = absurd (omega (arith, h.1))
  find_negation (y ∷ ys) m h =
      elim (Contains-cons_cases (lits.negation y) (map lits.negation ys) m h) [
        | inl is ↦ (y, Contains-head y ys, sym is)
        | inr later ↦ let k = find_negation ys m later in (k.0, Contains-append_right (y ∷ []) ys k.0 k.1, k.2)
      ]

  Contains-push_clause : (cs : List (List L)) (c : List L) → Contains (cs ++ c ∷ []) c
  Contains-push_clause cs c = Contains-push cs c

  -- With the learned clause the closure of the decisions before has the last one's lits.negation.
  pub last_negated : (clauses : List (List L)) (decisions left before : List L) (cut : IsCut decisions left before) → IsInClosure lits (clauses ++ map lits.negation left ∷ []) before (lits.negation cut.last)
  last_negated clauses decisions left before cut = λ set closed.
      let clause : List L = map lits.negation left in
      let at : Contains left cut.last = let P : List L → Type 0 = λ xs. Contains xs cut.last in subst P (sym cut.left_is) (Contains-push cut.front cut.last) in
      closed.each clause (Contains-push_clause clauses clause) (lits.negation cut.last) (Contains-negations lits laws left cut.last at) (λ m here apart.
      let k : (x : L) × Contains left x × (m ≡ lits.negation x) = find_negation left m here in
      let among : Contains (cut.front ++ cut.last ∷ []) k.0 = let P : List L → Type 0 = λ xs. Contains xs k.0 in subst P cut.left_is k.1 in
      elim (Contains-push_cases cut.front cut.last k.0 among) [
        | inl older ↦
            let decided : set k.0 ≡ true = closed.decided k.0 (cut.within k.0 older) in
            ap set (ap lits.negation k.2 ∙ laws.twice k.0) ∙ decided
        | inr is ↦ absurd (apart (k.2 ∙ ap lits.negation (sym is)))
      ])

  module _ (base : List (List L)) (order : List L) where
    pub chosen_number : (clauses : List (List L)) (passed : List L) (d : L) (k : ℕ) → WasDecided lits base order clauses passed d k → IsNumber lits clauses passed order d k
    chosen_number clauses passed d k c =
        let P : List L → Type 0 = λ x. IsNumber lits clauses x order d k in
        subst P c.at (number_more lits laws (base ++ c.when.learned) c.when.decisions clauses c.when.decisions (record { clause = c.grown; decision = λ x here. here }) order d k c.number)

    chosen_more : (clauses clauses' : List (List L)) → ((c : List L) → Contains clauses c → Contains clauses' c) → (passed : List L) (d : L) (k : ℕ) → WasDecided lits base order clauses passed d k → WasDecided lits base order clauses' passed d k
    chosen_more clauses clauses' grows passed d k c =
        record { when = c.when; comes = c.comes; at = c.at; grown = λ x here. grows x (c.grown x here); calm = c.calm; first = c.first; number = c.number }

    pub stack_bound : (clauses : List (List L)) (passed : List L) (bound : ℕ) (ds : List L) (n : ℕ) → IsStack lits laws base clauses order passed bound ds n → n < bound
    stack_bound clauses passed bound [] n h = h
    stack_bound clauses passed bound (d ∷ ds) n (k, lt, number, h) = omega (arith, lt, stack_bound clauses (passed ++ d ∷ []) k ds n h)

    -- one more decision
    pub stack_push : (clauses : List (List L)) (passed : List L) (bound : ℕ) (ds : List L) (n : ℕ) (d : L) (k : ℕ)
        → (IsConflict lits clauses (passed ++ ds) → ⊥) → IsFirstOpen lits clauses (passed ++ ds) order d → IsNumber lits clauses (passed ++ ds) order d k → WasDecided lits base order clauses (passed ++ ds) d k
        → n < k → k < bound → IsStack lits laws base clauses order passed bound ds n → IsStack lits laws base clauses order passed bound (ds ++ d ∷ []) n
    stack_push clauses passed bound [] n d k calm first number chosen above lt h =
        let P : List L → Type 0 = λ x. WasDecided lits base order clauses x d k in
        let at : WasDecided lits base order clauses passed d k = subst P (append-nil passed) chosen in
        (k, lt, at, above)
    stack_push clauses passed bound (e ∷ es) n d k calm first number chosen above lt (i, below, at, h) =
        let same : (passed ++ e ∷ []) ++ es ≡ passed ++ e ∷ es = append_assoc passed (e ∷ []) es in
        let within : IsWithin lits laws clauses passed clauses (passed ++ e ∷ es) = record { clause = λ c here. here; decision = λ x here. Contains-append_left passed (e ∷ es) x here } in
        let here : IsInClosure lits clauses (passed ++ e ∷ es) e = λ set closed. closed.decided e (Contains-append_right passed (e ∷ es) e (Contains-head e es)) in
        let less : k < i = first_below lits laws clauses (passed ++ e ∷ es) order d i k calm first number (number_above lits laws clauses passed clauses (passed ++ e ∷ es) within order e i here (chosen_number clauses passed e i at)) in
        let go : IsStack lits laws base clauses order (passed ++ e ∷ []) i (es ++ d ∷ []) n =
        stack_push clauses (passed ++ e ∷ []) i es n d k
        (let P : List L → Type 0 = λ x. IsConflict lits clauses x → ⊥ in subst P (sym same) calm)
        (let P : List L → Type 0 = λ x. IsFirstOpen lits clauses x order d in subst P (sym same) first)
        (let P : List L → Type 0 = λ x. IsNumber lits clauses x order d k in subst P (sym same) number)
        (let P : List L → Type 0 = λ x. WasDecided lits base order clauses x d k in subst P (sym same) chosen)
        above less h in
        (i, below, at, go)

    -- the decisions before one, below which its number is the new floor
    pub stack_cut : (clauses : List (List L)) (passed : List L) (bound : ℕ) (before : List L) (d : L) (later : List L) (n : ℕ)
        → IsStack lits laws base clauses order passed bound (before ++ d ∷ later) n
        → (k : ℕ) × (n < k) × WasDecided lits base order clauses (passed ++ before) d k × IsStack lits laws base clauses order passed bound before k
    stack_cut clauses passed bound [] d later n (k, lt, at, h) =
        let P : List L → Type 0 = λ x. WasDecided lits base order clauses x d k in
        (k, stack_bound clauses (passed ++ d ∷ []) k later n h, subst P (sym (append-nil passed)) at, lt)
    stack_cut clauses passed bound (e ∷ es) d later n (i, lt, at, h) =
        let (k, above, number, rest) = stack_cut clauses (passed ++ e ∷ []) i es d later n h in
        let P : List L → Type 0 = λ x. WasDecided lits base order clauses x d k in
        (k, above, subst P (append_assoc passed (e ∷ []) es) number, (i, lt, at, rest))

    pub stack_more : (clauses clauses' : List (List L)) → ((c : List L) → Contains clauses c → Contains clauses' c) → (passed : List L) (bound : ℕ) (ds : List L) (n : ℕ) → IsStack lits laws base clauses order passed bound ds n → IsStack lits laws base clauses' order passed bound ds n
    stack_more clauses clauses' grows passed bound [] n h = h
    stack_more clauses clauses' grows passed bound (d ∷ ds) n (k, lt, at, h) =
        (k, lt, chosen_more clauses clauses' grows passed d k at, stack_more clauses clauses' grows (passed ++ d ∷ []) k ds n h)
