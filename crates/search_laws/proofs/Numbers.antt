-- The number of a conflict, and what bounds it from both sides.
-- each literal of the first closure is in the second
use Rattle.std.proofs.Common.{◌≡◌, ℕ, ◌+◌, ◌^◌, ◌<◌, ◌≤◌, List, [], ◌∷◌, refl, sym, ◌∙◌, ap, inl, inr, arith, length, subst}
use Rattle.std.specs.Prelude.{Contains, ◌⊎◌}
use Rattle.std.proofs.Math.Nat.{pow-suc}
use Rattle.std.proofs.lemmas.Nat.{pow_pos}
use Rattle.search_model.specs.Literals.{Literals, AreLiterals}
use Rattle.search_model.specs.Closure.{IsInClosure, IsConflict}
use Rattle.search_model.specs.Closure.{IsSettled}
use Rattle.search_model.specs.Turns.{IsFirstOpen}
use Rattle.search_model.specs.Numbers.{IsNumber}

module _ {L : Type 0} (lits : Literals L) (laws : AreLiterals lits) where
  pub record IsWithin (clauses : List (List L)) (decisions : List L) (clauses' : List (List L)) (decisions' : List L) : Type 0 where
    pub clause : (c : List L) → Contains clauses c → Contains clauses' c
    pub decision : (d : L) → Contains decisions d → Contains decisions' d

  pub closure_more : (clauses : List (List L)) (decisions : List L) (clauses' : List (List L)) (decisions' : List L) → IsWithin clauses decisions clauses' decisions' → (l : L) → IsInClosure lits clauses decisions l → IsInClosure lits clauses' decisions' l
  closure_more clauses decisions clauses' decisions' w l here =
      λ set closed. here set (record { decided = λ d at. closed.decided d (w.decision d at); each = λ c at. closed.each c (w.clause c at) })

  -- The closure has the digits of n, up to one after which n has only 0.
  abbrev pub IsBelow : List (List L) → List L → List L → ℕ → Type 0
  IsBelow clauses decisions [] n = n ≡ 0
  IsBelow clauses decisions (o ∷ os) n =
      (n ≡ 0)
      ⊎ (IsInClosure lits clauses decisions o × IsBelow clauses decisions os n)
      ⊎ (IsInClosure lits clauses decisions (lits.negation o) × ((m : ℕ) × (n ≡ 2 ^ length os + m) × IsBelow clauses decisions os m))

  -- The closure has the digits of n, up to a 0 in the closure where n has 1.
  abbrev pub IsAbove : List (List L) → List L → List L → ℕ → Type 0
  IsAbove clauses decisions [] n = ⊥
  IsAbove clauses decisions (o ∷ os) n =
      (IsInClosure lits clauses decisions o × (2 ^ length os ≤ n))
      ⊎ (IsInClosure lits clauses decisions o × IsAbove clauses decisions os n)
      ⊎ (IsInClosure lits clauses decisions (lits.negation o) × ((m : ℕ) × (n ≡ 2 ^ length os + m) × IsAbove clauses decisions os m))

  power : (os : List L) (o : L) → 2 ^ length (o ∷ os) ≡ 2 ^ length os + 2 ^ length os
  power os o = omega (arith, pow-suc 2 (length os))

  pub positive : (k : ℕ) → 0 < 2 ^ k
  positive k = pow_pos k

  pub below_zero : (clauses : List (List L)) (decisions order : List L) → IsBelow clauses decisions order 0
  below_zero clauses decisions [] = refl
  below_zero clauses decisions (o ∷ os) = inl refl

  pub number_bound : (clauses : List (List L)) (decisions order : List L) (d : L) (n : ℕ) → IsNumber lits clauses decisions order d n → n < 2 ^ length order
  number_bound clauses decisions [] d n h = absurd h
  number_bound clauses decisions (o ∷ os) d n (inl h) = omega (arith, h.1, power os o, positive (length os))
  number_bound clauses decisions (o ∷ os) d n (inr (inl h)) = omega (arith, number_bound clauses decisions os d n h.1, power os o)
  number_bound clauses decisions (o ∷ os) d n (inr (inr (here, (m, e, h)))) = omega (arith, e, number_bound clauses decisions os d m h, power os o)

  pub number_positive : (clauses : List (List L)) (decisions order : List L) (d : L) (n : ℕ) → IsNumber lits clauses decisions order d n → 0 < n
  number_positive clauses decisions [] d n h = absurd h
  number_positive clauses decisions (o ∷ os) d n (inl h) = omega (arith, h.1, positive (length os))
  number_positive clauses decisions (o ∷ os) d n (inr (inl h)) = number_positive clauses decisions os d n h.1
  number_positive clauses decisions (o ∷ os) d n (inr (inr (here, (m, e, h)))) = omega (arith, e, positive (length os))

  module _ (clauses : List (List L)) (decisions : List L) (clauses' : List (List L)) (decisions' : List L) (w : IsWithin clauses decisions clauses' decisions') where
    more : (l : L) → IsInClosure lits clauses decisions l → IsInClosure lits clauses' decisions' l
    more l h = closure_more clauses decisions clauses' decisions' w l h

    pub number_more : (order : List L) (d : L) (n : ℕ) → IsNumber lits clauses decisions order d n → IsNumber lits clauses' decisions' order d n
    number_more [] d n h = h
    number_more (o ∷ os) d n (inl h) = inl h
    number_more (o ∷ os) d n (inr (inl h)) = inr (inl (more o h.0, number_more os d n h.1))
    number_more (o ∷ os) d n (inr (inr (here, (m, e, h)))) = inr (inr (more (lits.negation o) here, (m, e, number_more os d m h)))

    pub below_more : (order : List L) (n : ℕ) → IsBelow clauses decisions order n → IsBelow clauses' decisions' order n
    below_more [] n h = h
    below_more (o ∷ os) n (inl h) = inl h
    below_more (o ∷ os) n (inr (inl h)) = inr (inl (more o h.0, below_more os n h.1))
    below_more (o ∷ os) n (inr (inr (here, (m, e, h)))) = inr (inr (more (lits.negation o) here, (m, e, below_more os m h)))

    -- A number is below a closure that has the lits.negation of its literal ..
    pub number_below : (order : List L) (d : L) (n : ℕ) → IsInClosure lits clauses' decisions' (lits.negation d) → IsNumber lits clauses decisions order d n → IsBelow clauses' decisions' order n
    number_below [] d n not_d h = absurd h
    number_below (o ∷ os) d n not_d (inl h) =
        let there : IsInClosure lits clauses' decisions' (lits.negation o) = let P : L → Type 0 = λ x. IsInClosure lits clauses' decisions' (lits.negation x) in subst P (sym h.0) not_d in
        inr (inr (there, (0, omega (arith, h.1), below_zero clauses' decisions' os)))
    number_below (o ∷ os) d n not_d (inr (inl h)) = inr (inl (more o h.0, number_below os d n not_d h.1))
    number_below (o ∷ os) d n not_d (inr (inr (here, (m, e, h)))) = inr (inr (more (lits.negation o) here, (m, e, number_below os d m not_d h)))

    -- .. and above a closure that has the literal.
    pub number_above : (order : List L) (d : L) (n : ℕ) → IsInClosure lits clauses' decisions' d → IsNumber lits clauses decisions order d n → IsAbove clauses' decisions' order n
    number_above [] d n is_d h = h
    number_above (o ∷ os) d n is_d (inl h) =
        let there : IsInClosure lits clauses' decisions' o = let P : L → Type 0 = λ x. IsInClosure lits clauses' decisions' x in subst P (sym h.0) is_d in
        inl (there, omega (arith, h.1))
    number_above (o ∷ os) d n is_d (inr (inl h)) = inr (inl (more o h.0, number_above os d n is_d h.1))
    number_above (o ∷ os) d n is_d (inr (inr (here, (m, e, h)))) = inr (inr (more (lits.negation o) here, (m, e, number_above os d m is_d h)))

  module _ (clauses : List (List L)) (decisions : List L) where
    -- the first open literal has a number
    pub first_number : (order : List L) (d : L) → IsFirstOpen lits clauses decisions order d → (n : ℕ) × IsNumber lits clauses decisions order d n
    first_number [] d h = absurd h
    first_number (o ∷ os) d (inl h) = (2 ^ length os, inl (sym h.1, refl))
    first_number (o ∷ os) d (inr (inl here, h)) = let k = first_number os d h in (k.0, inr (inl (here, k.1)))
    first_number (o ∷ os) d (inr (inr here, h)) = let k = first_number os d h in (2 ^ length os + k.0, inr (inr (here, (k.0, refl, k.1))))

    first_is_open : (order : List L) (d : L) → IsFirstOpen lits clauses decisions order d → IsSettled lits clauses decisions d → ⊥
    first_is_open [] d h s = h
    first_is_open (o ∷ os) d (inl h) s = let P : L → Type 0 = λ x. IsSettled lits clauses decisions x in h.0 (subst P h.1 s)
    first_is_open (o ∷ os) d (inr h) s = first_is_open os d h.1 s

    module _ (calm : IsConflict lits clauses decisions → ⊥) (d : L) (free : IsSettled lits clauses decisions d → ⊥) where
      closed_at : (o : L) → o ≡ d → IsSettled lits clauses decisions o → ⊥
      closed_at o e s = let P : L → Type 0 = λ x. IsSettled lits clauses decisions x in free (subst P e s)

      below_number : (order : List L) (n k : ℕ) → IsBelow clauses decisions order n → IsNumber lits clauses decisions order d k → n < k
      below_number [] n k h g = absurd g
      below_number (o ∷ os) n k (inl h) g = omega (arith, h, number_positive clauses decisions (o ∷ os) d k g)
      below_number (o ∷ os) n k (inr (inl h)) (inl g) = absurd (closed_at o g.0 (inl h.0))
      below_number (o ∷ os) n k (inr (inl h)) (inr (inl g)) = below_number os n k h.1 g.1
      below_number (o ∷ os) n k (inr (inl h)) (inr (inr g)) = absurd (calm (o, h.0, g.0))
      below_number (o ∷ os) n k (inr (inr h)) (inl g) = absurd (closed_at o g.0 (inr h.0))
      below_number (o ∷ os) n k (inr (inr h)) (inr (inl g)) = absurd (calm (o, g.0, h.0))
      below_number (o ∷ os) n k (inr (inr (here, (m, e, h)))) (inr (inr (there, (i, f, g)))) = omega (arith, e, f, below_number os m i h g)

      number_above_it : (order : List L) (n k : ℕ) → IsNumber lits clauses decisions order d k → IsAbove clauses decisions order n → k < n
      number_above_it [] n k g h = absurd g
      number_above_it (o ∷ os) n k (inl g) (inl h) = absurd (closed_at o g.0 (inl h.0))
      number_above_it (o ∷ os) n k (inl g) (inr (inl h)) = absurd (closed_at o g.0 (inl h.0))
      number_above_it (o ∷ os) n k (inl g) (inr (inr h)) = absurd (closed_at o g.0 (inr h.0))
      number_above_it (o ∷ os) n k (inr (inl g)) (inl h) = omega (arith, number_bound clauses decisions os d k g.1, h.1)
      number_above_it (o ∷ os) n k (inr (inl g)) (inr (inl h)) = number_above_it os n k g.1 h.1
      number_above_it (o ∷ os) n k (inr (inl g)) (inr (inr h)) = absurd (calm (o, g.0, h.0))
      number_above_it (o ∷ os) n k (inr (inr g)) (inl h) = absurd (calm (o, h.0, g.0))
      number_above_it (o ∷ os) n k (inr (inr g)) (inr (inl h)) = absurd (calm (o, h.0, g.0))
      number_above_it (o ∷ os) n k (inr (inr (there, (i, f, g)))) (inr (inr (here, (m, e, h)))) = omega (arith, e, f, number_above_it os m i g h)

      number_same : (order : List L) (n k : ℕ) → IsNumber lits clauses decisions order d n → IsNumber lits clauses decisions order d k → n ≡ k
      number_same [] n k g h = absurd g
      number_same (o ∷ os) n k (inl g) (inl h) = g.1 ∙ sym h.1
      number_same (o ∷ os) n k (inl g) (inr (inl h)) = absurd (closed_at o g.0 (inl h.0))
      number_same (o ∷ os) n k (inl g) (inr (inr h)) = absurd (closed_at o g.0 (inr h.0))
      number_same (o ∷ os) n k (inr (inl g)) (inl h) = absurd (closed_at o h.0 (inl g.0))
      number_same (o ∷ os) n k (inr (inr g)) (inl h) = absurd (closed_at o h.0 (inr g.0))
      number_same (o ∷ os) n k (inr (inl g)) (inr (inl h)) = number_same os n k g.1 h.1
      number_same (o ∷ os) n k (inr (inl g)) (inr (inr h)) = absurd (calm (o, g.0, h.0))
      number_same (o ∷ os) n k (inr (inr g)) (inr (inl h)) = absurd (calm (o, h.0, g.0))
      number_same (o ∷ os) n k (inr (inr (there, (i, f, g)))) (inr (inr (here, (m, e, h)))) = f ∙ ap (λ (x : ℕ). 2 ^ length os + x) (number_same os i m g h) ∙ sym e

    -- the number of a choice is one
    pub number_one : (order : List L) (d : L) (n k : ℕ) → (IsConflict lits clauses decisions → ⊥) → IsFirstOpen lits clauses decisions order d → IsNumber lits clauses decisions order d n → IsNumber lits clauses decisions order d k → n ≡ k
    number_one order d n k calm first g h = number_same calm d (first_is_open order d first) order n k g h

    pub below_first : (order : List L) (d : L) (n k : ℕ) → (IsConflict lits clauses decisions → ⊥) → IsFirstOpen lits clauses decisions order d → IsBelow clauses decisions order n → IsNumber lits clauses decisions order d k → n < k
    below_first order d n k calm first h g = below_number calm d (first_is_open order d first) order n k h g

    pub first_below : (order : List L) (d : L) (n k : ℕ) → (IsConflict lits clauses decisions → ⊥) → IsFirstOpen lits clauses decisions order d → IsNumber lits clauses decisions order d k → IsAbove clauses decisions order n → k < n
    first_below order d n k calm first g h = number_above_it calm d (first_is_open order d first) order n k g h
