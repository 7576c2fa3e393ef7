-- Models of the formula of roots are the inputs on which the roots are true.
use Rattle.std.proofs.Common.{◌≡◌, ◌≢◌, ℕ, zero, suc, ◌<◌, Bool, true, false, List, [], ◌∷◌, ◌++◌, refl, sym, ◌∙◌, ap, inl, inr, arith, length, filter, subst, cond}
use Rattle.std.specs.Prelude.{Contains, not, ◌⊎◌, ◌&&◌, if◌then◌else◌, flat_map}
use Rattle.std.proofs.lemmas.Bool.{cases_eq}
use Rattle.std.proofs.lemmas.List.Elements.{Contains-append_left, Contains-append_right, Contains-append_cases}
use Rattle.gate_model.specs.Tree.{Tree, Yes, Bit, And, Xor, Signed, plain, same}
use Rattle.gate_model.specs.Booleans.{xor}
use Rattle.gate_model.specs.Value.{under_sign, input_bit, value}
use Rattle.gate_model.specs.Makers.{yes, negation}
use Rattle.gate_model.specs.Made.{IsMade}
use Rattle.gate_model.specs.Clauses.{tree_clauses, IsUnder}
use Rattle.gate_model.proofs.SameLemmas.{same_equal, same_itself}
use Rattle.gate_model.proofs.ValueLemmas.{value_not}
use Rattle.search_model.specs.Closure.{IsInClosure, IsSettled}
use Rattle.search_model.specs.Model.{Satisfies, IsTotal, IsModel, signed}
use Rattle.search_laws.proofs.ListLemmas.{bool_cases, true_is_false, not_false, not_true, no_element, Contains-head, Contains-tail, Contains-cons_cases}
use Rattle.search_laws.proofs.Renamed.{map_contains, map_contains_one}
use Rattle.wide_laws.specs.Formula.{signed_trees, clauses_under, gate_formula, root_formula, formula_of, bits_below, order_of}
use Rattle.wide_laws.proofs.Forcing.{value_under, told, told_is, either_of, Among, BitsDecided, told_in_closure}

-- the bits of the places are in the order
abbrev pub bit_of : List ℕ → ℕ → ℕ → Signed
bit_of mask place bit = record { tree = Bit place bit; positive = input_bit mask place bit }

pub bits_have : (mask : List ℕ) (place n bit : ℕ) → bit < n → Contains (bits_below mask place n) (bit_of mask place bit)
bits_have mask place zero bit lt = absurd (omega (arith, lt))
bits_have mask place (suc n) bit lt = elim (cases_eq bit n) [
  | inl is ↦ let P : ℕ → Type 0 = λ k. Contains (bits_below mask place (suc n)) (bit_of mask place k) in subst P (sym is) (Contains-head (bit_of mask place n) (bits_below mask place n))
  | inr apart ↦ Contains-tail (bit_of mask place n) (bits_below mask place n) (bit_of mask place bit) (bits_have mask place n bit (omega arith))
]

pub order_has : (mask places : List ℕ) (place bit : ℕ) → Contains places place → bit < 8 → Contains (order_of mask places) (bit_of mask place bit)
unfolding order_of
order_has mask [] place bit at lt = absurd (no_element place at)
order_has mask (p ∷ ps) place bit at lt = elim (Contains-cons_cases p ps place at) [
  | inl is ↦
      let P : ℕ → Type 0 = λ k. Contains (order_of mask (p ∷ ps)) (bit_of mask k bit) in
      subst P is (Contains-append_left (bits_below mask p 8) (order_of mask ps) (bit_of mask p bit) (bits_have mask p 8 bit lt))
  | inr later ↦ Contains-append_right (bits_below mask p 8) (order_of mask ps) (bit_of mask place bit) (order_has mask ps place bit later lt)
]

module _ (set : Signed → Bool) (total : IsTotal signed_trees set) where
  pub set_sign : (g : Tree) (m : Bool) → set (record { tree = g; positive = m }) ≡ under_sign m (set (plain g))
  set_sign g true = refl
  set_sign g false = total (plain g)

  -- a literal of the order is decided as the set has its bit
  pub decided_bit : (mask places : List ℕ) (place bit : ℕ) → Contains places place → bit < 8 → Contains (signed signed_trees set (order_of mask places)) (told set (Bit place bit))
  decided_bit mask places place bit at lt =
      let l : Signed = bit_of mask place bit in
      let f : Signed → Signed = λ x. if set x then x else negation x in
      let is : f l ≡ told set (Bit place bit) =
      ap (λ b. either_of b l) (set_sign (Bit place bit) (input_bit mask place bit)) ∙ told_is (Bit place bit) (input_bit mask place bit) (set (plain (Bit place bit))) in
      let P : Signed → Type 0 = λ x. Contains (signed signed_trees set (order_of mask places)) x in
      subst P is (map_contains f (order_of mask places) l (order_has mask places place bit at lt))

  pub bits_decided : (mask places : List ℕ) (g : Tree) → IsMade g → ((place bit : ℕ) → IsUnder (Bit place bit) g → Contains places place) → BitsDecided set (signed signed_trees set (order_of mask places)) g
  bits_decided mask places Yes made inside = tt
  bits_decided mask places (Bit place bit) made inside = decided_bit mask places place bit (inside place bit refl) made
  bits_decided mask places (And a s b t) made inside = (
    bits_decided mask places a made.1 (λ place bit h. inside place bit (inr (inl h))),
    bits_decided mask places b made.2 (λ place bit h. inside place bit (inr (inr h))),
  )
  bits_decided mask places (Xor a s b t) made inside = (
    bits_decided mask places a made.1 (λ place bit h. inside place bit (inr (inl h))),
    bits_decided mask places b made.2 (λ place bit h. inside place bit (inr (inr h))),
  )

  -- the decisions are true
  pub decisions_true : (order : List Signed) (d : Signed) → Contains (signed signed_trees set order) d → set d ≡ true
  decisions_true order d at =
      let f : Signed → Signed = λ x. if set x then x else negation x in
      let one = map_contains_one f order d at in
      ap set (sym one.2) ∙ elim (bool_cases (set one.0)) [
        | inl e ↦ ap (λ b. set (either_of b one.0)) e ∙ e
        | inr e ↦ ap (λ b. set (either_of b one.0)) e ∙ total one.0 ∙ not_false (set one.0) e
      ]

  -- a tree whose value is told has either sign settled
  pub told_sign : (g : Tree) (p v : Bool) → set (record { tree = g; positive = v }) ≡ true → set (record { tree = g; positive = p }) ≡ under_sign p v
  told_sign g true true e = e
  told_sign g false false e = e
  told_sign g true false e = elim (bool_cases (set (plain g))) [
    | inl f ↦ absurd (true_is_false (not (set (plain g))) (sym (total (plain g)) ∙ e) (ap not f))
    | inr f ↦ f
  ]
  told_sign g false true e = total (plain g) ∙ ap not e

settled_told : (clauses : List (List Signed)) (decisions : List Signed) (g : Tree) (p v : Bool) → IsInClosure signed_trees clauses decisions (record { tree = g; positive = v }) → IsSettled signed_trees clauses decisions (record { tree = g; positive = p })
settled_told clauses decisions g true true h = inl h
settled_told clauses decisions g false false h = inl h
settled_told clauses decisions g true false h = inr h
settled_told clauses decisions g false true h = inr h

each_of_two : (P : Signed → Type 0) (x y : Signed) → P x → P y → (l : Signed) → Contains (x ∷ y ∷ []) l → P l
each_of_two P x y h k l at = elim (Contains-cons_cases x (y ∷ []) l at) [
  | inl is ↦ subst P is h
  | inr later ↦ elim (Contains-cons_cases y [] l later) [ inl is ↦ subst P is k | inr none ↦ absurd (no_element l none) ]
]

each_of_three : (P : Signed → Type 0) (x y z : Signed) → P x → P y → P z → (l : Signed) → Contains (x ∷ y ∷ z ∷ []) l → P l
each_of_three P x y z h k j l at = elim (Contains-cons_cases x (y ∷ z ∷ []) l at) [
  | inl is ↦ subst P is h
  | inr later ↦ each_of_two P y z k j l later
]

clause_of_three : (Q : List Signed → Type 0) (x y z : List Signed) → Q x → Q y → Q z → (c : List Signed) → Contains (x ∷ y ∷ z ∷ []) c → Q c
clause_of_three Q x y z h k j c at = elim (Contains-cons_cases x (y ∷ z ∷ []) c at) [
  | inl is ↦ subst Q is h
  | inr later ↦ elim (Contains-cons_cases y (z ∷ []) c later) [
    | inl is ↦ subst Q is k
    | inr last ↦ elim (Contains-cons_cases z [] c last) [ inl is ↦ subst Q is j | inr none ↦ absurd (no_element c none) ]
  ]
]

clause_of_four : (Q : List Signed → Type 0) (w x y z : List Signed) → Q w → Q x → Q y → Q z → (c : List Signed) → Contains (w ∷ x ∷ y ∷ z ∷ []) c → Q c
clause_of_four Q w x y z g h k j c at = elim (Contains-cons_cases w (x ∷ y ∷ z ∷ []) c at) [
  | inl is ↦ subst Q is g
  | inr later ↦ clause_of_three Q x y z h k j c later
]

-- Something of each clause of the gates on trees: from what holds of each gate's clauses.
module _ (Q : List Signed → Type 0) where
  pub record EachGate : Type 0 where
    pub and : (a b : Tree) (s t : Bool) (c : List Signed) → Contains (tree_clauses (And a s b t)) c → Q c
    pub xor : (a b : Tree) (s t : Bool) (c : List Signed) → Contains (tree_clauses (Xor a s b t)) c → Q c

  pub each_under : EachGate → (g : Tree) (c : List Signed) → Contains (clauses_under g) c → Q c
  unfolding clauses_under
  each_under each Yes c at = absurd (no_element c at)
  each_under each (Bit place bit) c at = absurd (no_element c at)
  each_under each (And a s b t) c at = elim (Contains-append_cases (tree_clauses (And a s b t)) (clauses_under a ++ clauses_under b) c at) [
    | inl here ↦ each.and a b s t c here
    | inr later ↦ elim (Contains-append_cases (clauses_under a) (clauses_under b) c later) [
      | inl h ↦ each_under each a c h
      | inr h ↦ each_under each b c h
    ]
  ]
  each_under each (Xor a s b t) c at = elim (Contains-append_cases (tree_clauses (Xor a s b t)) (clauses_under a ++ clauses_under b) c at) [
    | inl here ↦ each.xor a b s t c here
    | inr later ↦ elim (Contains-append_cases (clauses_under a) (clauses_under b) c later) [
      | inl h ↦ each_under each a c h
      | inr h ↦ each_under each b c h
    ]
  ]

-- no clause is empty
pub filled_under : (g : Tree) (c : List Signed) → Contains (clauses_under g) c → 0 < length c
filled_under = each_under (λ c. 0 < length c) (record {
  and = λ a b s t c at. clause_of_three (λ (k : List Signed). 0 < length k) _ _ _ (omega arith) (omega arith) (omega arith) c at;
  xor = λ a b s t c at. clause_of_four (λ (k : List Signed). 0 < length k) _ _ _ _ (omega arith) (omega arith) (omega arith) (omega arith) c at;
})

-- each literal of the clauses under a tree is settled
module _ (clauses : List (List Signed)) (decisions : List Signed) (set : Signed → Bool) where
  abbrev Settled : Signed → Type 0
  Settled l = IsSettled signed_trees clauses decisions l

  pub settles_sign : (g : Tree) (p : Bool) → IsInClosure signed_trees clauses decisions (told set g) → Settled (record { tree = g; positive = p })
  settles_sign g p h = settled_told clauses decisions g p (value_under set g) h

  pub settled_under : (g : Tree) → IsMade g → Among clauses g → BitsDecided set decisions g → (c : List Signed) → Contains (clauses_under g) c → (l : Signed) → Contains c l → Settled l
  unfolding clauses_under
  settled_under Yes made among bits c at = absurd (no_element c at)
  settled_under (Bit place bit) made among bits c at = absurd (no_element c at)
  settled_under (And a s b t) made among bits c at =
      let own : List (List Signed) = tree_clauses (And a s b t) in
      let rest : List (List Signed) = clauses_under a ++ clauses_under b in
      let among_a : Among clauses a = λ k h. among k (Contains-append_right own rest k (Contains-append_left (clauses_under a) (clauses_under b) k h)) in
      let among_b : Among clauses b = λ k h. among k (Contains-append_right own rest k (Contains-append_right (clauses_under a) (clauses_under b) k h)) in
      let g : Tree = And a s b t in
      let x : Signed = record { tree = a; positive = s } in
      let y : Signed = record { tree = b; positive = t } in
      let here : IsInClosure signed_trees clauses decisions (told set g) = told_in_closure clauses decisions set g made (λ e. cc) among bits in
      let at_a : IsInClosure signed_trees clauses decisions (told set a) = told_in_closure clauses decisions set a made.1 made.0.first among_a bits.0 in
      let at_b : IsInClosure signed_trees clauses decisions (told set b) = told_in_closure clauses decisions set b made.2 made.0.second among_b bits.1 in
      elim (Contains-append_cases own rest c at) [
        | inl now ↦ clause_of_three (λ (k : List Signed). (l : Signed) → Contains k l → Settled l) (negation (plain g) ∷ x ∷ []) (negation (plain g) ∷ y ∷ []) (plain g ∷ negation x ∷ negation y ∷ [])
            (each_of_two Settled (negation (plain g)) x (settles_sign g false here) (settles_sign a s at_a))
            (each_of_two Settled (negation (plain g)) y (settles_sign g false here) (settles_sign b t at_b))
            (each_of_three Settled (plain g) (negation x) (negation y) (settles_sign g true here) (settles_sign a (not s) at_a) (settles_sign b (not t) at_b)) c now
        | inr later ↦ elim (Contains-append_cases (clauses_under a) (clauses_under b) c later) [
          | inl h ↦ settled_under a made.1 among_a bits.0 c h
          | inr h ↦ settled_under b made.2 among_b bits.1 c h
        ]
      ]
  settled_under (Xor a s b t) made among bits c at =
      let own : List (List Signed) = tree_clauses (Xor a s b t) in
      let rest : List (List Signed) = clauses_under a ++ clauses_under b in
      let among_a : Among clauses a = λ k h. among k (Contains-append_right own rest k (Contains-append_left (clauses_under a) (clauses_under b) k h)) in
      let among_b : Among clauses b = λ k h. among k (Contains-append_right own rest k (Contains-append_right (clauses_under a) (clauses_under b) k h)) in
      let g : Tree = Xor a s b t in
      let x : Signed = record { tree = a; positive = s } in
      let y : Signed = record { tree = b; positive = t } in
      let here : IsInClosure signed_trees clauses decisions (told set g) = told_in_closure clauses decisions set g made (λ e. cc) among bits in
      let at_a : IsInClosure signed_trees clauses decisions (told set a) = told_in_closure clauses decisions set a made.1 made.0.first among_a bits.0 in
      let at_b : IsInClosure signed_trees clauses decisions (told set b) = told_in_closure clauses decisions set b made.2 made.0.second among_b bits.1 in
      elim (Contains-append_cases own rest c at) [
        | inl now ↦ clause_of_four (λ (k : List Signed). (l : Signed) → Contains k l → Settled l)
            (negation (plain g) ∷ x ∷ y ∷ []) (negation (plain g) ∷ negation x ∷ negation y ∷ []) (plain g ∷ negation x ∷ y ∷ []) (plain g ∷ x ∷ negation y ∷ [])
            (each_of_three Settled (negation (plain g)) x y (settles_sign g false here) (settles_sign a s at_a) (settles_sign b t at_b))
            (each_of_three Settled (negation (plain g)) (negation x) (negation y) (settles_sign g false here) (settles_sign a (not s) at_a) (settles_sign b (not t) at_b))
            (each_of_three Settled (plain g) (negation x) y (settles_sign g true here) (settles_sign a (not s) at_a) (settles_sign b t at_b))
            (each_of_three Settled (plain g) x (negation y) (settles_sign g true here) (settles_sign a s at_a) (settles_sign b (not t) at_b)) c now
        | inr later ↦ elim (Contains-append_cases (clauses_under a) (clauses_under b) c later) [
          | inl h ↦ settled_under a made.1 among_a bits.0 c h
          | inr h ↦ settled_under b made.2 among_b bits.1 c h
        ]
      ]

-- a set that has the gates' values satisfies their clauses
module _ (set : Signed → Bool) (total : IsTotal signed_trees set) where
  either_two : (x y : Signed) → (set x ≡ true) ⊎ (set y ≡ true) → Satisfies set (x ∷ y ∷ [])
  either_two x y (inl e) = (x, Contains-head x (y ∷ []), e)
  either_two x y (inr e) = (y, Contains-tail x (y ∷ []) y (Contains-head y []), e)

  either_three : (x y z : Signed) → (set x ≡ true) ⊎ ((set y ≡ true) ⊎ (set z ≡ true)) → Satisfies set (x ∷ y ∷ z ∷ [])
  either_three x y z (inl e) = (x, Contains-head x (y ∷ z ∷ []), e)
  either_three x y z (inr h) = let one = either_two y z h in (one.0, Contains-tail x (y ∷ z ∷ []) one.0 one.1, one.2)

  is_not : (x : Signed) → set x ≡ false → set (negation x) ≡ true
  is_not x e = total x ∙ ap not e

  and_satisfied : (g a b : Signed) (p q : Bool) → set a ≡ p → set b ≡ q → set g ≡ (p && q)
      → Satisfies set (negation g ∷ a ∷ []) × Satisfies set (negation g ∷ b ∷ []) × Satisfies set (g ∷ negation a ∷ negation b ∷ [])
  and_satisfied g a b true true e f h = (either_two (negation g) a (inr e), either_two (negation g) b (inr f), either_three g (negation a) (negation b) (inl h))
  and_satisfied g a b true false e f h = (either_two (negation g) a (inr e), either_two (negation g) b (inl (is_not g h)), either_three g (negation a) (negation b) (inr (inr (is_not b f))))
  and_satisfied g a b false q e f h = (either_two (negation g) a (inl (is_not g h)), either_two (negation g) b (inl (is_not g h)), either_three g (negation a) (negation b) (inr (inl (is_not a e))))

  xor_satisfied : (g a b : Signed) (p q : Bool) → set a ≡ p → set b ≡ q → set g ≡ xor p q
      → Satisfies set (negation g ∷ a ∷ b ∷ []) × Satisfies set (negation g ∷ negation a ∷ negation b ∷ []) × Satisfies set (g ∷ negation a ∷ b ∷ []) × Satisfies set (g ∷ a ∷ negation b ∷ [])
  xor_satisfied g a b true true e f h = (either_three (negation g) a b (inr (inl e)), either_three (negation g) (negation a) (negation b) (inl (is_not g h)), either_three g (negation a) b (inr (inr f)), either_three g a (negation b) (inr (inl e)))
  xor_satisfied g a b true false e f h = (either_three (negation g) a b (inr (inl e)), either_three (negation g) (negation a) (negation b) (inr (inr (is_not b f))), either_three g (negation a) b (inl h), either_three g a (negation b) (inl h))
  xor_satisfied g a b false true e f h = (either_three (negation g) a b (inr (inr f)), either_three (negation g) (negation a) (negation b) (inr (inl (is_not a e))), either_three g (negation a) b (inl h), either_three g a (negation b) (inl h))
  xor_satisfied g a b false false e f h = (either_three (negation g) a b (inl (is_not g h)), either_three (negation g) (negation a) (negation b) (inr (inl (is_not a e))), either_three g (negation a) b (inr (inl (is_not a e))), either_three g a (negation b) (inr (inr (is_not b f))))

  pub record HasGates : Type 0 where
    pub and : (a b : Tree) (s t : Bool) → set (plain (And a s b t)) ≡ (set (record { tree = a; positive = s }) && set (record { tree = b; positive = t }))
    pub xor : (a b : Tree) (s t : Bool) → set (plain (Xor a s b t)) ≡ xor (set (record { tree = a; positive = s })) (set (record { tree = b; positive = t }))

  pub gates_satisfied : HasGates → (g : Tree) (c : List Signed) → Contains (clauses_under g) c → Satisfies set c
  gates_satisfied has = each_under (Satisfies set) (record {
    and = λ a b s t c at. (
        let x : Signed = record { tree = a; positive = s } in
        let y : Signed = record { tree = b; positive = t } in
        let g : Signed = plain (And a s b t) in
        let all = and_satisfied g x y (set x) (set y) refl refl (has.and a b s t) in
        clause_of_three (Satisfies set) (negation g ∷ x ∷ []) (negation g ∷ y ∷ []) (g ∷ negation x ∷ negation y ∷ []) all.0 all.1 all.2 c at);
    xor = λ a b s t c at. (
        let x : Signed = record { tree = a; positive = s } in
        let y : Signed = record { tree = b; positive = t } in
        let g : Signed = plain (Xor a s b t) in
        let all = xor_satisfied g x y (set x) (set y) refl refl (has.xor a b s t) in
        clause_of_four (Satisfies set) (negation g ∷ x ∷ y ∷ []) (negation g ∷ negation x ∷ negation y ∷ []) (g ∷ negation x ∷ y ∷ []) (g ∷ x ∷ negation y ∷ []) all.0 all.1 all.2 all.3 c at);
  })

-- elements of a filter and of a flat map
filter_one : {X : Type 0} (p : X → Bool) (xs : List X) (x : X) → Contains (filter p xs) x → Contains xs x
filter_one p [] x h = absurd (no_element x h)
filter_one {X} p (y ∷ ys) x h = elim (bool_cases (p y)) [
  | inl e ↦
      let P : List X → Type 0 = λ k. Contains k x in
      elim (Contains-cons_cases y (filter p ys) x (subst P (ap (λ b. cond b (y ∷ filter p ys) (filter p ys)) e) h)) [
        | inl is ↦ let Q : X → Type 0 = λ z. Contains (y ∷ ys) z in subst Q is (Contains-head y ys)
        | inr later ↦ Contains-tail y ys x (filter_one p ys x later)
      ]
  | inr e ↦
      let P : List X → Type 0 = λ k. Contains k x in
      Contains-tail y ys x (filter_one p ys x (subst P (ap (λ b. cond b (y ∷ filter p ys) (filter p ys)) e) h))
]

filter_passes : {X : Type 0} (p : X → Bool) (xs : List X) (x : X) → Contains (filter p xs) x → p x ≡ true
filter_passes p [] x h = absurd (no_element x h)
filter_passes {X} p (y ∷ ys) x h =
    let P : List X → Type 0 = λ k. Contains k x in
    elim (bool_cases (p y)) [
      | inl e ↦ elim (Contains-cons_cases y (filter p ys) x (subst P (ap (λ b. cond b (y ∷ filter p ys) (filter p ys)) e) h)) [
        | inl is ↦ ap p (sym is) ∙ e
        | inr later ↦ filter_passes p ys x later
      ]
      | inr e ↦ filter_passes p ys x (subst P (ap (λ b. cond b (y ∷ filter p ys) (filter p ys)) e) h)
    ]

filter_has : {X : Type 0} (p : X → Bool) (xs : List X) (x : X) → Contains xs x → p x ≡ true → Contains (filter p xs) x
filter_has p [] x h e = absurd (no_element x h)
filter_has {X} p (y ∷ ys) x h e =
    let P : List X → Type 0 = λ k. Contains k x in
    elim (bool_cases (p y)) [
      | inl f ↦ subst P (sym (ap (λ b. cond b (y ∷ filter p ys) (filter p ys)) f)) (elim (Contains-cons_cases y ys x h) [
        | inl is ↦ (let Q : X → Type 0 = λ z. Contains (y ∷ filter p ys) z in subst Q is (Contains-head y (filter p ys)))
        | inr later ↦ Contains-tail y (filter p ys) x (filter_has p ys x later e)
      ])
      | inr f ↦ subst P (sym (ap (λ b. cond b (y ∷ filter p ys) (filter p ys)) f)) (elim (Contains-cons_cases y ys x h) [
        | inl is ↦ absurd (true_is_false (p x) e (ap p (sym is) ∙ f))
        | inr later ↦ filter_has p ys x later e
      ])
    ]

pub flat_one : {X Y : Type 0} (f : X → List Y) (xs : List X) (y : Y) → Contains (flat_map f xs) y → (x : X) × Contains xs x × Contains (f x) y
flat_one f [] y h = absurd (no_element y h)
flat_one f (x ∷ xs) y h = elim (Contains-append_cases (f x) (flat_map f xs) y h) [
  | inl here ↦ (x, Contains-head x xs, here)
  | inr later ↦ let one = flat_one f xs y later in (one.0, Contains-tail x xs one.0 one.1, one.2)
]

pub flat_has : {X Y : Type 0} (f : X → List Y) (xs : List X) (x : X) (y : Y) → Contains xs x → Contains (f x) y → Contains (flat_map f xs) y
flat_has f [] x y h k = absurd (no_element x h)
flat_has {X} f (z ∷ xs) x y h k = elim (Contains-cons_cases z xs x h) [
  | inl is ↦ Contains-append_left (f z) (flat_map f xs) y (let P : X → Type 0 = λ w. Contains (f w) y in subst P (sym is) k)
  | inr later ↦ Contains-append_right (f z) (flat_map f xs) y (flat_has f xs x y later k)
]

pub input_gates : (y : List ℕ) → HasGates (λ a. value a y) (λ a. value_not y a)
unfolding value
input_gates y = record { and = λ a b s t. refl; xor = λ a b s t. refl }

module _ (roots : List Signed) where
  pub under_among : (r : Signed) → Contains roots r → Among (formula_of roots) r.tree
  under_among r at c h = Contains-append_left (gate_formula roots) (root_formula roots) c (flat_has (λ (x : Signed). clauses_under x.tree) roots r c at h)

  not_same : (r : Signed) → r ≢ yes → not (same r yes) ≡ true
  not_same r apart = elim (bool_cases (same r yes)) [
    | inl e ↦ absurd (apart (same_equal r yes e))
    | inr e ↦ ap not e
  ]

  pub root_clause : (r : Signed) → Contains roots r → r ≢ yes → Contains (formula_of roots) (r ∷ [])
  root_clause r at apart = Contains-append_right (gate_formula roots) (root_formula roots) (r ∷ [])
      (map_contains (λ (x : Signed). x ∷ []) (filter (λ x. not (same x yes)) roots) r (filter_has (λ x. not (same x yes)) roots r at (not_same r apart)))

  -- a clause of the formula is one of the gates under a root, or a root
  pub clause_cases : (c : List Signed) → Contains (formula_of roots) c → ((r : Signed) × Contains roots r × Contains (clauses_under r.tree) c) ⊎ ((r : Signed) × Contains roots r × (r ≢ yes) × (r ∷ [] ≡ c))
  clause_cases c at = elim (Contains-append_cases (gate_formula roots) (root_formula roots) c at) [
    | inl h ↦ inl (flat_one (λ (x : Signed). clauses_under x.tree) roots c h)
    | inr h ↦
        let one = map_contains_one (λ (x : Signed). x ∷ []) (filter (λ x. not (same x yes)) roots) c h in
        let passes : not (same one.0 yes) ≡ true = filter_passes (λ x. not (same x yes)) roots one.0 one.1 in
        inr (one.0, filter_one (λ x. not (same x yes)) roots one.0 one.1, (λ is. not_true (same one.0 yes) (ap (λ (x : Signed). same x yes) is ∙ same_itself yes) passes), one.2)
  ]

  -- an input on which the roots are true is a model
  pub input_model : (y : List ℕ) → ((r : Signed) → Contains roots r → value r y ≡ true) → IsModel signed_trees (formula_of roots) (λ a. value a y)
  input_model y are = record {
    one = λ a. value_not y a;
    each = λ c at. elim (clause_cases c at) [
      | inl (r, here, under) ↦ gates_satisfied (λ a. value a y) (λ a. value_not y a) (input_gates y) r.tree c under
      | inr (r, here, apart, is) ↦ (let P : List Signed → Type 0 = λ k. Satisfies (λ a. value a y) k in subst P is (r, Contains-head r [], are r here))
    ];
  }
