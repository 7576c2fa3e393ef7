-- An order of all names settles each formula over them.
use Rattle.std.proofs.Common.{◌≡◌, ℕ, ◌+◌, ◌<◌, Bool, true, false, List, [], ◌∷◌, ◌++◌, refl, sym, ◌∙◌, ap, inl, inr, arith, map, subst}
use Rattle.std.specs.Prelude.{Contains, All, not, ◌⊎◌, if◌then◌else◌}
use Rattle.std.proofs.lemmas.Bool.{cases_eq}
use Rattle.std.proofs.lemmas.List.Elements.{All-contains, Contains-append_left, Contains-push}
use Rattle.gate_net.specs.declared.literals.Lit.{Lit}
use Rattle.gate_net.specs.Lits.{negation, AreNamed}
use Rattle.search_model.specs.Literals.{named}
use Rattle.search_model.specs.Closure.{IsInClosure}
use Rattle.search_model.specs.Model.{signed, Settles}
use Rattle.search_laws.proofs.ListLemmas.{bool_cases, no_element, Contains-head, Contains-tail, Contains-cons_cases}

mapped : {X Y : Type 0} (f : X → Y) (xs : List X) (x : X) → Contains xs x → Contains (map f xs) (f x)
mapped f [] x h = absurd (no_element x h)
mapped {X} {Y} f (y ∷ ys) x h = elim (Contains-cons_cases y ys x h) [
  | inl is ↦ let P : X → Type 0 = λ z. Contains (map f (y ∷ ys)) (f z) in subst P is (Contains-head (f y) (map f ys))
  | inr later ↦ Contains-tail (f y) (map f ys) (f x) (mapped f ys x later)
]

one_of_two : (l : Lit) (p q : Bool) → l.positive ≡ p → (l ≡ record { name = l.name; positive = q }) ⊎ (negation l ≡ record { name = l.name; positive = q })
one_of_two l true true e = inl (ap (λ (b : Bool). record { name = l.name; positive = b }) e)
one_of_two l true false e = inr (ap (λ (b : Bool). record { name = l.name; positive = not b }) e)
one_of_two l false true e = inr (ap (λ (b : Bool). record { name = l.name; positive = not b }) e)
one_of_two l false false e = inl (ap (λ (b : Bool). record { name = l.name; positive = b }) e)

-- each of the first names stands among the literals
abbrev pub HasNames : List Lit → ℕ → Type 0
HasNames literals names = (n : ℕ) → n < names → (sign : Bool) × Contains literals (record { name = n; positive = sign })

pub names_more : (literals : List Lit) (i : ℕ) (sign : Bool) → HasNames literals i → HasNames (literals ++ record { name = i; positive = sign } ∷ []) (i + 1)
names_more literals i sign so_far n less = elim (cases_eq n i) [
  | inl is ↦
      let P : ℕ → Type 0 = λ k. Contains (literals ++ record { name = i; positive = sign } ∷ []) (record { name = k; positive = sign }) in
      (sign, subst P (sym is) (Contains-push literals (record { name = i; positive = sign })))
  | inr apart ↦
      let (other, at) = so_far n (omega (arith, less, apart)) in
      (other, Contains-append_left literals (record { name = i; positive = sign } ∷ []) (record { name = n; positive = other }) at)
]

abbrev decision : (Lit → Bool) → Lit → Lit
decision set l = if set l then l else negation l

decision_sign : (set : Lit → Bool) (l : Lit) → (q : Bool) × (decision set l ≡ record { name = l.name; positive = q })
decision_sign set l = elim (bool_cases (set l)) [
  | inl e ↦ (l.positive, ap (λ b. if b then l else negation l) e)
  | inr e ↦ (not l.positive, ap (λ b. if b then l else negation l) e)
]

pub settles_all : (names : ℕ) (clauses : List (List Lit)) (order : List Lit) → All (AreNamed names) clauses
    → HasNames order names → Settles named clauses order
settles_all names clauses order within whole set total c l at here =
    let below : l.name < names = All-contains (λ (m : Lit). m.name < names) c l (All-contains (AreNamed names) clauses c within at) here in
    let (sign, stands) = whole l.name below in
    let o : Lit = record { name = l.name; positive = sign } in
    let (q, is) = decision_sign set o in
    let decided : Contains (signed named set order) (decision set o) = mapped (decision set) order o stands in
    let within_closure : IsInClosure named clauses (signed named set order) (decision set o) = λ s closed. closed.decided (decision set o) decided in
    let P : Lit → Type 0 = λ x. IsInClosure named clauses (signed named set order) x in
    elim (one_of_two l l.positive q refl) [
      | inl own ↦ inl (subst P (is ∙ sym own) within_closure)
      | inr other ↦ inr (subst P (is ∙ sym other) within_closure)
    ]
