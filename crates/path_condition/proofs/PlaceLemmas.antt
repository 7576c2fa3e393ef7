-- A term is in the list exactly where the map's place for it has it.
use Rattle.std.proofs.Common.{◌≡◌, ◌≢◌, ℕ, zero, suc, ◌==◌, ◌≤◌, ◌<◌, List, [], ◌∷◌, ◌++◌, length, Bool, true, false, Option, Some, None, refl, sym, ap, ◌∙◌, arith, slice_index_or, take, ◌⊎◌, inl, inr}
use Rattle.std.specs.Prelude.{slice_get}
use Rattle.std.specs.Ordering.{nat_cmp}
use Rattle.std.specs.BTreeMap.{BTreeMap, get, Updates, is_at}
use Rattle.std.proofs.lemmas.Bool.{eqb-true, eqb-false, ne_eqb, false≢true}
use Rattle.std.proofs.lemmas.Grind.{common_steps}
use Rattle.path_condition.specs.Listed.{is_listed}
use Rattle.path_condition.specs.Places.{HasPlaces}

-- a term that is listed stands first, or further on
either_listed : (us : List ℕ) (u t : ℕ) (b : Bool) → (u == t) ≡ b → is_listed (u ∷ us) t ≡ true → (u ≡ t) ⊎ (is_listed us t ≡ true)
either_listed us u t true same h = inl (eqb-true u t same)
either_listed us u t false apart h = inr (let rest : is_listed us t ≡ true = grind (arith, common_steps) in rest)

-- a term that is listed has a place
pub listed_at : (terms : List ℕ) (t : ℕ) → is_listed terms t ≡ true → (k : ℕ) × (slice_get terms k ≡ Some t)
listed_at [] t e = absurd (false≢true e)
listed_at (u ∷ us) t e =
    elim (either_listed us u t (u == t) refl e) [
      | inl same ↦ (0, ap Some same)
      | inr rest ↦ let found = listed_at us t rest in (suc found.0, found.1)
    ]

-- the first term of a list is listed
listed_first : (us : List ℕ) (u t : ℕ) → u ≡ t → is_listed (u ∷ us) t ≡ true
listed_first us u t same = grind (arith, common_steps)

-- what is listed further on is listed
listed_later : (us : List ℕ) (u t : ℕ) → is_listed us t ≡ true → is_listed (u ∷ us) t ≡ true
listed_later us u t rest = grind (arith, common_steps)

-- a term that has a place is listed
pub at_listed : (terms : List ℕ) (t k : ℕ) → slice_get terms k ≡ Some t → is_listed terms t ≡ true
at_listed [] t k e = cc
at_listed (u ∷ us) t zero e = listed_first us u t (let same : u ≡ t = cc in same)
at_listed (u ∷ us) t (suc k) e = listed_later us u t (at_listed us t k e)

-- a test that can't be true
pub not_listed : (terms : List ℕ) (t : ℕ) → ((k : ℕ) → slice_get terms k ≡ Some t → ⊥) → is_listed terms t ≡ false
not_listed terms t none = by_test (is_listed terms t) refl
  where
    by_test : (b : Bool) → is_listed terms t ≡ b → b ≡ false
    by_test true e = let found = listed_at terms t e in absurd (none found.0 found.1)
    by_test false e = refl

-- the element at a place of the list
pub item_at : (terms : List ℕ) (k d : ℕ) → k < length terms → slice_get terms k ≡ Some (slice_index_or terms k d)
item_at [] k d h = absurd (omega arith)
item_at (u ∷ us) zero d h = refl
item_at (u ∷ us) (suc k) d h = item_at us k d (omega arith)

-- the map has no place for the term
pub without_place : (terms : List ℕ) (places : BTreeMap ℕ ℕ) → HasPlaces terms places → (t : ℕ) → get nat_cmp places t ≡ None → is_listed terms t ≡ false
without_place terms places has t none = not_listed terms t (λ k e. let here : get nat_cmp places t ≡ Some k = has k t e in let same : Some k ≡ None = sym here ∙ none in cc)

-- the map has a place past the end of the list
pub past_end : (terms : List ℕ) (places : BTreeMap ℕ ℕ) → HasPlaces terms places → (t p : ℕ) → get nat_cmp places t ≡ Some p → length terms ≤ p → is_listed terms t ≡ false
past_end terms places has t p at past = not_listed terms t (λ k e.
    let here : get nat_cmp places t ≡ Some k = has k t e in
    let same : k ≡ p = let pair : Some k ≡ Some p = sym here ∙ at in cc in
    let inside : k < length terms = inside_at terms k t e in
    absurd (omega arith))
  where
    inside_at : (us : List ℕ) (k v : ℕ) → slice_get us k ≡ Some v → k < length us
    inside_at [] k v e = cc
    inside_at (u ∷ us) zero v e = omega arith
    inside_at (u ∷ us) (suc k) v e = omega (arith, inside_at us k v e)

-- the map has a place in the list: the term is listed exactly where it stands there
pub at_place : (terms : List ℕ) (places : BTreeMap ℕ ℕ) → HasPlaces terms places → (t p u : ℕ) → get nat_cmp places t ≡ Some p → slice_get terms p ≡ Some u → (u == t) ≡ is_listed terms t
at_place terms places has t p u at item = by_test (u == t) refl
  where
    by_test : (b : Bool) → (u == t) ≡ b → b ≡ is_listed terms t
    by_test true e = let same : u ≡ t = eqb-true u t e in sym (at_listed terms t p (item ∙ ap Some same))
    by_test false e = sym (not_listed terms t (λ k h.
        let here : get nat_cmp places t ≡ Some k = has k t h in
        let same : k ≡ p = let pair : Some k ≡ Some p = sym here ∙ at in cc in
        let both : Some u ≡ Some t = sym item ∙ ap (slice_get terms) (sym same) ∙ h in
        let equal : u ≡ t = cc in
        absurd (eqb-false u t e equal)))

-- the order's test of equal terms
is_at_eq : (t u : ℕ) → is_at (nat_cmp t) u ≡ (t == u)
is_at_eq t u = grind (arith, common_steps)

-- a new place for a term that isn't listed
pub keeps_places : (terms : List ℕ) (places new : BTreeMap ℕ ℕ) → HasPlaces terms places → (t : ℕ) → is_listed terms t ≡ false → (w : Option ℕ) → Updates nat_cmp places new t w → HasPlaces terms new
keeps_places terms places new has t none w updates k u e =
    let apart : t ≢ u = (λ same. false≢true (sym none ∙ at_listed terms t k (e ∙ ap Some (sym same)))) in
    updates.2 u (is_at_eq t u ∙ ne_eqb t u apart) ∙ has k u e

-- an element of a list with one more
push_at : (ns : List ℕ) (n m k : ℕ) → slice_get (ns ++ n ∷ []) k ≡ Some m → (slice_get ns k ≡ Some m) ⊎ ((k ≡ length ns) × (m ≡ n))
push_at [] n m zero e = let same : m ≡ n = cc in inr (refl, same)
push_at [] n m (suc k) e = cc
push_at (x ∷ ns) n m zero e = inl e
push_at (x ∷ ns) n m (suc k) e = elim (push_at ns n m k e) [ inl h ↦ inl h | inr h ↦ inr (ap suc h.0, h.1) ]

-- the term at the end, at its place
pub pushes_place : (terms : List ℕ) (places new : BTreeMap ℕ ℕ) → HasPlaces terms places → (t : ℕ) → is_listed terms t ≡ false → Updates nat_cmp places new t (Some (length terms)) → HasPlaces (terms ++ t ∷ []) new
pushes_place terms places new has t none updates k u e =
    elim (push_at terms t u k e) [
      | inl h ↦ keeps_places terms places new has t none (Some (length terms)) updates k u h
      | inr h ↦ ap (get nat_cmp new) h.1 ∙ updates.1 ∙ ap Some (sym h.0)
    ]

-- the first terms of a list have the same places
pub first_places : (terms : List ℕ) (places : BTreeMap ℕ ℕ) (n : ℕ) → HasPlaces terms places → HasPlaces (take n terms) places
first_places terms places n has k t e = has k t (within terms n k t e)
  where
    within : (us : List ℕ) (m j v : ℕ) → slice_get (take m us) j ≡ Some v → slice_get us j ≡ Some v
    within us zero j v e = absurd (nothing j v e)
      where
        nothing : (j v : ℕ) → slice_get {X = ℕ} [] j ≡ Some v → ⊥
        nothing j v e = cc
    within [] (suc m) j v e = e
    within (u ∷ us) (suc m) zero v e = e
    within (u ∷ us) (suc m) (suc j) v e = within us m j v e
