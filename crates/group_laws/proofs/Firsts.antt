-- The first place of a group is the least, the places that a condition reads have one first place, and no group can be cut.
use Rattle.std.proofs.Common.{◌≡◌, ◌∙◌, ℕ, zero, suc, ◌+◌, ◌<◌, ◌≤◌, inl, inr, Bool, true, false, cond, ◌&&◌, List, [], ◌∷◌, get_or, refl, sym, ap, arith}
use Rattle.std.specs.Prelude.{Some, Contains, find, nat_eq, unwrap_or}
use Rattle.std.specs.List.{list_any, range_with_len}
use Rattle.std.proofs.lemmas.List.FromFn.{length-range_with_len, get_or-range_with_len}
use Rattle.std.proofs.lemmas.Bool.{and_parts, and_from, cases_Bool, cases_eq, both_ways}
use Rattle.std.proofs.lemmas.Bool.Decides.{nat_tests}
use Rattle.term_model.specs.Tree.{Tree}
use Rattle.term_model.specs.Places.{reads}
use Rattle.group_model.specs.Division.{IsSteadyOn}
use Rattle.group_model.proofs.HoldLemmas.{one_truth, same_number}
use Rattle.group_laws.specs.Groups.{meets, first_with, first_of}
use Rattle.group_laws.proofs.Lists.{any_here, any_found, Found, contains_first, contains_later}

-- ---- numbers as tests

-- the test finds a number equal to itself
pub itself : (x : ℕ) → nat_eq x x ≡ true
itself x = grind (arith, nat_tests)

-- ---- ranges

-- the numbers of a range from 0
pub in_range : (n i : ℕ) → i < n → Contains (range_with_len 0 n) i
in_range n i l =
    let e : get_or (range_with_len 0 n) i i ≡ 0 + i = get_or-range_with_len 0 n i i l in
    (i, rw (length-range_with_len 0 n) l, omega (arith, e))

-- a number of a range from 0 is below its end
pub below_end : (n i : ℕ) → Contains (range_with_len 0 n) i → i < n
below_end n i c =
    let l : c.0 < n = rw (length-range_with_len 0 n) at c.1 in
    let e : get_or (range_with_len 0 n) c.0 i ≡ 0 + c.0 = get_or-range_with_len 0 n c.0 i l in
    omega (arith, c.2)

-- the first number of a range that passes, which is at most another that passes
record Least (p : ℕ → Bool) (a n i : ℕ) : Type 0 where
  pub place : ℕ
  pub found : find p (range_with_len a n) ≡ Some place
  pub passes : p place ≡ true
  pub inside : place < a + n
  pub low : place ≤ i

least : (p : ℕ → Bool) (a n i : ℕ) → a ≤ i → i < a + n → p i ≡ true → Least p a n i
least p a zero i low inside t = absurd (omega arith)
least p a (suc n) i low inside t = elim (cases_Bool (p a)) [
  | inl passes ↦ record { place = a; found = rw passes refl; passes = passes; inside = omega arith; low = low }
  | inr fails ↦ elim (cases_eq a i) [
    | inl same ↦ absurd (both_ways (p a) fails (rw same t))
    | inr differ ↦ (let r : Least p (a + 1) n i = least p (a + 1) n i (omega arith) (omega arith) t in
        record { place = r.place; found = rw fails r.found; passes = r.passes; inside = (let l : r.place < a + 1 + n = r.inside in omega arith); low = r.low })
  ]
]

-- ---- one condition more

-- the first places of groups are first: none is above its place, and each is its own
record AreFirst (n : ℕ) (first : ℕ → ℕ) : Type 0 where
  pub low : (i : ℕ) → i < n → first i ≤ i
  pub again : (i : ℕ) → i < n → first (first i) ≡ first i

module _ (n : ℕ) (first : ℕ → ℕ) (t : Tree) where
  -- places of one group are met together
  met_together : (i j : ℕ) → first i ≡ first j → meets first n t i ≡ meets first n t j
  met_together i j e = ap (λ k. list_any (λ l. reads t l && nat_eq (first l) k) (range_with_len 0 n)) e

  -- a place that the condition reads is met
  read_is_met : (i : ℕ) → i < n → reads t i ≡ true → meets first n t i ≡ true
  read_is_met i l r = any_here (λ j. reads t j && nat_eq (first j) (first i)) (range_with_len 0 n) i (in_range n i l) (and_from (reads t i) (nat_eq (first i) (first i)) r (itself (first i)))

  -- a group that is not met stays
  not_met : (i : ℕ) → meets first n t i ≡ false → first_with first n t i ≡ first i
  not_met i fails = ap (λ b. cond b (unwrap_or (find (meets first n t) (range_with_len 0 n)) i) (first i)) fails

  -- all groups that are met have the first place that is
  met : (i p : ℕ) → meets first n t i ≡ true → find (meets first n t) (range_with_len 0 n) ≡ Some p → first_with first n t i ≡ p
  met i p passes found =
      ap (λ b. cond b (unwrap_or (find (meets first n t) (range_with_len 0 n)) i) (first i)) passes
      ∙ ap (λ o. unwrap_or o i) found

  least_met : (i : ℕ) → i < n → meets first n t i ≡ true → Least (meets first n t) 0 n i
  least_met i l passes = least (meets first n t) 0 n i (omega arith) (omega arith) passes

  -- places that are met are of one group
  met_are_one : (i j : ℕ) → i < n → meets first n t i ≡ true → meets first n t j ≡ true → first_with first n t i ≡ first_with first n t j
  met_are_one i j l a b = let m : Least (meets first n t) 0 n i = least_met i l a in met i m.place a m.found ∙ sym (met j m.place b m.found)

  -- places of one group stay so
  one_group_stays : (i j : ℕ) → i < n → first i ≡ first j → first_with first n t i ≡ first_with first n t j
  one_group_stays i j l e = elim (cases_Bool (meets first n t i)) [
    | inl passes ↦ met_are_one i j l passes (sym (met_together i j e) ∙ passes)
    | inr fails ↦ not_met i fails ∙ (e ∙ sym (not_met j (sym (met_together i j e) ∙ fails)))
  ]

  are_first_with : AreFirst n first → AreFirst n (first_with first n t)
  are_first_with are = record { low = low; again = again }
    where
      low : (i : ℕ) → i < n → first_with first n t i ≤ i
      low i l = elim (cases_Bool (meets first n t i)) [
        | inl passes ↦ (let m : Least (meets first n t) 0 n i = least_met i l passes in let e : first_with first n t i ≡ m.place = met i m.place passes m.found in let b : m.place ≤ i = m.low in omega (arith, e))
        | inr fails ↦ (let e : first_with first n t i ≡ first i = not_met i fails in let b : first i ≤ i = are.low i l in omega (arith, e))
      ]

      again : (i : ℕ) → i < n → first_with first n t (first_with first n t i) ≡ first_with first n t i
      again i l = elim (cases_Bool (meets first n t i)) [
        | inl passes ↦ (let m : Least (meets first n t) 0 n i = least_met i l passes in
            let e : first_with first n t i ≡ m.place = met i m.place passes m.found in
            ap (first_with first n t) e ∙ (met m.place m.place m.passes m.found ∙ sym e))
        | inr fails ↦ (let e : first_with first n t i ≡ first i = not_met i fails in
            ap (first_with first n t) e ∙ (not_met (first i) (met_together (first i) i (are.again i l) ∙ fails) ∙ (are.again i l ∙ sym e)))
      ]

  module _ (side : ℕ → Bool) (steady : IsSteadyOn side t) (before : (i : ℕ) → i < n → side i ≡ side (first i)) where
    -- a place that is met is on the side of each place that the condition reads
    side_of_met : (i : ℕ) → i < n → meets first n t i ≡ true → (j : ℕ) → reads t j ≡ true → side i ≡ side j
    side_of_met i l passes j r =
        let f : Found (λ k. reads t k && nat_eq (first k) (first i)) (range_with_len 0 n) = any_found (λ k. reads t k && nat_eq (first k) (first i)) (range_with_len 0 n) passes in
        let parts : (reads t f.item ≡ true) × (nat_eq (first f.item) (first i) ≡ true) = and_parts (reads t f.item) (nat_eq (first f.item) (first i)) f.passes in
        before i l
        ∙ (ap side (sym (same_number (first f.item) (first i) parts.1))
        ∙ (sym (before f.item (below_end n f.item f.inside)) ∙ steady f.item j parts.0 r))

    read_of_met : (i : ℕ) → meets first n t i ≡ true → (j : ℕ) × (reads t j ≡ true)
    read_of_met i passes =
        let f : Found (λ k. reads t k && nat_eq (first k) (first i)) (range_with_len 0 n) = any_found (λ k. reads t k && nat_eq (first k) (first i)) (range_with_len 0 n) passes in
        (f.item, (and_parts (reads t f.item) (nat_eq (first f.item) (first i)) f.passes).0)

    side_with : (i : ℕ) → i < n → side i ≡ side (first_with first n t i)
    side_with i l = elim (cases_Bool (meets first n t i)) [
      | inl passes ↦ (let m : Least (meets first n t) 0 n i = least_met i l passes in
          let inside : m.place < 0 + n = m.inside in
          let j = read_of_met i passes in
          side_of_met i l passes j.0 j.1 ∙ (sym (side_of_met m.place (omega arith) m.passes j.0 j.1) ∙ ap side (sym (met i m.place passes m.found))))
      | inr fails ↦ before i l ∙ ap side (sym (not_met i fails))
    ]

-- ---- all conditions

are_first : (cs : List Tree) (n : ℕ) → AreFirst n (first_of cs n)
unfolding first_of
are_first [] n = record { low = λ i l. omega arith; again = λ i l. refl }
are_first (t ∷ cs) n = are_first_with n (first_of cs n) t (are_first cs n)

-- a first place is at most its place
pub first_is_low : (cs : List Tree) (n i : ℕ) → i < n → first_of cs n i ≤ i
first_is_low cs n i l = (are_first cs n).low i l

-- a first place is its own
pub first_is_first : (cs : List Tree) (n i : ℕ) → i < n → first_of cs n (first_of cs n i) ≡ first_of cs n i
first_is_first cs n i l = (are_first cs n).again i l

-- the places that a condition reads have one first place
pub read_together : (cs : List Tree) (n : ℕ) (t : Tree) (i j : ℕ) → Contains cs t → reads t i ≡ true → reads t j ≡ true → i < n → j < n → first_of cs n i ≡ first_of cs n j
unfolding first_of
read_together [] n t i j (k, l, e) r s a b = absurd (omega arith)
read_together (c ∷ cs) n t i j (zero, l, e) r s a b =
    met_are_one n (first_of cs n) c i j a
    (read_is_met n (first_of cs n) c i a (ap (λ u. reads u i) e ∙ r))
    (read_is_met n (first_of cs n) c j b (ap (λ u. reads u j) e ∙ s))
read_together (c ∷ cs) n t i j (suc k, l, e) r s a b = one_group_stays n (first_of cs n) c i j a (read_together cs n t i j (k, omega arith, e) r s a b)

-- a test that is steady on each condition is steady on each group
pub side_of_first : (cs : List Tree) (n : ℕ) (side : ℕ → Bool) → ((t : Tree) → Contains cs t → IsSteadyOn side t) → (i : ℕ) → i < n → side i ≡ side (first_of cs n i)
unfolding first_of
side_of_first [] n side steady i l = refl
side_of_first (c ∷ cs) n side steady i l =
    side_with n (first_of cs n) c side (steady c (contains_first c cs)) (λ k m. side_of_first cs n side (λ t d. steady t (contains_later c cs t d)) k m) i l

-- a place that no condition reads is the first of its own
pub first_of_unread : (cs : List Tree) (n i : ℕ) → i < n → ((t : Tree) → Contains cs t → reads t i ≡ true → ⊥) → first_of cs n i ≡ i
first_of_unread cs n i l none =
    same_number (first_of cs n i) i (sym (side_of_first cs n (λ k. nat_eq k i) (λ t c a b r s. one_truth (nat_eq a i) (nat_eq b i)
    (λ e. absurd (none t c (rw (← same_number a i e) r)))
    (λ e. absurd (none t c (rw (← same_number b i e) s)))) i l) ∙ itself i)

-- the first place of a place that is read is read
pub first_is_read : (cs : List Tree) (n i : ℕ) → i < n → list_any (λ t. reads t i) cs ≡ true → list_any (λ t. reads t (first_of cs n i)) cs ≡ true
first_is_read cs n i l read =
    sym (side_of_first cs n (λ k. list_any (λ t. reads t k) cs) (λ t c a b r s.
    any_here (λ u. reads u a) cs t c r ∙ sym (any_here (λ u. reads u b) cs t c s)) i l) ∙ read
