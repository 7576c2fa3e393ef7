-- The first bytes and the sets of a group of one place or two.
use Rattle.std.proofs.Common.{◌≡◌, ℕ, zero, suc, ◌<◌, ◌≤◌, ◌&&◌, ◌⊎◌, Bool, true, false, List, [], ◌∷◌, length, get_or, refl, sym, ◌∙◌, ap, subst, inl, inr, arith}
use Rattle.std.specs.Prelude.{All, Contains, filter, nat_lt, slice_index, slice_set, bit_xor, IsTrue}
use Rattle.std.specs.List.{list_all}
use mathlib.Core.Path.{fun_ext}
use Rattle.std.proofs.lemmas.List.{length-set, get_or-set_same, get_or-set_other}
use Rattle.std.proofs.lemmas.Bool.{cases_lt}
use Rattle.std.proofs.lemmas.List.Elements.{All-map}
use Rattle.term_model.specs.Tree.{Tree}
use Rattle.term_model.specs.Words.{AreBytes}
use Rattle.term_arena.specs.Trees.{tree_of, trees_of}
use Rattle.input_laws.specs.Inputs.{bytes}
use Rattle.input_laws.specs.Order.{SameOn, ComesBeforeOn}
use Rattle.input_laws.specs.Parts.{LooksAtItsPlaces}
use Rattle.input_laws.specs.Sets.{freed}
use Rattle.input_laws.specs.Narrow.{freed_beside}
use Rattle.input_laws.proofs.Order.{same_from_xor}
use Rattle.term_model.specs.Places.{reads, ReadsBelow}
use Rattle.term_model.specs.Conditions.{Hold, holds}
use Rattle.term_model.proofs.PlaceLemmas.{below_by_reads}
use Rattle.group_model.specs.Group.{is_among, part_of, IsGroup, IsGroupFirst}
use Rattle.group_model.proofs.HoldLemmas.{among_found, found_among, holds_alike, passed}
use Rattle.narrow_solve.proofs.ValueLemmas.{freed_beside_known, freed_passes}
use Rattle.narrow_solve.specs.Tried.{NoneAt, IsFirstAt, with_pair, NoPairAt, IsFirstPair}

-- ---- a group of one place

-- the test gives one answer on inputs with one byte at the place
abbrev pub LooksAt : (List ℕ → Bool) → ℕ → Type 0
LooksAt test i = (x z : List ℕ) → slice_index x i ≡ slice_index z i → test x ≡ test z

-- the only place of a list of one
only_one : (i k : ℕ) → is_among (i ∷ []) k ≡ true → k ≡ i
only_one i k t = at (among_found (i ∷ []) k t)
  where
    at : Contains (i ∷ []) k → k ≡ i
    at (zero, l, e) = sym e
    at (suc n, l, e) = absurd (omega arith)

-- a group of one place looks at it alone
pub looks_at_one : (i : ℕ) (conditions : List Tree) → LooksAtItsPlaces (part_of (i ∷ []) conditions) → LooksAt (holds conditions) i
looks_at_one i conditions looks x z e = looks x z (λ k t. let is : k ≡ i = only_one i k t in rw is e)

module _ (test : List ℕ → Bool) (i : ℕ) (looks : LooksAt test i) (y : List ℕ) (within : i < length y) where
  -- an input with the value of another there passes as that does
  pub put_passes : (z : List ℕ) → test (slice_set y i (slice_index z i)) ≡ test z
  put_passes z = looks (slice_set y i (slice_index z i)) z (get_or-set_same y i (slice_index z i) 0 within)

  -- some value passes
  pub one_is_there : (z : List ℕ) → AreBytes z → IsTrue (test z) → NoneAt test y i → ⊥
  one_is_there z b t none = let fails : test z ≡ false = sym (put_passes z) ∙ none (slice_index z i) (b i) in cc

  -- the freed values are those of any input
  pub freed_is_one : (z : List ℕ) → i < length z → freed test y i ≡ freed test z i
  freed_is_one z l = fun_ext (λ v. ap (λ b. nat_lt v 256 && b) (looks (slice_set y i v) (slice_set z i v) (get_or-set_same y i v 0 within ∙ sym (get_or-set_same z i v 0 l))))

-- the first value is the group's first
pub one_is_first : (conditions : List Tree) (mask y : List ℕ) (i first : ℕ) → LooksAt (holds conditions) i → i < length y → first < 256 → IsFirstAt (holds conditions) (slice_index mask i) y i first → IsGroupFirst mask (i ∷ []) conditions (first ∷ [])
one_is_first conditions mask y i first looks within byte is = record {
  is_input = record { long = refl; in_range = λ k d l. at_first k d l };
  first = λ n x a below has_at.
      let here : slice_index x i ≡ first = has_at 0 (omega arith) in
      let i_in : i < n = below 0 0 (omega arith) in
      record {
        passes = sym (put_passes (holds conditions) i looks y within x) ∙ (ap (λ v. holds conditions (slice_set y i v)) here ∙ is.passes);
        before = λ z b t.
            let low : slice_index z i < 256 = b.in_range i 0 (rw b.long i_in) in
            let le : bit_xor first (slice_index mask i) ≤ bit_xor (slice_index z i) (slice_index mask i) = is.before (slice_index z i) low (put_passes (holds conditions) i looks y within z ∙ t) in
            elim (cases_lt (bit_xor first (slice_index mask i)) (bit_xor (slice_index z i) (slice_index mask i))) [
              | inl less ↦ inr (record {
                at = i;
                inside = found_among (i ∷ []) i (0, omega arith, refl);
                same_below = λ k h p. let is_i : k ≡ i = only_one i k p in absurd (omega arith);
                less = rw here less;
              })
              | inr more ↦
                  let same : first ≡ slice_index z i = same_from_xor first (slice_index z i) (slice_index mask i) (omega arith) in
                  inl (λ k p. let is_i : k ≡ i = only_one i k p in rw is_i (here ∙ same))
            ];
      };
}
  where
    at_first : (k d : ℕ) → k < length (first ∷ []) → get_or (first ∷ []) k d < 256
    at_first zero d l = byte
    at_first (suc k) d l = absurd (omega arith)

-- ---- a group of two places

-- the test gives one answer on inputs with the same bytes at the two places
abbrev pub LooksAtPair : (List ℕ → Bool) → ℕ → ℕ → Type 0
LooksAtPair test low high = (x z : List ℕ) → slice_index x low ≡ slice_index z low → slice_index x high ≡ slice_index z high → test x ≡ test z

-- the places of a list of two
one_of_two : (low high k : ℕ) → is_among (low ∷ high ∷ []) k ≡ true → (k ≡ low) ⊎ (k ≡ high)
one_of_two low high k t = at (among_found (low ∷ high ∷ []) k t)
  where
    at : Contains (low ∷ high ∷ []) k → (k ≡ low) ⊎ (k ≡ high)
    at (zero, l, e) = inl (sym e)
    at (suc zero, l, e) = inr (sym e)
    at (suc (suc n), l, e) = absurd (omega arith)

-- a group of two places looks at them alone
pub looks_at_two : (low high : ℕ) (conditions : List Tree) → LooksAtItsPlaces (part_of (low ∷ high ∷ []) conditions) → LooksAtPair (holds conditions) low high
looks_at_two low high conditions looks x z e f = looks x z (λ k t. elim (one_of_two low high k t) [ inl is ↦ rw is e | inr is ↦ rw is f ])

-- the bytes of an input in which two were put
pub at_low : (y : List ℕ) (low high v w : ℕ) → low < high → high < length y → slice_index (with_pair y low high v w) low ≡ v
at_low y low high v w less within = get_or-set_other (slice_set y low v) high low w 0 (omega arith) ∙ get_or-set_same y low v 0 (omega arith)

pub at_high : (y : List ℕ) (low high v w : ℕ) → low < high → high < length y → slice_index (with_pair y low high v w) high ≡ w
at_high y low high v w less within = get_or-set_same (slice_set y low v) high w 0 (rw length-set within)

-- the higher byte of an input in which the lower was put
pub high_stays : (y : List ℕ) (low high v : ℕ) → low < high → slice_index (slice_set y low v) high ≡ slice_index y high
high_stays y low high v less = get_or-set_other y low high v 0 (omega arith)

module _ (test : List ℕ → Bool) (low high : ℕ) (looks : LooksAtPair test low high) (less : low < high) (y : List ℕ) (within : high < length y) where
  -- an input with the values of another there passes as that does
  pub pair_passes : (z : List ℕ) → test (with_pair y low high (slice_index z low) (slice_index z high)) ≡ test z
  pair_passes z =
      looks (with_pair y low high (slice_index z low) (slice_index z high)) z
      (at_low y low high (slice_index z low) (slice_index z high) less within)
      (at_high y low high (slice_index z low) (slice_index z high) less within)

  -- some pair passes
  pub pair_is_there : (z : List ℕ) → AreBytes z → IsTrue (test z) → NoPairAt test y low high → ⊥
  pair_is_there z b t none = let fails : test z ≡ false = sym (pair_passes z) ∙ none (slice_index z low) (slice_index z high) (b low) (b high) in cc

  -- the freed values of the lower place are those of any input with one byte at the higher
  pub freed_is_lower : (z : List ℕ) → high < length z → slice_index y high ≡ slice_index z high → freed test y low ≡ freed test z low
  freed_is_lower z l e = fun_ext (λ v. ap (λ b. nat_lt v 256 && b)
      (looks (slice_set y low v) (slice_set z low v)
      (get_or-set_same y low v 0 (omega arith) ∙ sym (get_or-set_same z low v 0 (omega arith)))
      (high_stays y low high v less ∙ (e ∙ sym (high_stays z low high v less)))))

  -- the values that are freed beside others are those of any input
  pub freed_is_higher : (set : ℕ → Bool) (z : List ℕ) → high < length z → freed_beside test set y low high ≡ freed_beside test set z low high
  freed_is_higher set z l = fun_ext (λ w. ap (λ p. nat_lt w 256 && list_all p (filter set bytes)) (fun_ext (λ v.
      looks (with_pair y low high v w) (with_pair z low high v w)
      (at_low y low high v w less within ∙ sym (at_low z low high v w less l))
      (at_high y low high v w less within ∙ sym (at_high z low high v w less l)))))

-- the first pair is the group's first
pub pair_is_first : (conditions : List Tree) (mask y : List ℕ) (low high first second : ℕ) → LooksAtPair (holds conditions) low high → low < high → high < length y → first < 256 → second < 256 → IsFirstPair (holds conditions) (slice_index mask low) (slice_index mask high) y low high first second → IsGroupFirst mask (low ∷ high ∷ []) conditions (first ∷ second ∷ [])
pair_is_first conditions mask y low high first second looks less within byte next is = record {
  is_input = record { long = refl; in_range = in_range };
  first = λ n x a below has_at.
      let here : slice_index x low ≡ first = has_at 0 (omega arith) in
      let there : slice_index x high ≡ second = has_at 1 (omega arith) in
      let low_in : low < n = below 0 0 (omega arith) in
      let high_in : high < n = below 1 0 (omega arith) in
      record {
        passes = sym (pair_passes (holds conditions) low high looks less y within x) ∙ (ap (λ v. holds conditions (with_pair y low high v (slice_index x high))) here ∙ (ap (λ w. holds conditions (with_pair y low high first w)) there ∙ is.passes));
        before = λ z b t.
            let at_most : slice_index z low < 256 = b.in_range low 0 (rw b.long low_in) in
            let at_most_too : slice_index z high < 256 = b.in_range high 0 (rw b.long high_in) in
            later x z here there (is.before (slice_index z low) (slice_index z high) at_most at_most_too (pair_passes (holds conditions) low high looks less y within z ∙ t));
      };
}
  where
    in_range : (k d : ℕ) → k < length (first ∷ second ∷ []) → get_or (first ∷ second ∷ []) k d < 256
    in_range zero d l = byte
    in_range (suc zero) d l = next
    in_range (suc (suc k)) d l = absurd (omega arith)

    later : (x z : List ℕ) → slice_index x low ≡ first → slice_index x high ≡ second →
        (bit_xor first (slice_index mask low) < bit_xor (slice_index z low) (slice_index mask low)) ⊎ ((first ≡ slice_index z low) × (bit_xor second (slice_index mask high) ≤ bit_xor (slice_index z high) (slice_index mask high))) →
        SameOn (is_among (low ∷ high ∷ [])) x z ⊎ ComesBeforeOn (is_among (low ∷ high ∷ [])) mask x z
    later x z here there (inl before) = inr (record {
      at = low;
      inside = found_among (low ∷ high ∷ []) low (0, omega arith, refl);
      same_below = λ k h p. elim (one_of_two low high k p) [ inl e ↦ absurd (omega arith) | inr e ↦ absurd (omega arith) ];
      less = rw here before;
    })
    later x z here there (inr (same, le)) = elim (cases_lt (bit_xor second (slice_index mask high)) (bit_xor (slice_index z high) (slice_index mask high))) [
      | inl before ↦ inr (record {
        at = high;
        inside = found_among (low ∷ high ∷ []) high (1, omega arith, refl);
        same_below = λ k h p. elim (one_of_two low high k p) [ inl e ↦ rw e (here ∙ same) | inr e ↦ absurd (omega arith) ];
        less = rw there before;
      })
      | inr more ↦
          let equal : second ≡ slice_index z high = same_from_xor second (slice_index z high) (slice_index mask high) (omega arith) in
          inl (λ k p. elim (one_of_two low high k p) [ inl e ↦ rw e (here ∙ same) | inr e ↦ rw e (there ∙ equal) ])
    ]

-- ---- groups of an arena

module _ (trees : List Tree) (places terms : List ℕ) (group : IsGroup trees places terms) where
  -- the conditions belong to the arena
  pub group_belongs : All (λ t. t < length trees) terms
  group_belongs k d l = (group.conditions k d l).belongs

  -- the conditions read only below a bound of the places
  pub group_reads : (n : ℕ) → All (λ i. i < n) places → All (λ t. ReadsBelow n (tree_of trees t)) terms
  group_reads n below k d l = below_by_reads n (tree_of trees (get_or terms k d)) (λ i r.
      let at : Contains places i = group.within k d l i r in
      let small : get_or places at.0 i < n = below at.0 i at.1 in
      omega (arith, small, at.2))

  -- the test of the conditions looks at the places alone
  pub group_looks : LooksAtItsPlaces (part_of places (trees_of trees terms))
  group_looks x z same =
      let within : All (λ t. (i : ℕ) → reads t i ≡ true → Contains places i) (trees_of trees terms) = All-map (λ t. (i : ℕ) → reads t i ≡ true → Contains places i) (tree_of trees) terms group.within in
      holds_alike (trees_of trees terms) x z (λ k d l i r. same i (found_among places i (within k d l i r)))

-- a list of one, and a list of two
list_of_one : (xs : List ℕ) → length xs ≡ 1 → xs ≡ slice_index xs 0 ∷ []
list_of_one [] e = absurd (omega arith)
list_of_one (x ∷ []) e = refl
list_of_one (x ∷ y ∷ xs) e = absurd (omega arith)

list_of_two : (xs : List ℕ) → length xs ≡ 2 → xs ≡ slice_index xs 0 ∷ slice_index xs 1 ∷ []
list_of_two [] e = absurd (omega arith)
list_of_two (x ∷ []) e = absurd (omega arith)
list_of_two (x ∷ y ∷ []) e = refl
list_of_two (x ∷ y ∷ z ∷ xs) e = absurd (omega arith)

module _ (trees : List Tree) (places terms : List ℕ) (group : IsGroup trees places terms) (one : length places ≡ 1) where
  -- the test looks at the only place
  pub looks_one : LooksAt (holds (trees_of trees terms)) (slice_index places 0)
  looks_one =
      let P : List ℕ → Type 0 = λ ps. LooksAtItsPlaces (part_of ps (trees_of trees terms)) in
      looks_at_one (slice_index places 0) (trees_of trees terms) (subst P (list_of_one places one) (group_looks trees places terms group))

  -- the first value is the group's first
  pub narrow_one : (mask y : List ℕ) (first : ℕ) → slice_index places 0 < length y → first < 256 → IsFirstAt (holds (trees_of trees terms)) (slice_index mask (slice_index places 0)) y (slice_index places 0) first → IsGroupFirst mask places (trees_of trees terms) (first ∷ [])
  narrow_one mask y first within byte is =
      let P : List ℕ → Type 0 = λ ps. IsGroupFirst mask ps (trees_of trees terms) (first ∷ []) in
      subst P (sym (list_of_one places one)) (one_is_first (trees_of trees terms) mask y (slice_index places 0) first looks_one within byte is)

  -- some value passes
  pub some_one : (y z : List ℕ) → slice_index places 0 < length y → AreBytes z → Hold (trees_of trees terms) z → NoneAt (holds (trees_of trees terms)) y (slice_index places 0) → ⊥
  some_one y z within b h none = one_is_there (holds (trees_of trees terms)) (slice_index places 0) looks_one y within z b (passed (trees_of trees terms) z h) none

  -- the group's first passes in another input
  pub first_passes : (y z : List ℕ) (first : ℕ) → slice_index places 0 < length y → slice_index z (slice_index places 0) ≡ first → Hold (trees_of trees terms) z → IsTrue (holds (trees_of trees terms) (slice_set y (slice_index places 0) first))
  first_passes y z first within e h =
      looks_one (slice_set y (slice_index places 0) first) z (get_or-set_same y (slice_index places 0) first 0 within ∙ sym e) ∙ passed (trees_of trees terms) z h

module _ (trees : List Tree) (places terms : List ℕ) (group : IsGroup trees places terms) (two : length places ≡ 2) where
  -- the places ascend
  pub in_order : slice_index places 0 < slice_index places 1
  in_order = group.ascending 0 1 0 (omega arith) (omega arith)

  -- the test looks at the two places
  pub looks_two : LooksAtPair (holds (trees_of trees terms)) (slice_index places 0) (slice_index places 1)
  looks_two =
      let P : List ℕ → Type 0 = λ ps. LooksAtItsPlaces (part_of ps (trees_of trees terms)) in
      looks_at_two (slice_index places 0) (slice_index places 1) (trees_of trees terms) (subst P (list_of_two places two) (group_looks trees places terms group))

  -- the first pair is the group's first
  pub narrow_two : (mask y : List ℕ) (first second : ℕ) → slice_index places 1 < length y → first < 256 → second < 256 → IsFirstPair (holds (trees_of trees terms)) (slice_index mask (slice_index places 0)) (slice_index mask (slice_index places 1)) y (slice_index places 0) (slice_index places 1) first second → IsGroupFirst mask places (trees_of trees terms) (first ∷ second ∷ [])
  narrow_two mask y first second within byte next is =
      let P : List ℕ → Type 0 = λ ps. IsGroupFirst mask ps (trees_of trees terms) (first ∷ second ∷ []) in
      subst P (sym (list_of_two places two)) (pair_is_first (trees_of trees terms) mask y (slice_index places 0) (slice_index places 1) first second looks_two in_order within byte next is)

  -- some pair passes
  pub some_pair : (y z : List ℕ) → slice_index places 1 < length y → AreBytes z → Hold (trees_of trees terms) z → NoPairAt (holds (trees_of trees terms)) y (slice_index places 0) (slice_index places 1) → ⊥
  some_pair y z within b h none = pair_is_there (holds (trees_of trees terms)) (slice_index places 0) (slice_index places 1) looks_two in_order y within z b (passed (trees_of trees terms) z h) none

  -- the group's first passes in an input that has it, where the lower byte is put there again
  pub pair_first_passes : (y z : List ℕ) (first second : ℕ) → slice_index places 1 < length y → slice_index y (slice_index places 1) ≡ second → slice_index z (slice_index places 0) ≡ first → slice_index z (slice_index places 1) ≡ second → Hold (trees_of trees terms) z → IsTrue (holds (trees_of trees terms) (slice_set y (slice_index places 0) first))
  pair_first_passes y z first second within here e f h =
      looks_two (slice_set y (slice_index places 0) first) z
      (get_or-set_same y (slice_index places 0) first 0 (let o : slice_index places 0 < slice_index places 1 = in_order in omega arith) ∙ sym e)
      (high_stays y (slice_index places 0) (slice_index places 1) first in_order ∙ (here ∙ sym f)) ∙ passed (trees_of trees terms) z h

  -- the higher byte of the group's first passes with every value of the lower place's
  pub second_passes : (y after : List ℕ) (lower : ℕ → Bool) (second : ℕ) → slice_index places 1 < length y → slice_index places 1 < length after → slice_index y (slice_index places 1) ≡ second → second < 256 → lower ≡ freed (holds (trees_of trees terms)) y (slice_index places 0) → IsTrue (freed_beside (holds (trees_of trees terms)) lower after (slice_index places 0) (slice_index places 1) second)
  second_passes y after lower second within still here byte is =
      freed_beside_known (holds (trees_of trees terms)) lower after (slice_index places 0) (slice_index places 1) second byte (λ v t.
      let passes : holds (trees_of trees terms) (slice_set y (slice_index places 0) v) ≡ true = freed_passes (holds (trees_of trees terms)) y (slice_index places 0) v (ap (λ s. s v) (sym is) ∙ t) in
      looks_two (with_pair after (slice_index places 0) (slice_index places 1) v second) (slice_set y (slice_index places 0) v)
      (at_low after (slice_index places 0) (slice_index places 1) v second in_order still ∙ sym (get_or-set_same y (slice_index places 0) v 0 (let o : slice_index places 0 < slice_index places 1 = in_order in omega arith)))
      (at_high after (slice_index places 0) (slice_index places 1) v second in_order still ∙ sym (high_stays y (slice_index places 0) (slice_index places 1) v in_order ∙ here))
      ∙ passes)

  -- the two sets are those of any input that has the group's first
  pub sets_of_two : (y after z : List ℕ) (lower higher : ℕ → Bool) → slice_index places 1 < length y → slice_index places 1 < length after → slice_index places 1 < length z → slice_index y (slice_index places 1) ≡ slice_index z (slice_index places 1) →
      lower ≡ freed (holds (trees_of trees terms)) y (slice_index places 0) →
      higher ≡ freed_beside (holds (trees_of trees terms)) lower after (slice_index places 0) (slice_index places 1) →
      (lower ≡ freed (holds (trees_of trees terms)) z (slice_index places 0)) × (higher ≡ freed_beside (holds (trees_of trees terms)) (freed (holds (trees_of trees terms)) z (slice_index places 0)) z (slice_index places 0) (slice_index places 1))
  sets_of_two y after z lower higher within still there same is beside =
      let test : List ℕ → Bool = holds (trees_of trees terms) in
      let low : ℕ = slice_index places 0 in
      let high : ℕ = slice_index places 1 in
      let first : lower ≡ freed test z low = is ∙ freed_is_lower test low high looks_two in_order y within z there same in
      (first, beside ∙ (ap (λ s. freed_beside test s after low high) first ∙ freed_is_higher test low high looks_two in_order after still (freed test z low) z there))
