-- The sets of a narrow part keep its test.
use Rattle.std.proofs.Common.{◌≡◌, ◌≢◌, ℕ, ◌<◌, inl, inr, Bool, true, false, cond, List, [], ◌∷◌, length, ap, sym, ◌∙◌, arith, ⊎_elim}
use Rattle.std.specs.Prelude.{filter, slice_index, slice_set, IsTrue, nat_lt}
use Rattle.std.specs.List.{list_all}
use Rattle.std.proofs.lemmas.List.{length-set, get_or-set_same, get_or-set_other}
use Rattle.std.proofs.lemmas.Bool.{and_parts}
use Rattle.input_laws.specs.Inputs.{bytes, IsInput}
use Rattle.input_laws.specs.Order.{SameOn}
use Rattle.input_laws.specs.Sets.{set_at, freed}
use Rattle.input_laws.specs.Parts.{Part, LooksAtItsPlaces, KeepPart}
use Rattle.input_laws.specs.Narrow.{IsOnly, IsPair, freed_beside}
use Rattle.input_laws.proofs.Inputs.{Among, among_bytes}

-- An item in the set is among those that are kept.
pub among_filter : (set : ℕ → Bool) (b : ℕ) (xs : List ℕ) → set b ≡ true → Among b xs → Among b (filter set xs)
among_filter set b [] t a = absurd a
among_filter set b (x ∷ xs) t (inl e) = rw (rw e at t) (inl e)
among_filter set b (x ∷ xs) t (inr a) = kept (set x) (among_filter set b xs t a)
  where
    kept : (s : Bool) → Among b (filter set xs) → Among b (cond s (x ∷ filter set xs) (filter set xs))
    kept true h = inr h
    kept false h = h

-- What holds of all items holds of each.
pub list_all_among : (test : ℕ → Bool) (b : ℕ) (xs : List ℕ) → list_all test xs ≡ true → Among b xs → test b ≡ true
list_all_among test b [] t a = absurd a
list_all_among test b (x ∷ xs) t (inl e) = rw e (and_parts (test x) (list_all test xs) t).0
list_all_among test b (x ∷ xs) t (inr a) = list_all_among test b xs (and_parts (test x) (list_all test xs) t).1 a

-- The freed bytes of the only place keep the part's test.
pub only_keeps : (part : Part) (sets : List (ℕ → Bool)) (own : List ℕ) (i : ℕ) → IsOnly part i → LooksAtItsPlaces part → IsInput (length sets) own → i < length sets → IsTrue (part.places i) → set_at sets i ≡ freed part.test own i → KeepPart sets part
only_keeps part sets own i only looks a h is e y b in' =
    let v : ℕ = slice_index y i in
    let t : freed part.test own i v ≡ true = ap (λ s. s v) (sym e) ∙ in' i h is in
    let same : SameOn part.places (slice_set own i v) y = λ k p. rw (only k p) (get_or-set_same own i v 0 (rw a.long h)) in
    sym (looks (slice_set own i v) y same) ∙ (and_parts (nat_lt v 256) (part.test (slice_set own i v)) t).1

-- The higher place's bytes that pass with each of the lower place's keep the part's test.
pub pair_keeps : (part : Part) (sets : List (ℕ → Bool)) (own : List ℕ) (i j : ℕ) → IsPair part i j → LooksAtItsPlaces part → IsInput (length sets) own → i < j → j < length sets → IsTrue (part.places i) → IsTrue (part.places j) → set_at sets j ≡ freed_beside part.test (set_at sets i) own i j → KeepPart sets part
pair_keeps part sets own i j pair looks a h l is_i is_j e y b in' =
    let v : ℕ = slice_index y i in
    let w : ℕ = slice_index y j in
    let low : v < 256 = b.in_range i 0 (rw b.long (omega arith)) in
    let first : set_at sets i v ≡ true = in' i (omega arith) is_i in
    let t : freed_beside part.test (set_at sets i) own i j w ≡ true = ap (λ s. s w) (sym e) ∙ in' j l is_j in
    let all : list_all (λ u. part.test (slice_set (slice_set own i u) j w)) (filter (set_at sets i) bytes) ≡ true = (and_parts (nat_lt w 256) (list_all (λ u. part.test (slice_set (slice_set own i u) j w)) (filter (set_at sets i) bytes)) t).1 in
    let passes : part.test (slice_set (slice_set own i v) j w) ≡ true = list_all_among (λ u. part.test (slice_set (slice_set own i u) j w)) v (filter (set_at sets i) bytes) all (among_filter (set_at sets i) v bytes first (among_bytes v low)) in
    let within : i < length own = rw a.long (omega arith) in
    let within_j : j < length (slice_set own i v) = rw (length-set own i v, a.long) l in
    let apart : i ≢ j = omega arith in
    let same : SameOn part.places (slice_set (slice_set own i v) j w) y = λ k p.
    ⊎_elim
    (λ (k_i : k ≡ i). rw (k_i, get_or-set_other (slice_set own i v) j i w 0 apart) (get_or-set_same own i v 0 within))
    (λ (k_j : k ≡ j). rw k_j (get_or-set_same (slice_set own i v) j w 0 within_j))
    (pair k p) in
    sym (looks (slice_set (slice_set own i v) j w) y same) ∙ passes
