-- The freed sets of a first member stand for the sets of a membership byte by byte.
use Rattle.std.proofs.Common.{◌≡◌, ℕ, ◌<◌, ◌≤◌, inl, inr, Bool, true, false, cond, List, [], ◌∷◌, length, get_or, set, refl, ap, sym, ◌∙◌, arith, ⊎_elim}
use Rattle.std.specs.Prelude.{All, filter, slice_index, slice_set, IsTrue, nat_lt}
use Rattle.std.specs.List.{range_with_len}
use Rattle.std.proofs.lemmas.List.{set-get_or, ext_get_or}
use Rattle.std.proofs.lemmas.List.Elements.{All-map}
use Rattle.std.proofs.lemmas.Bool.{cases_lt, ltb-true, lt-ltb, and_parts}
use mathlib.Core.Path.{fun_ext}
use Rattle.std.proofs.lemmas.List.FromFn.{length-map-range_with_len, get_or-map-range_with_len}
use Rattle.input_laws.specs.Inputs.{IsInput, bytes}
use Rattle.input_laws.specs.Order.{IsFirst}
use Rattle.input_laws.specs.Sets.{IsByteSet, size, set_at, IsByteByByte, freed, freed_sets}
use Rattle.input_laws.proofs.Inputs.{Among, among_bytes}
use Rattle.input_laws.proofs.ByteByByte.{freed_is_set}

-- ---- sets that are the same

-- Sets that have the same bytes at each place, and nothing else, are the same.
pub same_sets : (sets others : List (ℕ → Bool)) → length sets ≡ length others → All IsByteSet sets → All IsByteSet others → ((i v : ℕ) → i < length sets → v < 256 → set_at sets i v ≡ set_at others i v) → sets ≡ others
same_sets sets others e a b same = ext_get_or (λ _. false) sets others e (λ i h. fun_ext (λ v.
    ⊎_elim
    (λ (l : v < 256). same i v h l)
    (λ (l : 256 ≤ v). none (set_at sets i v) (λ t. let k : v < 256 = a i (λ _. false) h v t in omega arith) ∙ sym (none (set_at others i v) (λ t. let k : v < 256 = b i (λ _. false) (rw e at h) v t in omega arith)))
    (cases_lt v 256)))
  where
    none : (t : Bool) → (t ≡ true → ⊥) → t ≡ false
    none true h = absurd (h refl)
    none false h = refl

-- ---- sets that aren't empty

-- A list with an item in the set keeps at least one item.
counted : (set : ℕ → Bool) (b : ℕ) (xs : List ℕ) → set b ≡ true → Among b xs → 0 < length (filter set xs)
counted set b [] t a = absurd a
counted set b (x ∷ xs) t (inl e) = rw (rw e at t) (omega arith)
counted set b (x ∷ xs) t (inr a) = longer (set x) x (filter set xs) (counted set b xs t a)
  where
    longer : (t : Bool) (x : ℕ) (xs : List ℕ) → 0 < length xs → 0 < length (cond t (x ∷ xs) xs)
    longer true x xs h = omega arith
    longer false x xs h = h

-- A set with a byte is not empty.
pub filled : (set : ℕ → Bool) (b : ℕ) → b < 256 → IsTrue (set b) → 0 < size set
filled set b h t = counted set b bytes t (among_bytes b h)

-- ---- freed sets

-- There are as many freed sets as bytes.
length-freed_sets : (member : List ℕ → Bool) (y : List ℕ) → length (freed_sets member y) ≡ length y
length-freed_sets member y = length-map-range_with_len (freed member y) 0 (length y)

-- The freed set at a place is that of the place.
set_at-freed_sets : (member : List ℕ → Bool) (y : List ℕ) (i v : ℕ) (d : ℕ → Bool) → i < length y → get_or (freed_sets member y) i d v ≡ freed member y i v
set_at-freed_sets member y i v d h = ap (λ s. s v) (get_or-map-range_with_len (freed member y) 0 (length y) i i d h (omega arith))

-- The freed sets have bytes alone.
freed_sets_have_bytes : (member : List ℕ → Bool) (y : List ℕ) → All IsByteSet (freed_sets member y)
freed_sets_have_bytes member y = All-map IsByteSet (freed member y) (range_with_len 0 (length y)) (λ k d h v t. ltb-true v 256 (and_parts (nat_lt v 256) (member (slice_set y (get_or (range_with_len 0 (length y)) k d) v)) t).0)

-- The freed sets of the first member are the sets of the places.
pub freed_sets_are : (mask : List ℕ) (member : List ℕ → Bool) (sets : List (ℕ → Bool)) (first : List ℕ) → All IsByteSet sets → IsByteByByte member sets → IsFirst (length sets) mask member first → freed_sets member first ≡ sets
freed_sets_are mask member sets first bytes by f =
    same_sets (freed_sets member first) sets (length-freed_sets member first ∙ f.is_input.long) (freed_sets_have_bytes member first) bytes (λ i v h b.
    let here : i < length first = omega (arith, length-freed_sets member first) in
    set_at-freed_sets member first i v (λ _. false) here ∙ freed_is_set member sets first by f.is_input f.is_member i v (rw f.is_input.long at here) b)

-- Each freed set of a member has the byte of the member.
pub freed_sets_filled : (member : List ℕ → Bool) (n : ℕ) (y : List ℕ) → IsInput n y → IsTrue (member y) → All (λ set. 0 < size set) (freed_sets member y)
freed_sets_filled member n y a m = λ k d h.
    let here : k < length y = omega (arith, length-freed_sets member y) in
    let same : slice_set y k (slice_index y k) ≡ y = set-get_or y k 0 in
    filled (get_or (freed_sets member y) k d) (slice_index y k) (a.in_range k 0 here) (set_at-freed_sets member y k (slice_index y k) d here ∙ (rw (lt-ltb (slice_index y k) 256 (a.in_range k 0 here)) (ap member same ∙ m)))
