-- Where every input is a member: First is the mask, each set is full, and nothing is revealed.
use Rattle.std.proofs.Common.{◌≡◌, ℕ, zero, suc, ◌+◌, ◌-◌, ◌*◌, ◌<◌, ◌≤◌, Bool, true, List, [], ◌∷◌, length, map, replicate, refl, ap, ◌∙◌, arith, ⊎_elim}
use Rattle.std.specs.Prelude.{Some, nat_lt, slice_set, IsTrue}
use Rattle.std.specs.List.{range_with_len}
use mathlib.Core.Path.{fun_ext}
use Rattle.std.proofs.lemmas.Bool.{cases_lt, lt-ltb, le-ltb}
use Rattle.std.proofs.lemmas.List.Elements.{All-nil}
use Rattle.std.proofs.lemmas.List.Folds.{sum_by-replicate}
use Rattle.input_laws.specs.Inputs.{IsInput, bytes}
use Rattle.input_laws.specs.Order.{IsFirst, first}
use Rattle.input_laws.specs.Parts.{Part, LooksAtItsPlaces, TakesFirstOf}
use Rattle.input_laws.specs.Sets.{size, floor_log2, revealed, freed, freed_sets}
use Rattle.input_laws.proofs.Bound.{floor_log2-is}
use Rattle.input_laws.proofs.ByteByByte.{input_with}
use Rattle.input_laws.proofs.InOrder.{first_from_first_member}
use Rattle.input_laws.proofs.Parts.{first_from_parts}

-- Every value of a byte.
abbrev full : ℕ → Bool
full v = nat_lt v 256

-- With no part, every place is free.
mask_is_first : (n : ℕ) (mask : List ℕ) (member : List ℕ → Bool) → IsInput n mask → ((y : List ℕ) → IsInput n y → IsTrue (member y)) → IsFirst n mask member mask
mask_is_first n mask member a every =
    first_from_parts n mask member [] mask (λ y b. (λ _. All-nil (λ (part : Part). IsTrue (part.test y)), λ _. every y b)) (All-nil LooksAtItsPlaces) a (All-nil (TakesFirstOf n mask mask)) (λ k l free. refl)

-- The mask itself is the first input.
pub first_is_mask : (n : ℕ) (mask : List ℕ) (member : List ℕ → Bool) → IsInput n mask → ((y : List ℕ) → IsInput n y → IsTrue (member y)) → first mask member ≡ Some mask
first_is_mask n mask member a every =
    first_from_first_member mask member mask a.in_range (mask_is_first (length mask) mask member (record { long = refl; in_range = a.in_range }) (λ y b. every y (record { long = b.long ∙ a.long; in_range = b.in_range })))

-- Each place can take every byte.
freed_is_full : (n : ℕ) (y : List ℕ) (member : List ℕ → Bool) (i : ℕ) → IsInput n y → ((z : List ℕ) → IsInput n z → IsTrue (member z)) → freed member y i ≡ full
freed_is_full n y member i a every = fun_ext (λ v.
    ⊎_elim
    (λ (l : v < 256). let m : member (slice_set y i v) ≡ true = every (slice_set y i v) (input_with n y i v a l) in rw (lt-ltb v 256 l, m) refl)
    (λ (h : 256 ≤ v). rw (le-ltb v 256 h) refl)
    (cases_lt v 256))

-- As many copies of what the function gives everywhere.
map-constant : {X : Type 0} (f : ℕ → X) (x : X) (a n : ℕ) → ((i : ℕ) → f i ≡ x) → map f (range_with_len a n) ≡ replicate n x
map-constant f x a zero same = refl
map-constant f x a (suc n) same = ap (λ y. y ∷ map f (range_with_len (a + 1) n)) (same a) ∙ ap (λ xs. x ∷ xs) (map-constant f x (a + 1) n same)

-- The freed sets are as many full sets as the input has bytes.
pub sets_are_full : (n : ℕ) (y : List ℕ) (member : List ℕ → Bool) → IsInput n y → ((z : List ℕ) → IsInput n z → IsTrue (member z)) → freed_sets member y ≡ replicate n (λ v. nat_lt v 256)
sets_are_full n y member a every = map-constant (freed member y) full 0 (length y) (λ i. freed_is_full n y member i a every) ∙ ap (λ k. replicate k full) a.long

-- The full set has 256 values.
size-full : size full ≡ 256
unfolding bytes
size-full = refl

-- A full set reveals nothing.
bits_of_full : 8 - floor_log2 (size full) ≡ 0
bits_of_full = ap (λ s. 8 - floor_log2 s) size-full ∙ ap (λ k. 8 - k) (floor_log2-is 256 8 (omega arith) (omega arith))

-- Full sets reveal nothing.
pub full_sets_reveal_nothing : (n : ℕ) → revealed (replicate n (λ v. nat_lt v 256)) ≡ 0
full_sets_reveal_nothing n = sum_by-replicate (λ set. 8 - floor_log2 (size set)) n full ∙ (ap (λ k. n * k) bits_of_full ∙ omega arith)
