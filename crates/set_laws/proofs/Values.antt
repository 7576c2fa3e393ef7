-- The values of a place, by the number of its group's places.
use Rattle.std.proofs.Common.{◌≡◌, ◌≢◌, ℕ, ◌<◌, inl, inr, Bool, true, cond, List, [], ◌∷◌, length, refl, sym, ◌∙◌, ap, arith}
use Rattle.std.specs.Prelude.{filter, nat_eq, nat_lt, slice_index, slice_set, IsTrue}
use Rattle.std.specs.List.{list_all}
use Rattle.std.proofs.lemmas.List.{get_or-set_other, set-get_or}
use Rattle.std.proofs.lemmas.List.Sums.{list_all-from_AllPass}
use Rattle.std.proofs.lemmas.Bool.{and_parts, and_from, cases_eq, false_from_ne_true, lt-ltb}
use Rattle.term_model.specs.Tree.{Tree}
use Rattle.term_model.specs.Conditions.{Hold, holds}
use Rattle.term_model.proofs.ByteLemmas.{bytes_everywhere}
use Rattle.input_laws.specs.Inputs.{IsInput, bytes}
use Rattle.input_laws.specs.Sets.{freed}
use Rattle.input_laws.specs.Narrow.{freed_beside}
use Rattle.group_model.specs.Group.{IsAscending}
use Rattle.group_model.proofs.HoldLemmas.{passed, same_number}
use Rattle.group_laws.proofs.Firsts.{itself}
use Rattle.group_laws.proofs.Lists.{all_from, kept_passes}
use Rattle.wide_laws.specs.Roots.{wide_values}
use Rattle.wide_laws.proofs.WideLemmas.{own_value}
use Rattle.set_laws.specs.Sets.{values_beside, values_in}

-- at the first place, with the others as they are
pub beside_itself : (test : List ℕ → Bool) (y : List ℕ) (first i : ℕ) → first ≡ i → values_beside test y first i ≡ freed test y i
beside_itself test y first i e = ap (λ b. cond b (freed test y i) (freed_beside test (freed test y first) y first i)) (ap (λ k. nat_eq k i) e ∙ itself i)

-- at another, beside every value of the first
pub beside_other : (test : List ℕ → Bool) (y : List ℕ) (first i : ℕ) → first ≢ i → values_beside test y first i ≡ freed_beside test (freed test y first) y first i
beside_other test y first i differ = ap (λ b. cond b (freed test y i) (freed_beside test (freed test y first) y first i)) (false_from_ne_true (nat_eq first i) (λ t. differ (same_number first i t)))

pub value_alone : (conditions : List Tree) (places first : List ℕ) → length places ≡ 1 → values_in conditions places first (slice_index places 0) ≡ freed (holds conditions) first (slice_index places 0)
value_alone conditions [] first e = absurd (omega arith)
value_alone conditions (p ∷ []) first e = refl
value_alone conditions (p ∷ q ∷ places) first e = absurd (omega arith)

pub value_of_low : (conditions : List Tree) (places first : List ℕ) → length places ≡ 2 → values_in conditions places first (slice_index places 0) ≡ freed (holds conditions) first (slice_index places 0)
value_of_low conditions [] first e = absurd (omega arith)
value_of_low conditions (p ∷ []) first e = absurd (omega arith)
value_of_low conditions (p ∷ q ∷ []) first e = beside_itself (holds conditions) first p p refl
value_of_low conditions (p ∷ q ∷ r ∷ places) first e = absurd (omega arith)

pub value_of_high : (conditions : List Tree) (places first : List ℕ) → length places ≡ 2 → IsAscending places → values_in conditions places first (slice_index places 1) ≡ freed_beside (holds conditions) (freed (holds conditions) first (slice_index places 0)) first (slice_index places 0) (slice_index places 1)
value_of_high conditions [] first e up = absurd (omega arith)
value_of_high conditions (p ∷ []) first e up = absurd (omega arith)
value_of_high conditions (p ∷ q ∷ []) first e up = (let less : p < q = up 0 1 0 (omega arith) (omega arith) in beside_other (holds conditions) first p q (λ s. omega arith))
value_of_high conditions (p ∷ q ∷ r ∷ places) first e up = absurd (omega arith)

pub value_of_wide : (conditions : List Tree) (places first : List ℕ) (i : ℕ) → 2 < length places → values_in conditions places first i ≡ wide_values conditions first places i
value_of_wide conditions [] first i l = absurd (omega arith)
value_of_wide conditions (p ∷ []) first i l = absurd (omega arith)
value_of_wide conditions (p ∷ q ∷ []) first i l = absurd (omega arith)
value_of_wide conditions (p ∷ q ∷ r ∷ places) first i l = refl

-- ---- own bytes

-- the own byte of an input that passes is among the values beside another place's
own_beside : (member : List ℕ → Bool) (n : ℕ) (y : List ℕ) (i j : ℕ) → IsInput n y → IsTrue (member y) → i < n → j ≢ i → freed_beside member (freed member y j) y j i (slice_index y i) ≡ true
own_beside member n y i j a m l differ =
    let byte : slice_index y i < 256 = a.in_range i 0 (rw a.long l) in
    let apart : i ≢ j = λ e. differ (sym e) in
    let test : ℕ → Bool = λ v. member (slice_set (slice_set y j v) i (slice_index y i)) in
    and_from (nat_lt (slice_index y i) 256) (list_all test (filter (freed member y j) bytes)) (lt-ltb (slice_index y i) 256 byte)
    (list_all-from_AllPass test (filter (freed member y j) bytes) (all_from (λ v. test v ≡ true) (filter (freed member y j) bytes) (λ v c.
    let passes : member (slice_set y j v) ≡ true = (and_parts (nat_lt v 256) (member (slice_set y j v)) (kept_passes (freed member y j) bytes v c)).1 in
    let same : slice_index y i ≡ slice_index (slice_set y j v) i = sym (get_or-set_other y j i v 0 apart) in
    ap (λ b. member (slice_set (slice_set y j v) i b)) same ∙ (ap member (set-get_or (slice_set y j v) i 0) ∙ passes))))

-- the own byte of an input that passes is among the freed values
own_freed : (member : List ℕ → Bool) (n : ℕ) (y : List ℕ) (i : ℕ) → IsInput n y → IsTrue (member y) → i < n → freed member y i (slice_index y i) ≡ true
own_freed member n y i a m l =
    let byte : slice_index y i < 256 = a.in_range i 0 (rw a.long l) in
    and_from (nat_lt (slice_index y i) 256) (member (slice_set y i (slice_index y i))) (lt-ltb (slice_index y i) 256 byte) (ap member (set-get_or y i 0) ∙ m)

-- the own byte of an input that meets the conditions is among the values of its place
pub own_in : (conditions : List Tree) (places : List ℕ) (n : ℕ) (y : List ℕ) (i : ℕ) → IsInput n y → Hold conditions y → i < n → values_in conditions places y i (slice_index y i) ≡ true
own_in conditions [] n y i a h l = lt-ltb (slice_index y i) 256 (bytes_everywhere y a.in_range i)
own_in conditions (p ∷ []) n y i a h l = own_freed (holds conditions) n y i a (passed conditions y h) l
own_in conditions (p ∷ q ∷ []) n y i a h l = elim (cases_eq p i) [
  | inl same ↦ ap (λ s. s (slice_index y i)) (beside_itself (holds conditions) y p i same) ∙ own_freed (holds conditions) n y i a (passed conditions y h) l
  | inr differ ↦ ap (λ s. s (slice_index y i)) (beside_other (holds conditions) y p i differ) ∙ own_beside (holds conditions) n y i p a (passed conditions y h) l differ
]
own_in conditions (p ∷ q ∷ r ∷ places) n y i a h l = own_value (p ∷ q ∷ r ∷ places) conditions y i (bytes_everywhere y a.in_range)
