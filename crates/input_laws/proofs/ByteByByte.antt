-- Membership byte by byte: First takes the least of each set, and freeing a place gives back its set.
use Rattle.std.proofs.Common.{◌≡◌, ◌≢◌, ℕ, zero, suc, ◌<◌, ◌≤◌, Bool, true, false, List, [], ◌∷◌, length, set, refl, ap, sym, ◌∙◌, arith, ⊎_elim}
use Rattle.std.specs.Prelude.{All, slice_index, slice_set, bit_xor, IsTrue}
use Rattle.std.proofs.lemmas.List.{length-set, get_or-set_same, get_or-set_other}
use Rattle.std.proofs.lemmas.List.Elements.{All-set, All-nil, All-cons}
use Rattle.std.proofs.lemmas.Bool.{cases_eq, lt-ltb}
use Rattle.input_laws.specs.Inputs.{IsInput}
use Rattle.input_laws.specs.Order.{ComesBefore, IsFirst}
use Rattle.input_laws.specs.Sets.{IsChoice, set_at, IsByteByByte, TakesLeast, freed}
use Rattle.input_laws.proofs.Order.{comes_first, same_from_xor}

-- ---- choices

-- A choice has bytes.
choice_in_range : (sets : List (ℕ → Bool)) (y : List ℕ) → IsChoice sets y → All (λ b. b < 256) y
choice_in_range [] [] c = All-nil (λ b. b < 256)
choice_in_range [] (b ∷ y) c = absurd c
choice_in_range (set ∷ sets) [] c = absurd c
choice_in_range (set ∷ sets) (b ∷ y) c = All-cons (λ b. b < 256) b y c.0.0 (choice_in_range sets y c.1)

-- A choice has as many bytes as there are sets.
choice_length : (sets : List (ℕ → Bool)) (y : List ℕ) → IsChoice sets y → length y ≡ length sets
choice_length [] [] c = refl
choice_length [] (b ∷ y) c = absurd c
choice_length (set ∷ sets) [] c = absurd c
choice_length (set ∷ sets) (b ∷ y) c = ap suc (choice_length sets y c.1)

-- A choice is an input.
pub choice_is_input : (sets : List (ℕ → Bool)) (y : List ℕ) → IsChoice sets y → IsInput (length sets) y
choice_is_input sets y c = record { long = choice_length sets y c; in_range = choice_in_range sets y c }

-- Each byte of a choice is in the set of its place.
pub choice_at : (sets : List (ℕ → Bool)) (y : List ℕ) (i : ℕ) → IsChoice sets y → i < length sets → (slice_index y i < 256) × IsTrue (set_at sets i (slice_index y i))
choice_at [] y i c h = absurd (omega arith)
choice_at (set ∷ sets) [] i c h = absurd c
choice_at (set ∷ sets) (b ∷ y) zero c h = c.0
choice_at (set ∷ sets) (b ∷ y) (suc i) c h = choice_at sets y i c.1 (omega arith)

-- A choice with another byte of the set of a place is a choice.
pub choice_with : (sets : List (ℕ → Bool)) (y : List ℕ) (i v : ℕ) → IsChoice sets y → v < 256 → IsTrue (set_at sets i v) → IsChoice sets (slice_set y i v)
choice_with [] [] i v c h is = c
choice_with [] (b ∷ y) i v c h is = absurd c
choice_with (set ∷ sets) [] i v c h is = absurd c
choice_with (set ∷ sets) (b ∷ y) zero v c h is = ((h, is), c.1)
choice_with (set ∷ sets) (b ∷ y) (suc i) v c h is = (c.0, choice_with sets y i v c.1 h is)

-- An input with another byte at a place is an input.
pub input_with : (n : ℕ) (y : List ℕ) (i v : ℕ) → IsInput n y → v < 256 → IsInput n (slice_set y i v)
input_with n y i v a h = record { long = length-set y i v ∙ a.long; in_range = All-set (λ b. b < 256) y i v h a.in_range }

-- ---- First takes the least of each set

-- A choice of the least of each set comes before every other member.
pub first_from_least : (mask : List ℕ) (member : List ℕ → Bool) (sets : List (ℕ → Bool)) (y : List ℕ) → IsByteByByte member sets → TakesLeast mask sets y → IsFirst (length sets) mask member y
first_from_least mask member sets y by t =
    record {
      is_input = choice_is_input sets y t.choice;
      is_member = (by y (choice_is_input sets y t.choice)).1 t.choice;
      before = λ z b m. comes_first (length sets) mask y z (choice_is_input sets y t.choice) b (λ d.
          let at : (slice_index z d.at < 256) × IsTrue (set_at sets d.at (slice_index z d.at)) = choice_at sets z d.at ((by z b).0 m) d.within in
          let l : bit_xor (slice_index y d.at) (slice_index mask d.at) ≤ bit_xor (slice_index z d.at) (slice_index mask d.at) = t.least d.at (slice_index z d.at) d.within at.0 at.1 in
          let ne : bit_xor (slice_index y d.at) (slice_index mask d.at) ≢ bit_xor (slice_index z d.at) (slice_index mask d.at) = λ e. d.differ (same_from_xor (slice_index y d.at) (slice_index z d.at) (slice_index mask d.at) e) in
          omega arith);
    }

-- If y comes before y with v at place i, its byte there xor the mask's is less.
less_at : (mask y : List ℕ) (i v : ℕ) → i < length y → ComesBefore mask y (slice_set y i v) → bit_xor (slice_index y i) (slice_index mask i) ≤ bit_xor v (slice_index mask i)
less_at mask y i v h c =
    ⊎_elim
    (λ (e : c.at ≡ i). let l = rw (e, get_or-set_same y i v 0 h) at c.less in omega (arith, l))
    (λ (ne : c.at ≡ i → ⊥). let l = rw (get_or-set_other y i c.at v 0 ne) at c.less in absurd (omega (arith, l)))
    (cases_eq c.at i)

-- The first member takes the least of each set.
pub least_from_first : (mask : List ℕ) (member : List ℕ → Bool) (sets : List (ℕ → Bool)) (y : List ℕ) → IsByteByByte member sets → IsFirst (length sets) mask member y → TakesLeast mask sets y
least_from_first mask member sets y by f =
    let choice : IsChoice sets y = (by y f.is_input).0 f.is_member in
    record {
      choice = choice;
      least = λ i v h below is.
          let other : IsInput (length sets) (slice_set y i v) = input_with (length sets) y i v f.is_input below in
          let within : i < length y = rw f.is_input.long h in
          ⊎_elim
          (λ (e : y ≡ slice_set y i v). let same : slice_index y i ≡ v = ap (λ z. slice_index z i) e ∙ get_or-set_same y i v 0 within in rw same (omega arith))
          (λ (c : ComesBefore mask y (slice_set y i v)). less_at mask y i v within c)
          (f.before (slice_set y i v) other ((by (slice_set y i v) other).1 (choice_with sets y i v choice below is)));
    }

-- ---- freeing a place

-- Two tests that are true together are the same.
same_Bool : (a b : Bool) → (a ≡ true → b ≡ true) → (b ≡ true → a ≡ true) → a ≡ b
same_Bool true true f g = refl
same_Bool true false f g = sym (f refl)
same_Bool false true f g = g refl
same_Bool false false f g = refl

-- The bytes that a place of a member can take are the set of that place.
pub freed_is_set : (member : List ℕ → Bool) (sets : List (ℕ → Bool)) (y : List ℕ) → IsByteByByte member sets → IsInput (length sets) y → IsTrue (member y) → (i v : ℕ) → i < length sets → v < 256 → freed member y i v ≡ set_at sets i v
freed_is_set member sets y by a m i v h below =
    let choice : IsChoice sets y = (by y a).0 m in
    let other : IsInput (length sets) (slice_set y i v) = input_with (length sets) y i v a below in
    let within : i < length y = rw a.long h in
    rw (lt-ltb v 256 below) (same_Bool (member (slice_set y i v)) (set_at sets i v)
    (λ t. rw (get_or-set_same y i v 0 within) at (choice_at sets (slice_set y i v) i ((by (slice_set y i v) other).0 t) h).1)
    (λ t. (by (slice_set y i v) other).1 (choice_with sets y i v choice below t)))
