-- A first member exists where there is a member: the order is total and transitive.
use Rattle.std.proofs.Common.{◌≡◌, ℕ, ◌<◌, ◌⊎◌, inl, inr, Bool, true, false, List, [], ◌∷◌, refl, sym, ◌∙◌, arith, ⊎_elim}
use Rattle.std.specs.Prelude.{All, slice_index, bit_xor, IsTrue}
use Rattle.std.proofs.lemmas.List.Elements.{All-head, All-tail}
use Rattle.std.proofs.lemmas.Bool.{cases_Bool, cases_order, both_ways}
use Rattle.input_laws.specs.Inputs.{IsInput, all_inputs}
use Rattle.input_laws.specs.Order.{ComesBefore, IsFirst}
use Rattle.input_laws.proofs.Order.{DifferAt, first_difference, same_inputs, same_from_xor}
use Rattle.input_laws.proofs.Inputs.{Among, among_inputs, all_are_inputs}

-- Two inputs are the same, or one comes before the other.
pub total : (n : ℕ) (mask y z : List ℕ) → IsInput n y → IsInput n z → (y ≡ z) ⊎ (ComesBefore mask y z ⊎ ComesBefore mask z y)
total n mask y z a b =
    ⊎_elim
    (λ (same : (k : ℕ) → k < n → slice_index y k ≡ slice_index z k). inl (same_inputs n y z a b same))
    (λ (d : DifferAt n y z).
    ⊎_elim
    (λ (e : bit_xor (slice_index y d.at) (slice_index mask d.at) ≡ bit_xor (slice_index z d.at) (slice_index mask d.at)).
    absurd (d.differ (same_from_xor (slice_index y d.at) (slice_index z d.at) (slice_index mask d.at) e)))
    (λ (h : (bit_xor (slice_index y d.at) (slice_index mask d.at) < bit_xor (slice_index z d.at) (slice_index mask d.at)) ⊎ (bit_xor (slice_index z d.at) (slice_index mask d.at) < bit_xor (slice_index y d.at) (slice_index mask d.at))).
    ⊎_elim
    (λ (l : bit_xor (slice_index y d.at) (slice_index mask d.at) < bit_xor (slice_index z d.at) (slice_index mask d.at)). inr (inl (record { at = d.at; inside = refl; same_below = λ k h _. d.same_below k h; less = l })))
    (λ (l : bit_xor (slice_index z d.at) (slice_index mask d.at) < bit_xor (slice_index y d.at) (slice_index mask d.at)). inr (inr (record { at = d.at; inside = refl; same_below = λ k h _. sym (d.same_below k h); less = l })))
    h)
    (cases_order (bit_xor (slice_index y d.at) (slice_index mask d.at)) (bit_xor (slice_index z d.at) (slice_index mask d.at))))
    (first_difference n y z)

-- What comes before an earlier one comes before a later one.
pub trans : (mask x y z : List ℕ) → ComesBefore mask x y → ComesBefore mask y z → ComesBefore mask x z
trans mask x y z a b =
    ⊎_elim
    (λ (e : a.at ≡ b.at). let l = rw e at a.less in record { at = b.at; inside = refl; same_below = λ k h _. a.same_below k (rw e h) refl ∙ b.same_below k h refl; less = omega (arith, l, b.less) })
    (λ (h : (a.at < b.at) ⊎ (b.at < a.at)).
    ⊎_elim
    (λ (l : a.at < b.at). record { at = a.at; inside = refl; same_below = λ k h _. a.same_below k h refl ∙ b.same_below k (omega arith) refl; less = rw (b.same_below a.at l refl) at a.less })
    (λ (l : b.at < a.at). record { at = b.at; inside = refl; same_below = λ k h _. a.same_below k (omega arith) refl ∙ b.same_below k h refl; less = rw (a.same_below b.at l refl) b.less })
    h)
    (cases_order a.at b.at)

-- y is the first of the members among xs.
record FirstAmong (n : ℕ) (mask : List ℕ) (member : List ℕ → Bool) (xs : List (List ℕ)) (y : List ℕ) : Type 0 where
  is_input : IsInput n y
  is_member : member y ≡ true
  before : (z : List ℕ) → Among z xs → member z ≡ true → (y ≡ z) ⊎ ComesBefore mask y z

-- y stays first where x is no member or y comes before x.
kept : (n : ℕ) (mask : List ℕ) (member : List ℕ → Bool) (x : List ℕ) (xs : List (List ℕ)) (y : List ℕ) → FirstAmong n mask member xs y → (member x ≡ true → (y ≡ x) ⊎ ComesBefore mask y x) → FirstAmong n mask member (x ∷ xs) y
kept n mask member x xs y f h = record {
  is_input = f.is_input;
  is_member = f.is_member;
  before = λ z among m.
      ⊎_elim
      (λ (e : z ≡ x). rw e (h (rw e at m)))
      (λ (a : Among z xs). f.before z a m)
      among;
}

-- x is first where it comes before the first of the others.
newer : (n : ℕ) (mask : List ℕ) (member : List ℕ → Bool) (x : List ℕ) (xs : List (List ℕ)) (y : List ℕ) → FirstAmong n mask member xs y → IsInput n x → member x ≡ true → ComesBefore mask x y → FirstAmong n mask member (x ∷ xs) x
newer n mask member x xs y f a t c = record {
  is_input = a;
  is_member = t;
  before = λ z among m.
      ⊎_elim
      (λ (e : z ≡ x). inl (sym e))
      (λ (a : Among z xs).
      ⊎_elim
      (λ (e : y ≡ z). inr (rw e at c))
      (λ (d : ComesBefore mask y z). inr (trans mask x y z c d))
      (f.before z a m))
      among;
}

-- No item is a member, or one of the members comes first.
first_among : (n : ℕ) (mask : List ℕ) (member : List ℕ → Bool) (xs : List (List ℕ)) → All (IsInput n) xs → ((z : List ℕ) → Among z xs → member z ≡ true → ⊥) ⊎ ((y : List ℕ) × FirstAmong n mask member xs y)
first_among n mask member [] h = inl (λ z a m. absurd a)
first_among n mask member (x ∷ xs) h =
    let a : IsInput n x = All-head (IsInput n) x xs h in
    ⊎_elim
    (λ (none : (z : List ℕ) → Among z xs → member z ≡ true → ⊥).
    ⊎_elim
    (λ (t : member x ≡ true). inr (x, record { is_input = a; is_member = t; before = λ z among m. ⊎_elim (λ (e : z ≡ x). inl (sym e)) (λ (b : Among z xs). absurd (none z b m)) among }))
    (λ (f : member x ≡ false). inl (λ z among m. ⊎_elim (λ (e : z ≡ x). both_ways (member x) f (rw e at m)) (λ (b : Among z xs). none z b m) among))
    (cases_Bool (member x)))
    (λ (found : (y : List ℕ) × FirstAmong n mask member xs y).
    ⊎_elim
    (λ (t : member x ≡ true).
    ⊎_elim
    (λ (e : x ≡ found.0). inr (found.0, kept n mask member x xs found.0 found.1 (λ _. inl (sym e))))
    (λ (h : ComesBefore mask x found.0 ⊎ ComesBefore mask found.0 x).
    ⊎_elim
    (λ (c : ComesBefore mask x found.0). inr (x, newer n mask member x xs found.0 found.1 a t c))
    (λ (c : ComesBefore mask found.0 x). inr (found.0, kept n mask member x xs found.0 found.1 (λ _. inr c)))
    h)
    (total n mask x found.0 a found.1.is_input))
    (λ (f : member x ≡ false). inr (found.0, kept n mask member x xs found.0 found.1 (λ t. absurd (both_ways (member x) f t))))
    (cases_Bool (member x)))
    (first_among n mask member xs (All-tail (IsInput n) x xs h))

-- Among all inputs, one member comes first.
pub first_exists : (n : ℕ) (mask : List ℕ) (member : List ℕ → Bool) (y : List ℕ) → IsInput n y → IsTrue (member y) → (first : List ℕ) × IsFirst n mask member first
first_exists n mask member y a m =
    ⊎_elim
    (λ (none : (z : List ℕ) → Among z (all_inputs n) → member z ≡ true → ⊥). absurd (none y (among_inputs n y a.long a.in_range) m))
    (λ (found : (x : List ℕ) × FirstAmong n mask member (all_inputs n) x). (found.0, record { is_input = found.1.is_input; is_member = found.1.is_member; before = λ z b t. found.1.before z (among_inputs n z b.long b.in_range) t }))
    (first_among n mask member (all_inputs n) (all_are_inputs n))
