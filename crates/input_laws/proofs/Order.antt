-- The order under a mask: equal or first different, one before the other, and one first.
use Rattle.std.proofs.Common.{◌≡◌, ℕ, zero, suc, ◌<◌, ◌≤◌, ◌⊎◌, inl, inr, Bool, List, refl, ap, sym, ◌∙◌, arith, ⊎_elim}
use Rattle.std.specs.Prelude.{slice_index, bit_xor}
use Rattle.std.specs.Int.Bits.{xor_assoc, xor_self, xor_zero_r}
use Rattle.std.proofs.lemmas.List.{ext_get_or}
use Rattle.std.proofs.lemmas.Bool.{cases_eq, cases_lt, cases_order}
use Rattle.input_laws.specs.Inputs.{IsInput}
use Rattle.input_laws.specs.Order.{ComesBefore, IsFirst}

-- ---- xor

-- To xor twice with the same number changes nothing.
pub xor_twice : (a m : ℕ) → bit_xor (bit_xor a m) m ≡ a
xor_twice a m = xor_assoc a m m ∙ (ap (bit_xor a) (xor_self m) ∙ xor_zero_r a)

-- Two numbers with the same xor are the same.
pub same_from_xor : (a b m : ℕ) → bit_xor a m ≡ bit_xor b m → a ≡ b
same_from_xor a b m e = sym (xor_twice a m) ∙ (ap (λ x. bit_xor x m) e ∙ xor_twice b m)

-- ---- the first place where two lists differ

-- The first place, below n, where two lists differ.
pub record DifferAt (n : ℕ) (y z : List ℕ) : Type 0 where
  pub at : ℕ
  pub within : at < n
  pub same_below : (k : ℕ) → k < at → slice_index y k ≡ slice_index z k
  pub differ : slice_index y at ≡ slice_index z at → ⊥

-- Two lists that are the same below n and at n are the same below n + 1.
one_more_same : (n : ℕ) (y z : List ℕ) → ((k : ℕ) → k < n → slice_index y k ≡ slice_index z k) → slice_index y n ≡ slice_index z n → (k : ℕ) → k < suc n → slice_index y k ≡ slice_index z k
one_more_same n y z same e k h = ⊎_elim (λ (b : k < n). same k b) (λ (b : n ≤ k). let at : k ≡ n = omega arith in rw at e) (cases_lt k n)

-- Two lists are the same below n, or differ first at some place.
pub first_difference : (n : ℕ) (y z : List ℕ) → ((k : ℕ) → k < n → slice_index y k ≡ slice_index z k) ⊎ DifferAt n y z
first_difference zero y z = inl (λ k h. absurd (omega arith))
first_difference (suc n) y z =
    ⊎_elim
    (λ (same : (k : ℕ) → k < n → slice_index y k ≡ slice_index z k).
    ⊎_elim
    (λ (e : slice_index y n ≡ slice_index z n). inl (one_more_same n y z same e))
    (λ (ne : slice_index y n ≡ slice_index z n → ⊥). inr (record { at = n; within = omega arith; same_below = same; differ = ne }))
    (cases_eq (slice_index y n) (slice_index z n)))
    (λ (d : DifferAt n y z). inr (record { at = d.at; within = omega arith; same_below = d.same_below; differ = d.differ }))
    (first_difference n y z)

-- Inputs that are the same at each place are the same.
pub same_inputs : (n : ℕ) (y z : List ℕ) → IsInput n y → IsInput n z → ((k : ℕ) → k < n → slice_index y k ≡ slice_index z k) → y ≡ z
same_inputs n y z a b same = ext_get_or 0 y z (a.long ∙ sym b.long) (λ k h. same k (rw a.long at h))

-- y comes first where its byte xor the mask's is less wherever it is the first to differ.
pub comes_first : (n : ℕ) (mask y z : List ℕ) → IsInput n y → IsInput n z → ((d : DifferAt n y z) → bit_xor (slice_index y d.at) (slice_index mask d.at) < bit_xor (slice_index z d.at) (slice_index mask d.at)) → (y ≡ z) ⊎ ComesBefore mask y z
comes_first n mask y z a b less =
    ⊎_elim
    (λ (same : (k : ℕ) → k < n → slice_index y k ≡ slice_index z k). inl (same_inputs n y z a b same))
    (λ (d : DifferAt n y z). inr (record { at = d.at; inside = refl; same_below = λ k h _. d.same_below k h; less = less d }))
    (first_difference n y z)

-- ---- one first

-- Two inputs don't come before each other.
not_both : (mask y z : List ℕ) → ComesBefore mask y z → ComesBefore mask z y → ⊥
not_both mask y z a b =
    ⊎_elim
    (λ (e : a.at ≡ b.at). let h = rw e at a.less in omega (arith, h, b.less))
    (λ (h : (a.at < b.at) ⊎ (b.at < a.at)).
    ⊎_elim
    (λ (l : a.at < b.at). let e : slice_index z a.at ≡ slice_index y a.at = b.same_below a.at l refl in let h = rw e at a.less in omega (arith, h))
    (λ (l : b.at < a.at). let e : slice_index y b.at ≡ slice_index z b.at = a.same_below b.at l refl in let h = rw e at b.less in omega (arith, h))
    h)
    (cases_order a.at b.at)

-- Two first members are the same.
pub first_is_one : (n : ℕ) (mask : List ℕ) (member : List ℕ → Bool) (y z : List ℕ) → IsFirst n mask member y → IsFirst n mask member z → y ≡ z
first_is_one n mask member y z a b =
    ⊎_elim
    (λ (e : y ≡ z). e)
    (λ (c : ComesBefore mask y z).
    ⊎_elim
    (λ (e : z ≡ y). sym e)
    (λ (d : ComesBefore mask z y). absurd (not_both mask y z c d))
    (b.before y a.is_input a.is_member))
    (a.before z b.is_input b.is_member)
