-- Membership by parts: what is each part's first, and the mask elsewhere, is First of the whole.
use Rattle.std.proofs.Common.{◌≡◌, ◌≢◌, ℕ, ◌<◌, ◌⊎◌, inl, inr, Bool, true, false, List, [], ◌∷◌, length, ap, sym, ◌∙◌, arith, ⊎_elim}
use Rattle.std.specs.Prelude.{All, slice_index, bit_xor, IsTrue}
use Rattle.std.specs.Int.Bits.{xor_self}
use Rattle.std.proofs.lemmas.List.Elements.{All-nil, All-cons, All-head, All-tail}
use Rattle.std.proofs.lemmas.Bool.{cases_Bool, cases_order}
use Rattle.input_laws.specs.Inputs.{IsInput}
use Rattle.input_laws.specs.Order.{SameOn, ComesBeforeOn, IsFirst}
use Rattle.input_laws.specs.Parts.{Part, LooksAtItsPlaces, IsFirstOf, TakesFirstOf, IsByParts, IsFree, KeepPart}
use Rattle.input_laws.specs.Sets.{IsChoice}
use Rattle.input_laws.proofs.ByteByByte.{choice_is_input, choice_at}
use Rattle.input_laws.proofs.Order.{DifferAt, comes_first, same_from_xor}

-- Each place is free or in a part.
part_of : (P : Part → Type 0) (parts : List Part) (k : ℕ) → All P parts → IsFree parts k ⊎ ((part : Part) × P part × IsTrue (part.places k))
part_of P [] k h = inl (All-nil (λ part. part.places k ≡ false))
part_of P (part ∷ parts) k h =
    ⊎_elim
    (λ (t : part.places k ≡ true). inr (part, All-head P part parts h, t))
    (λ (f : part.places k ≡ false).
    ⊎_elim
    (λ (free : IsFree parts k). inl (All-cons (λ part. part.places k ≡ false) part parts f free))
    (λ (found : (part : Part) × P part × IsTrue (part.places k)). inr found)
    (part_of P parts k (All-tail P part parts h)))
    (cases_Bool (part.places k))

-- A list that is the part's first on its places passes its test, and comes before others there.
first_of_part : (n : ℕ) (mask y : List ℕ) (part : Part) → LooksAtItsPlaces part → TakesFirstOf n mask y part → IsFirstOf n mask part y
first_of_part n mask y part looks t =
    record {
      passes = sym (looks t.own y t.same) ∙ t.is_first.passes;
      before = λ z a p.
          ⊎_elim
          (λ (same : SameOn part.places t.own z). inl (λ k h. sym (t.same k h) ∙ same k h))
          (λ (c : ComesBeforeOn part.places mask t.own z). inr (record {
            at = c.at;
            inside = c.inside;
            same_below = λ k h i. sym (t.same k i) ∙ c.same_below k h i;
            less = rw (t.same c.at c.inside) at c.less;
          }))
          (t.is_first.before z a p);
    }

-- At a place of a part, the first to differ is less.
less_in_part : (n : ℕ) (mask y z : List ℕ) (part : Part) → IsFirstOf n mask part y → IsInput n z → IsTrue (part.test z) → (d : DifferAt n y z) → IsTrue (part.places d.at) → bit_xor (slice_index y d.at) (slice_index mask d.at) < bit_xor (slice_index z d.at) (slice_index mask d.at)
less_in_part n mask y z part f a p d is =
    ⊎_elim
    (λ (same : SameOn part.places y z). absurd (d.differ (same d.at is)))
    (λ (c : ComesBeforeOn part.places mask y z).
    ⊎_elim
    (λ (e : d.at ≡ c.at). rw e c.less)
    (λ (h : (d.at < c.at) ⊎ (c.at < d.at)).
    ⊎_elim
    (λ (l : d.at < c.at). absurd (d.differ (c.same_below d.at l is)))
    (λ (l : c.at < d.at). let low = rw (d.same_below c.at l) at c.less in absurd (omega (arith, low)))
    h)
    (cases_order d.at c.at))
    (f.before z a p)

-- At a place where y has the mask's byte, the first to differ is less.
less_at_mask : (n : ℕ) (mask y z : List ℕ) (d : DifferAt n y z) → slice_index y d.at ≡ slice_index mask d.at → bit_xor (slice_index y d.at) (slice_index mask d.at) < bit_xor (slice_index z d.at) (slice_index mask d.at)
less_at_mask n mask y z d e =
    let none : bit_xor (slice_index y d.at) (slice_index mask d.at) ≡ 0 = ap (λ b. bit_xor b (slice_index mask d.at)) e ∙ xor_self (slice_index mask d.at) in
    let ne : bit_xor (slice_index y d.at) (slice_index mask d.at) ≢ bit_xor (slice_index z d.at) (slice_index mask d.at) = λ x. d.differ (same_from_xor (slice_index y d.at) (slice_index z d.at) (slice_index mask d.at) x) in
    omega arith

-- An input that takes each part's first, and the mask's bytes elsewhere, is the first member.
pub first_from_parts : (n : ℕ) (mask : List ℕ) (member : List ℕ → Bool) (parts : List Part) (y : List ℕ) → IsByParts n member parts → All LooksAtItsPlaces parts → IsInput n y → All (TakesFirstOf n mask y) parts → ((k : ℕ) → k < n → IsFree parts k → slice_index y k ≡ slice_index mask k) → IsFirst n mask member y
first_from_parts n mask member parts y by looks a takes free =
    let firsts : All (λ part. IsFirstOf n mask part y) parts = λ k part h. first_of_part n mask y _ (looks k part h) (takes k part h) in
    record {
      is_input = a;
      is_member = (by y a).1 (λ k part h. (firsts k part h).passes);
      before = λ z b m. comes_first n mask y z a b (λ d.
          ⊎_elim
          (λ (f : IsFree parts d.at). less_at_mask n mask y z d (free d.at d.within f))
          (λ (found : (part : Part) × (IsFirstOf n mask part y × IsTrue (part.test z)) × IsTrue (part.places d.at)). less_in_part n mask y z found.0 found.1.0 b found.1.1 d found.2)
          (part_of (λ part. IsFirstOf n mask part y × IsTrue (part.test z)) parts d.at (λ k part h. (firsts k part h, (by z b).0 m k part h))));
    }

-- A choice from sets that keep each part's test passes each of them.
pub choices_by_parts : (member : List ℕ → Bool) (parts : List Part) (sets : List (ℕ → Bool)) → IsByParts (length sets) member parts → All (KeepPart sets) parts → (y : List ℕ) → IsChoice sets y → IsTrue (member y)
choices_by_parts member parts sets by keep y c =
    (by y (choice_is_input sets y c)).1 (λ k part h. keep k part h y (choice_is_input sets y c) (λ i l _. (choice_at sets y i c l).1))
