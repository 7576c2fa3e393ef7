-- The inputs in the mask's order, and the first member as the first of them that is one.
use Rattle.std.proofs.Common.{◌≡◌, ◌≢◌, get_or, ℕ, zero, suc, ◌^◌, ◌<◌, ◌⊎◌, inl, inr, Bool, true, false, List, [], ◌∷◌, length, refl, ap, sym, ◌∙◌, arith, ⊎_elim}
use Rattle.std.specs.Prelude.{Option, Some, None, find, All, Contains, AllPairs, slice_index, bit_xor, IsTrue, IsFalse}
use Rattle.std.proofs.Math.Nat.{pow-suc}
use Rattle.std.proofs.lemmas.Nat.{xor_lt}
use Rattle.std.proofs.lemmas.Bool.{cases_Bool, both_ways}
use Rattle.std.proofs.lemmas.List.Elements.{All-nil, All-cons, All-head, All-tail, All-weaker}
use Rattle.input_laws.specs.Inputs.{IsInput, bytes}
use Rattle.input_laws.specs.Order.{everywhere, ComesBefore, IsFirst, inputs_in_order, first}
use Rattle.input_laws.proofs.Bound.{bytes_in_range}
use Rattle.input_laws.proofs.Inputs.{Among, among_bytes, among_beginning, contains_from_among, all_beginning, length-bytes, length-beginning}
use Rattle.input_laws.proofs.Order.{xor_twice, first_is_one}
use Rattle.input_laws.proofs.Ordered.{Ordered, pairs_from_ordered, ordered_beginning, ordered_bytes}

-- ---- the list

-- There are 256 ^ n of them.
pub length-inputs_in_order : (mask : List ℕ) → length (inputs_in_order mask) ≡ 256 ^ length mask
unfolding inputs_in_order
length-inputs_in_order [] = refl
length-inputs_in_order (m ∷ mask) = length-beginning (λ v. bit_xor v m) (inputs_in_order mask) bytes ∙ rw (length-bytes, length-inputs_in_order mask, pow-suc 256 (length mask)) (omega arith)

-- Each of them is an input.
pub all_in_order : (mask : List ℕ) → All (λ m. m < 256) mask → All (IsInput (length mask)) (inputs_in_order mask)
unfolding inputs_in_order
all_in_order [] h = All-cons (IsInput 0) [] [] (record { long = refl; in_range = All-nil (λ b. b < 256) }) (All-nil (IsInput 0))
all_in_order (m ∷ mask) h =
    let low : m < 256 = All-head (λ m. m < 256) m mask h in
    all_beginning (λ v. bit_xor v m) (length mask) (inputs_in_order mask) bytes (all_in_order mask (All-tail (λ m. m < 256) m mask h))
    (All-weaker (λ v. v < 256) (λ v. bit_xor v m < 256) (λ v l. xor_lt 8 v m l low) bytes bytes_in_range)

-- Each input is one of them.
pub among_in_order : (mask y : List ℕ) → All (λ m. m < 256) mask → length y ≡ length mask → All (λ b. b < 256) y → Among y (inputs_in_order mask)
unfolding inputs_in_order
among_in_order [] [] h e a = inl refl
among_in_order [] (b ∷ y) h e a = absurd (omega arith)
among_in_order (m ∷ mask) [] h e a = absurd (omega arith)
among_in_order (m ∷ mask) (b ∷ y) h e a =
    let low : m < 256 = All-head (λ m. m < 256) m mask h in
    let small : b < 256 = All-head (λ b. b < 256) b y a in
    let rest : Among y (inputs_in_order mask) = among_in_order mask y (All-tail (λ m. m < 256) m mask h) (omega arith) (All-tail (λ b. b < 256) b y a) in
    let found = among_beginning (λ v. bit_xor v m) (bit_xor b m) y bytes (inputs_in_order mask) (among_bytes (bit_xor b m) (xor_lt 8 b m small low)) rest in
    rw xor_twice at found

-- With the same byte before both, one comes before the other as it did.
before_longer : (b m : ℕ) (mask y z : List ℕ) → ComesBefore mask y z → ComesBefore (m ∷ mask) (b ∷ y) (b ∷ z)
before_longer b m mask y z c = record { at = suc c.at; inside = refl; same_below = below; less = c.less }
  where
    below : (k : ℕ) → k < suc c.at → IsTrue (everywhere k) → slice_index (b ∷ y) k ≡ slice_index (b ∷ z) k
    below zero h i = refl
    below (suc k) h i = c.same_below k (omega arith) refl

-- What begins with the lower value's byte comes before.
before_by_head : (m : ℕ) (mask : List ℕ) (v w : ℕ) (y z : List ℕ) → v < w → ComesBefore (m ∷ mask) (bit_xor v m ∷ y) (bit_xor w m ∷ z)
before_by_head m mask v w y z l = record { at = 0; inside = refl; same_below = λ k h i. absurd (omega arith); less = rw (xor_twice v m, xor_twice w m) l }

-- Each comes before every later one.
pub ordered_in_order : (mask : List ℕ) → Ordered (ComesBefore mask) (inputs_in_order mask)
unfolding inputs_in_order
ordered_in_order [] = (λ z a. absurd a, tt)
ordered_in_order (m ∷ mask) =
    ordered_beginning (λ v. bit_xor v m) (ComesBefore mask) (ComesBefore (m ∷ mask)) (λ v y z. before_longer (bit_xor v m) m mask y z) (before_by_head m mask) bytes (inputs_in_order mask) ordered_bytes (ordered_in_order mask)

-- Each comes before every later one, by their indices.
pub pairs_in_order : (mask : List ℕ) → AllPairs (ComesBefore mask) (inputs_in_order mask)
pairs_in_order mask = pairs_from_ordered (ComesBefore mask) (inputs_in_order mask) (ordered_in_order mask)

-- No input comes before itself.
not_before_itself : (mask y z : List ℕ) → ComesBefore mask y z → y ≡ z → ⊥
not_before_itself mask y z c e = let l = rw e at c.less in omega (arith, l)

-- Two of them are different.
pub distinct_in_order : (mask : List ℕ) → AllPairs (λ y z. y ≢ z) (inputs_in_order mask)
distinct_in_order mask = λ i j d h l. not_before_itself mask (get_or (inputs_in_order mask) i d) (get_or (inputs_in_order mask) j d) (pairs_in_order mask i j d h l)

-- Each input is contained.
pub contains_in_order : (mask y : List ℕ) → All (λ m. m < 256) mask → IsInput (length mask) y → Contains (inputs_in_order mask) y
contains_in_order mask y h a = contains_from_among y (inputs_in_order mask) (among_in_order mask y h a.long a.in_range)

-- ---- the first member

-- y passes the test, and comes before every other item that does.
record Found {X : Type 0} (R : X → X → Type 0) (test : X → Bool) (xs : List X) (y : X) : Type 0 where
  among : Among y xs
  passes : test y ≡ true
  before : (z : X) → Among z xs → test z ≡ true → (y ≡ z) ⊎ R y z

-- No item passes the test, or `find` gives the first that does.
found : {X : Type 0} (R : X → X → Type 0) (test : X → Bool) (xs : List X) → Ordered R xs → ((find test xs ≡ None) × ((z : X) → Among z xs → test z ≡ false)) ⊎ ((y : X) × (find test xs ≡ Some y) × Found R test xs y)
found R test [] h = inl (refl, λ z a. absurd a)
found {X} R test (x ∷ xs) h =
    ⊎_elim
    (λ (t : test x ≡ true). inr (
      x,
      rw t refl,
      record {
        among = inl refl;
        passes = t;
        before = λ z a p. ⊎_elim (λ (e : z ≡ x). inl (sym e)) (λ (l : Among z xs). inr (h.0 z l)) a;
      },
    ))
    (λ (f : test x ≡ false).
    ⊎_elim
    (λ (none : (find test xs ≡ None) × ((z : X) → Among z xs → test z ≡ false)). inl (rw f none.0, λ z a. ⊎_elim (λ (e : z ≡ x). rw e f) (λ (l : Among z xs). none.1 z l) a))
    (λ (some : (y : X) × (find test xs ≡ Some y) × Found R test xs y). inr (
      some.0,
      rw f some.1,
      record {
        among = inr some.2.among;
        passes = some.2.passes;
        before = λ z a p. ⊎_elim (λ (e : z ≡ x). absurd (both_ways (test x) f (rw e at p))) (λ (l : Among z xs). some.2.before z l p) a;
      },
    ))
    (found R test xs h.1))
    (cases_Bool (test x))

-- An item of a list of which all satisfy P satisfies it.
all_among : {X : Type 0} (P : X → Type 0) (xs : List X) (z : X) → All P xs → Among z xs → P z
all_among P [] z h a = absurd a
all_among P (x ∷ xs) z h (inl e) = rw e (All-head P x xs h)
all_among P (x ∷ xs) z h (inr a) = all_among P xs z (All-tail P x xs h) a

-- No input is a member, or `first` gives the one that comes before every other.
pub first_cases : (mask : List ℕ) (member : List ℕ → Bool) → All (λ m. m < 256) mask → ((first mask member ≡ None) × ((y : List ℕ) → IsInput (length mask) y → member y ≡ false)) ⊎ ((y : List ℕ) × (first mask member ≡ Some y) × IsFirst (length mask) mask member y)
unfolding first
first_cases mask member h =
    ⊎_elim
    (λ (none : (find member (inputs_in_order mask) ≡ None) × ((z : List ℕ) → Among z (inputs_in_order mask) → member z ≡ false)). inl (none.0, λ y a. none.1 y (among_in_order mask y h a.long a.in_range)))
    (λ (some : (y : List ℕ) × (find member (inputs_in_order mask) ≡ Some y) × Found (ComesBefore mask) member (inputs_in_order mask) y). inr (
      some.0,
      some.1,
      record {
        is_input = all_among (IsInput (length mask)) (inputs_in_order mask) some.0 (all_in_order mask h) some.2.among;
        is_member = some.2.passes;
        before = λ z a m. some.2.before z (among_in_order mask z h a.long a.in_range) m;
      },
    ))
    (found (ComesBefore mask) member (inputs_in_order mask) (ordered_in_order mask))

-- One `Some` has one value.
same_some : (x y : List ℕ) → Some x ≡ Some y → x ≡ y
same_some x y e = cc e

-- No option is `None` and `Some`.
none_or_some : (o : Option (List ℕ)) (y : List ℕ) → o ≡ None → o ≡ Some y → ⊥
none_or_some o y n s = cc (n, s)

-- What `first` gives is the first member.
pub first_member_from_first : (mask : List ℕ) (member : List ℕ → Bool) (y : List ℕ) → All (λ m. m < 256) mask → first mask member ≡ Some y → IsFirst (length mask) mask member y
first_member_from_first mask member y h e =
    ⊎_elim
    (λ (none : (first mask member ≡ None) × ((z : List ℕ) → IsInput (length mask) z → member z ≡ false)). absurd (none_or_some (first mask member) y none.0 e))
    (λ (some : (x : List ℕ) × (first mask member ≡ Some x) × IsFirst (length mask) mask member x). let same : some.0 ≡ y = same_some some.0 y (sym some.1 ∙ e) in rw same at some.2)
    (first_cases mask member h)

-- `first` gives the first member.
pub first_from_first_member : (mask : List ℕ) (member : List ℕ → Bool) (y : List ℕ) → All (λ m. m < 256) mask → IsFirst (length mask) mask member y → first mask member ≡ Some y
first_from_first_member mask member y h f =
    ⊎_elim
    (λ (none : (first mask member ≡ None) × ((z : List ℕ) → IsInput (length mask) z → member z ≡ false)). absurd (both_ways (member y) (none.1 y f.is_input) f.is_member))
    (λ (some : (x : List ℕ) × (first mask member ≡ Some x) × IsFirst (length mask) mask member x). some.1 ∙ ap Some (first_is_one (length mask) mask member some.0 y some.2 f))
    (first_cases mask member h)

-- `first` gives none only where no input is a member.
pub no_member_from_none : (mask : List ℕ) (member : List ℕ → Bool) → All (λ m. m < 256) mask → first mask member ≡ None → (y : List ℕ) → IsInput (length mask) y → IsFalse (member y)
no_member_from_none mask member h e =
    ⊎_elim
    (λ (none : (first mask member ≡ None) × ((z : List ℕ) → IsInput (length mask) z → member z ≡ false)). none.1)
    (λ (some : (x : List ℕ) × (first mask member ≡ Some x) × IsFirst (length mask) mask member x). absurd (none_or_some (first mask member) some.0 e some.1))
    (first_cases mask member h)

-- Where no input is a member, `first` gives none.
pub none_from_no_member : (mask : List ℕ) (member : List ℕ → Bool) → All (λ m. m < 256) mask → ((y : List ℕ) → IsInput (length mask) y → IsFalse (member y)) → first mask member ≡ None
none_from_no_member mask member h nowhere =
    ⊎_elim
    (λ (none : (first mask member ≡ None) × ((z : List ℕ) → IsInput (length mask) z → member z ≡ false)). none.0)
    (λ (some : (x : List ℕ) × (first mask member ≡ Some x) × IsFirst (length mask) mask member x). absurd (both_ways (member some.0) (nowhere some.0 some.2.is_input) some.2.is_member))
    (first_cases mask member h)
