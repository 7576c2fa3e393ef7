-- Values tried one after the other.
use Rattle.std.proofs.Common.{◌≡◌, ◌≢◌, ℕ, ◌+◌, ◌<◌, ◌≤◌, ◌⊎◌, Bool, false, List, refl, sym, ◌∙◌, ap, inl, inr, arith}
use Rattle.std.specs.Prelude.{bit_xor, slice_set, IsTrue}
use Rattle.std.proofs.lemmas.List.{set-set, set_comm}
use Rattle.std.proofs.lemmas.Nat.{xor_lt}
use Rattle.std.proofs.lemmas.Bool.{cases_lt}
use Rattle.input_laws.proofs.Order.{xor_twice}
use Rattle.narrow_solve.specs.Tried.{NoneAt, IsFirstAt, with_pair, NoPairAt, IsFirstPair}

-- values with a xor below the turn failed at the place, and the trial bytes changed there alone
pub record AreTried (test : List ℕ → Bool) (mask : ℕ) (y now : List ℕ) (i turn : ℕ) : Type 0 where
  pub aside : (v : ℕ) → slice_set now i v ≡ slice_set y i v
  pub failed : (v : ℕ) → v < 256 → bit_xor v mask < turn → test (slice_set y i v) ≡ false

module _ (test : List ℕ → Bool) (mask : ℕ) (y now : List ℕ) (i turn : ℕ) (so_far : AreTried test mask y now i turn) where
  -- the value of the turn fails too
  pub tried_more : test (slice_set now i (bit_xor turn mask)) ≡ false → AreTried test mask y (slice_set now i (bit_xor turn mask)) i (turn + 1)
  tried_more e = record {
    aside = λ v. set-set now i (bit_xor turn mask) v ∙ so_far.aside v;
    failed = λ v b l. elim (by_turn v l) [
      | inl less ↦ so_far.failed v b less
      | inr same ↦
          let is : v ≡ bit_xor turn mask = sym (xor_twice v mask) ∙ ap (λ x. bit_xor x mask) same in
          ap (λ x. test (slice_set y i x)) is ∙ (ap test (sym (so_far.aside (bit_xor turn mask))) ∙ e)
    ];
  }
    where
      by_turn : (v : ℕ) → bit_xor v mask < turn + 1 → (bit_xor v mask < turn) ⊎ (bit_xor v mask ≡ turn)
      by_turn v l = elim (cases_lt (bit_xor v mask) turn) [ inl less ↦ inl less | inr more ↦ inr (omega arith) ]

  -- the value of the turn passes
  pub found_at : IsTrue (test (slice_set now i (bit_xor turn mask))) → IsFirstAt test mask y i (bit_xor turn mask)
  found_at e = record {
    passes = ap test (sym (so_far.aside (bit_xor turn mask))) ∙ e;
    before = λ v b t. at_least v b t (cases_lt (bit_xor v mask) turn);
  }
    where
      at_least : (v : ℕ) → v < 256 → IsTrue (test (slice_set y i v)) → (bit_xor v mask < turn) ⊎ (turn ≤ bit_xor v mask) → bit_xor (bit_xor turn mask) mask ≤ bit_xor v mask
      at_least v b t (inl less) = let fails : test (slice_set y i v) ≡ false = so_far.failed v b less in absurd (cc)
      at_least v b t (inr more) = rw xor_twice more

-- at the start no value is tried
pub none_tried : (test : List ℕ → Bool) (mask : ℕ) (y : List ℕ) (i : ℕ) → AreTried test mask y y i 0
none_tried test mask y i = record { aside = λ v. refl; failed = λ v b l. absurd (omega arith) }

-- at the end every value is
pub all_tried : (test : List ℕ → Bool) (mask : ℕ) (y now : List ℕ) (i turn : ℕ) → mask < 256 → 256 ≤ turn → AreTried test mask y now i turn → NoneAt test y i
all_tried test mask y now i turn m l so_far v b = so_far.failed v b (let small : bit_xor v mask < 256 = xor_lt 8 v mask b m in omega arith)

-- pairs whose lower value has a xor below the turn failed, and the trial bytes changed at the two places alone
pub record ArePairsTried (test : List ℕ → Bool) (mask : ℕ) (y now : List ℕ) (low high turn : ℕ) : Type 0 where
  pub aside : (v w : ℕ) → with_pair now low high v w ≡ with_pair y low high v w
  pub failed : (v w : ℕ) → v < 256 → w < 256 → bit_xor v mask < turn → test (with_pair y low high v w) ≡ false

-- at the start no pair is tried
pub no_pair_tried : (test : List ℕ → Bool) (mask : ℕ) (y : List ℕ) (low high : ℕ) → ArePairsTried test mask y y low high 0
no_pair_tried test mask y low high = record { aside = λ v w. refl; failed = λ v w b d l. absurd (omega arith) }

-- at the end every pair is
pub all_pairs_tried : (test : List ℕ → Bool) (mask : ℕ) (y now : List ℕ) (low high turn : ℕ) → mask < 256 → 256 ≤ turn → ArePairsTried test mask y now low high turn → NoPairAt test y low high
all_pairs_tried test mask y now low high turn m l so_far v w b d =
    so_far.failed v w b d (let small : bit_xor v mask < 256 = xor_lt 8 v mask b m in omega arith)

-- a value that is put at the lower place is put over, also where the higher place changed
pub put_over : (now after : List ℕ) (low high value v w : ℕ) → low ≢ high → ((u : ℕ) → slice_set after high u ≡ slice_set (slice_set now low value) high u) → with_pair after low high v w ≡ with_pair now low high v w
put_over now after low high value v w apart aside =
    set_comm after low high v w apart
    ∙ (ap (λ l. slice_set l low v) (aside w)
    ∙ (sym (set_comm (slice_set now low value) low high v w apart)
    ∙ ap (λ l. slice_set l high w) (set-set now low value v)))

module _ (test : List ℕ → Bool) (mask : ℕ) (y now : List ℕ) (low high turn : ℕ) (apart : low ≢ high) (so_far : ArePairsTried test mask y now low high turn) where
  -- no pair with the value of the turn passes
  pub pairs_more : (after : List ℕ) → ((u : ℕ) → slice_set after high u ≡ slice_set (slice_set now low (bit_xor turn mask)) high u) → NoneAt test (slice_set now low (bit_xor turn mask)) high → ArePairsTried test mask y after low high (turn + 1)
  pairs_more after aside none = record {
    aside = λ v w. put_over now after low high (bit_xor turn mask) v w apart aside ∙ so_far.aside v w;
    failed = λ v w b d l. elim (cases_lt (bit_xor v mask) turn) [
      | inl less ↦ so_far.failed v w b d less
      | inr more ↦
          let same : bit_xor v mask ≡ turn = omega arith in
          let is : v ≡ bit_xor turn mask = sym (xor_twice v mask) ∙ ap (λ x. bit_xor x mask) same in
          ap (λ x. test (with_pair y low high x w)) is ∙ (ap test (sym (so_far.aside (bit_xor turn mask) w)) ∙ none w d)
    ];
  }

  -- a pair with the value of the turn passes
  pub found_pair : (high_mask other : ℕ) → IsFirstAt test high_mask (slice_set now low (bit_xor turn mask)) high other → IsFirstPair test mask high_mask y low high (bit_xor turn mask) other
  found_pair high_mask other first = record {
    passes = ap test (sym (so_far.aside (bit_xor turn mask) other)) ∙ first.passes;
    before = λ v w b d t. elim (cases_lt (bit_xor v mask) turn) [
      | inl less ↦ let fails : test (with_pair y low high v w) ≡ false = so_far.failed v w b d less in absurd (cc)
      | inr more ↦ elim (cases_lt turn (bit_xor v mask)) [
        | inl above ↦ inl (let e : bit_xor (bit_xor turn mask) mask ≡ turn = xor_twice turn mask in rw e above)
        | inr equal ↦
            let same : bit_xor v mask ≡ turn = omega arith in
            let is : bit_xor turn mask ≡ v = ap (λ x. bit_xor x mask) (sym same) ∙ xor_twice v mask in
            let passes : IsTrue (test (with_pair now low high (bit_xor turn mask) w)) = ap test (so_far.aside (bit_xor turn mask) w) ∙ (ap (λ x. test (with_pair y low high x w)) is ∙ t) in
            inr (is, first.before w d passes)
      ]
    ];
  }
