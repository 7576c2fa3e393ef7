-- Values that pass a test, at one place and beside other values.
use Rattle.std.proofs.Common.{◌≡◌, ◌≢◌, ℕ, ◌+◌, ◌<◌, ◌≤◌, ◌==◌, ◌||◌, ◌⊎◌, Bool, true, false, cond, List, [], ◌∷◌, get_or, subst, refl, sym, ◌∙◌, ap, inl, inr, arith}
use Rattle.std.specs.Prelude.{Contains, filter, nat_lt, slice_set}
use Rattle.std.specs.List.{list_all}
use mathlib.Core.Path.{fun_ext}
use Rattle.std.proofs.lemmas.List.{set-set, set_comm}
use Rattle.std.proofs.lemmas.Bool.{and_parts, cases_lt, lt-ltb, ltb-true}
use Rattle.input_laws.specs.Inputs.{bytes}
use Rattle.input_laws.specs.Sets.{freed}
use Rattle.input_laws.specs.Narrow.{freed_beside}
use Rattle.input_laws.proofs.Bound.{bytes_in_range}
use Rattle.input_laws.proofs.Inputs.{Among, among_bytes, contains_from_among}
use Rattle.input_laws.proofs.Narrow.{among_filter, list_all_among}
use Rattle.group_model.proofs.Gathered.{AreGathered, gathered_one, gathered_more, gathered_same}
use Rattle.narrow_solve.specs.Tried.{with_pair}

-- freed values are bytes
pub freed_are_bytes : (test : List ℕ → Bool) (y : List ℕ) (i v : ℕ) → freed test y i v ≡ true → v < 256
freed_are_bytes test y i v t = ltb-true v 256 (and_parts (nat_lt v 256) (test (slice_set y i v)) t).0

-- a byte is freed exactly where it passes
pub freed_of_byte : (test : List ℕ → Bool) (y : List ℕ) (i v : ℕ) → v < 256 → freed test y i v ≡ test (slice_set y i v)
freed_of_byte test y i v b = rw (lt-ltb v 256 b) refl

-- the same beside other values
pub freed_beside_are_bytes : (test : List ℕ → Bool) (set : ℕ → Bool) (y : List ℕ) (i j w : ℕ) → freed_beside test set y i j w ≡ true → w < 256
freed_beside_are_bytes test set y i j w t = ltb-true w 256 (and_parts (nat_lt w 256) (list_all (λ v. test (with_pair y i j v w)) (filter set bytes)) t).0

pub freed_beside_of_byte : (test : List ℕ → Bool) (set : ℕ → Bool) (y : List ℕ) (i j w : ℕ) → w < 256 → freed_beside test set y i j w ≡ list_all (λ v. test (with_pair y i j v w)) (filter set bytes)
freed_beside_of_byte test set y i j w b = rw (lt-ltb w 256 b) refl

-- ---- a test of each value of a set

-- a test that passes for each item of the set passes for all that are kept
all_kept : (test set : ℕ → Bool) (xs : List ℕ) → ((v : ℕ) → Among v xs → set v ≡ true → test v ≡ true) → list_all test (filter set xs) ≡ true
all_kept test set [] h = refl
all_kept test set (x ∷ xs) h = kept (set x) refl (all_kept test set xs (λ v a. h v (inr a)))
  where
    kept : (s : Bool) → set x ≡ s → list_all test (filter set xs) ≡ true → list_all test (cond s (x ∷ filter set xs) (filter set xs)) ≡ true
    kept true is rest = let here : test x ≡ true = h x (inl refl) is in rw (here, rest) refl
    kept false is rest = rest

-- what is among the bytes is a byte
byte_among : (v : ℕ) → Among v bytes → v < 256
byte_among v a =
    let c : Contains bytes v = contains_from_among v bytes a in
    let l : get_or bytes c.0 v < 256 = bytes_in_range c.0 v c.1 in
    omega (arith, l, c.2)

not_true : (s : Bool) → (s ≡ true → ⊥) → s ≡ false
not_true true h = absurd (h refl)
not_true false h = refl

-- the values of the set below the turn passed at the place, and the trial bytes changed there alone
pub record HaveHeld (test : List ℕ → Bool) (set : ℕ → Bool) (y now : List ℕ) (i turn : ℕ) : Type 0 where
  pub aside : (v : ℕ) → slice_set now i v ≡ slice_set y i v
  pub held : (v : ℕ) → v < turn → set v ≡ true → test (slice_set y i v) ≡ true

-- at the start no value is tried
pub held_none : (test : List ℕ → Bool) (set : ℕ → Bool) (y : List ℕ) (i : ℕ) → HaveHeld test set y y i 0
held_none test set y i = record { aside = λ v. refl; held = λ v l t. absurd (omega arith) }

module _ (test : List ℕ → Bool) (set : ℕ → Bool) (y now : List ℕ) (i turn : ℕ) (so_far : HaveHeld test set y now i turn) where
  -- a value of the set passes
  pub held_more : test (slice_set now i turn) ≡ true → HaveHeld test set y (slice_set now i turn) i (turn + 1)
  held_more e = record {
    aside = λ v. set-set now i turn v ∙ so_far.aside v;
    held = λ v l t. elim (cases_lt v turn) [
      | inl less ↦ so_far.held v less t
      | inr more ↦ let same : v ≡ turn = omega arith in ap (λ x. test (slice_set y i x)) same ∙ (ap test (sym (so_far.aside turn)) ∙ e)
    ];
  }

  -- a value that is not of the set is left out
  pub held_same : set turn ≡ false → HaveHeld test set y now i (turn + 1)
  held_same e = record {
    aside = so_far.aside;
    held = λ v l t. elim (cases_lt v turn) [
      | inl less ↦ so_far.held v less t
      | inr more ↦ let same : v ≡ turn = omega arith in let fails : set v ≡ false = ap set same ∙ e in absurd (cc)
    ];
  }

  -- at the end each value of the set passed
  pub each_held : 256 ≤ turn → list_all (λ v. test (slice_set y i v)) (filter set bytes) ≡ true
  each_held l = all_kept (λ v. test (slice_set y i v)) set bytes (λ v a t. let b : v < 256 = byte_among v a in so_far.held v (omega arith) t)

  -- a value of the set fails
  pub one_failed : turn < 256 → set turn ≡ true → test (slice_set now i turn) ≡ false → list_all (λ v. test (slice_set y i v)) (filter set bytes) ≡ false
  one_failed l is e =
      not_true (list_all (λ v. test (slice_set y i v)) (filter set bytes)) (λ all.
      let passes : test (slice_set y i turn) ≡ true = list_all_among (λ v. test (slice_set y i v)) turn (filter set bytes) all (among_filter set turn bytes is (among_bytes turn l)) in
      let fails : test (slice_set y i turn) ≡ false = ap test (sym (so_far.aside turn)) ∙ e in
      cc)

-- ---- values of the higher place, each tried with every value of the lower place

-- the values gathered so far, where the trial bytes changed at the two places alone
pub record AreBeside (test : List ℕ → Bool) (lower set : ℕ → Bool) (y now : List ℕ) (low high turn : ℕ) : Type 0 where
  pub aside : (v w : ℕ) → with_pair now low high v w ≡ with_pair y low high v w
  pub gathered : AreGathered (freed_beside test lower y low high) set turn

-- a value that is put at the higher place is put over, also where the lower place changed
pub put_over_higher : (now after : List ℕ) (low high value v w : ℕ) → low ≢ high → ((u : ℕ) → slice_set after low u ≡ slice_set (slice_set now high value) low u) → with_pair after low high v w ≡ with_pair now low high v w
put_over_higher now after low high value v w apart aside =
    ap (λ l. slice_set l high w) (aside v)
    ∙ (sym (set_comm (slice_set now high value) high low w v (λ e. apart (sym e)))
    ∙ (ap (λ l. slice_set l low v) (set-set now high value w)
    ∙ set_comm now high low w v (λ e. apart (sym e))))

-- whether a value passes with each of the lower place's is whether it is freed beside them
pub freed_is_each : (test : List ℕ → Bool) (lower set : ℕ → Bool) (y now : List ℕ) (low high turn : ℕ) → low ≢ high → turn < 256 → AreBeside test lower set y now low high turn → freed_beside test lower y low high turn ≡ list_all (λ v. test (slice_set (slice_set now high turn) low v)) (filter lower bytes)
freed_is_each test lower set y now low high turn apart l so_far =
    freed_beside_of_byte test lower y low high turn l
    ∙ ap (λ p. list_all p (filter lower bytes)) (fun_ext (λ v. ap test (sym (so_far.aside v turn) ∙ set_comm now low high v turn apart)))

-- at the start the set has a known value alone
pub beside_one : (test : List ℕ → Bool) (lower set : ℕ → Bool) (y : List ℕ) (low high known : ℕ) → freed_beside test lower y low high known ≡ true → set ≡ (λ v. v == known) → AreBeside test lower set y y low high 0
beside_one test lower set y low high known is e = record { aside = λ v w. refl; gathered = gathered_one (freed_beside test lower y low high) set known is e }

-- the value of the turn is put into the set where it passes
pub beside_more : (test : List ℕ → Bool) (lower set more : ℕ → Bool) (y now after : List ℕ) (low high turn : ℕ) (passes : Bool) → low ≢ high → turn < 256 → AreBeside test lower set y now low high turn → ((u : ℕ) → slice_set after low u ≡ slice_set (slice_set now high turn) low u) → passes ≡ list_all (λ v. test (slice_set (slice_set now high turn) low v)) (filter lower bytes) → ((passes ≡ true) × (more ≡ (λ v. set v || v == turn))) ⊎ ((passes ≡ false) × (more ≡ set)) → AreBeside test lower more y after low high (turn + 1)
beside_more test lower set more y now after low high turn passes apart l so_far aside each cases = record {
  aside = λ v w. put_over_higher now after low high turn v w apart aside ∙ so_far.aside v w;
  gathered = elim cases [
    | inl put ↦ gathered_more (freed_beside test lower y low high) set turn so_far.gathered more (wanted ∙ put.0) put.1
    | inr left ↦ let same : set ≡ more = sym left.1 in let P : (ℕ → Bool) → Type 0 = λ s. AreGathered (freed_beside test lower y low high) s (turn + 1) in subst P same (gathered_same (freed_beside test lower y low high) set turn so_far.gathered (wanted ∙ left.0))
  ];
}
  where
    wanted : freed_beside test lower y low high turn ≡ passes
    wanted = freed_is_each test lower set y now low high turn apart l so_far ∙ sym each

-- a value is freed beside others where it passes with each of them
pub freed_beside_known : (test : List ℕ → Bool) (set : ℕ → Bool) (y : List ℕ) (i j w : ℕ) → w < 256 → ((v : ℕ) → set v ≡ true → test (with_pair y i j v w) ≡ true) → freed_beside test set y i j w ≡ true
freed_beside_known test set y i j w b h = freed_beside_of_byte test set y i j w b ∙ all_kept (λ v. test (with_pair y i j v w)) set bytes (λ v a. h v)

-- a freed value passes
pub freed_passes : (test : List ℕ → Bool) (y : List ℕ) (i v : ℕ) → freed test y i v ≡ true → test (slice_set y i v) ≡ true
freed_passes test y i v t = (and_parts (nat_lt v 256) (test (slice_set y i v)) t).1
