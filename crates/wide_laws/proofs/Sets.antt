-- Every choice from the sets of a group meets its conditions.
use Rattle.std.proofs.Common.{◌≡◌, ◌≢◌, ℕ, zero, suc, ◌/◌, ◌%◌, ◌^◌, ◌<◌, Bool, true, false, List, [], ◌∷◌, ◌++◌, refl, sym, ◌∙◌, ap, inl, inr, arith, length, subst, nat_eq, append_assoc, append-nil, zero-add}
use Rattle.std.specs.Prelude.{Contains, All, not, ◌⊎◌, ◌||◌, slice_index, nat_lt, if◌then◌else◌}
use Rattle.std.specs.Bool.{beq}
use Rattle.std.specs.List.{list_all, range_with_len}
use Rattle.std.proofs.lemmas.List.Elements.{Contains-append_cases, Contains-push_cases, All-contains}
use Rattle.std.proofs.lemmas.Bool.{lt-ltb}
use Rattle.std.proofs.lemmas.List.FromFn.{get_or-range_with_len, length-range_with_len}
use Rattle.term_model.specs.Tree as term
use Rattle.term_model.specs.Conditions.{Hold}
use Rattle.term_model.specs.Words.{AreBytes}
use Rattle.gate_model.specs.Tree.{Tree, Yes, Bit, Signed, plain, And, Xor, same}
use Rattle.gate_model.specs.Made.{IsMade}
use Rattle.gate_model.specs.Clauses.{IsUnder}
use Rattle.gate_model.specs.Value.{under_sign, input_bit, tree_value, value}
use Rattle.gate_model.specs.Makers.{yes}
use Rattle.gate_model.proofs.SameLemmas.{same_equal, same_itself}
use Rattle.gate_model.proofs.ValueLemmas.{value_not}
use Rattle.search_model.specs.Tests.{in_closure, is_among}
use Rattle.search_model.specs.Closure.{IsInClosure}
use Rattle.search_model.specs.Model.{IsModel}
use Rattle.search_laws.proofs.ListLemmas.{bool_cases, not_true, either, either_left, either_right, both, both_true, all_true, all_each, no_element, Contains-head, Contains-tail, Contains-cons_cases}
use Rattle.search_laws.proofs.TestLemmas.{in_is, is_in, contains_among}
use Rattle.search_laws.proofs.Implied.{model_closure}
use Rattle.input_laws.specs.Sets.{set_at}
use Rattle.input_laws.specs.Parts.{KeepPart}
use Rattle.group_model.specs.Group.{part_of}
use Rattle.group_model.proofs.HoldLemmas.{passed, found_among}
use Rattle.wide_laws.proofs.First.{input_bytes}
use Rattle.wide_laws.specs.Formula.{signed_trees, clauses_under, gate_formula, bits_below, order_of}
use Rattle.wide_laws.specs.Bytes.{AreRoots}
use Rattle.wide_laws.specs.Sets.{force_roots, fixed_from, fixed_bits, Fix, IsSound, agreeing}
use Rattle.wide_laws.proofs.Forcing.{trees_are_literals, Among, value_under, told, told_in_closure, BitsDecided}
use Rattle.wide_laws.proofs.Models.{bit_of, order_has, flat_one, flat_has, gates_satisfied, input_gates}
use Rattle.wide_laws.proofs.Joined.{value_is, value_of_yes, yes_or_not, value_agrees, root_apart}

pub itself : (b : Bool) → beq b b ≡ true
itself true = refl
itself false = refl

pub beq_under : (x m : Bool) → beq x m ≡ true → under_sign m x ≡ true
beq_under true true e = refl
beq_under false false e = refl
beq_under true false e = cc
beq_under false true e = cc

-- a literal of the order is a bit of one of the places
bits_are : (mask : List ℕ) (place n : ℕ) (l : Signed) → Contains (bits_below mask place n) l → (bit : ℕ) × (bit < n) × (l ≡ bit_of mask place bit)
bits_are mask place zero l h = absurd (no_element l h)
bits_are mask place (suc n) l h = elim (Contains-cons_cases (bit_of mask place n) (bits_below mask place n) l h) [
  | inl is ↦ (n, omega arith, sym is)
  | inr later ↦ let one = bits_are mask place n l later in (one.0, omega (arith, one.1), one.2)
]

pub record IsBit (mask places : List ℕ) (l : Signed) : Type 0 where
  pub place : ℕ
  pub bit : ℕ
  pub inside : Contains places place
  pub low : bit < 8
  pub is : l ≡ bit_of mask place bit

pub order_is : (mask places : List ℕ) (l : Signed) → Contains (order_of mask places) l → IsBit mask places l
unfolding order_of
order_is mask [] l h = absurd (no_element l h)
order_is mask (p ∷ ps) l h = elim (Contains-append_cases (bits_below mask p 8) (order_of mask ps) l h) [
  | inl here ↦ let one = bits_are mask p 8 l here in record { place = p; bit = one.0; inside = Contains-head p ps; low = one.1; is = one.2 }
  | inr later ↦ let one = order_is mask ps l later in record { place = one.place; bit = one.bit; inside = Contains-tail p ps one.place one.inside; low = one.low; is = one.is }
]

module _ {L : Type 0} (frees : List L → Bool) where
  pub fixed_end : (kept : List L) → fixed_from frees kept [] ≡ kept
  unfolding fixed_from
  fixed_end kept = refl

  pub fixed_freed : (kept : List L) (l : L) (rest : List L) → frees (kept ++ rest) ≡ true → fixed_from frees kept (l ∷ rest) ≡ fixed_from frees kept rest
  unfolding fixed_from
  fixed_freed kept l rest e = ap (λ b. if b then fixed_from frees kept rest else fixed_from frees (kept ++ l ∷ []) rest) e

  pub fixed_kept : (kept : List L) (l : L) (rest : List L) → frees (kept ++ rest) ≡ false → fixed_from frees kept (l ∷ rest) ≡ fixed_from frees (kept ++ l ∷ []) rest
  unfolding fixed_from
  fixed_kept kept l rest e = ap (λ b. if b then fixed_from frees kept rest else fixed_from frees (kept ++ l ∷ []) rest) e

  pub fixed_among : (kept rest : List L) (l : L) → Contains (fixed_from frees kept rest) l → Contains kept l ⊎ Contains rest l
  fixed_among kept [] l h = inl (let P : List L → Type 0 = λ k. Contains k l in subst P (fixed_end kept) h)
  fixed_among kept (d ∷ rest) l h =
      let P : List L → Type 0 = λ k. Contains k l in
      elim (bool_cases (frees (kept ++ rest))) [
        | inl f ↦ elim (fixed_among kept rest l (subst P (fixed_freed kept d rest f) h)) [
          | inl here ↦ inl here
          | inr later ↦ inr (Contains-tail d rest l later)
        ]
        | inr f ↦ elim (fixed_among (kept ++ d ∷ []) rest l (subst P (fixed_kept kept d rest f) h)) [
          | inl here ↦ elim (Contains-push_cases kept d l here) [
            | inl before ↦ inl before
            | inr is ↦ (let Q : L → Type 0 = λ x. Contains (d ∷ rest) x in inr (subst Q is (Contains-head d rest)))
          ]
          | inr later ↦ inr (Contains-tail d rest l later)
        ]
      ]

-- the bits that stay fixed fix the roots, where all bits do
fixed_fix : (roots : List Signed) (frees : List Signed → Bool) → IsSound roots frees → (kept rest : List Signed) → Fix roots (kept ++ rest) → Fix roots (fixed_from frees kept rest)
fixed_fix roots frees sound kept [] all =
    let P : List Signed → Type 0 = λ bits. Fix roots bits in
    subst P (append-nil kept ∙ sym (fixed_end frees kept)) all
fixed_fix roots frees sound kept (l ∷ rest) all =
    let P : List Signed → Type 0 = λ bits. Fix roots bits in
    elim (bool_cases (frees (kept ++ rest))) [
      | inl f ↦ subst P (sym (fixed_freed frees kept l rest f)) (fixed_fix roots frees sound kept rest (sound (kept ++ rest) f))
      | inr f ↦ subst P (sym (fixed_kept frees kept l rest f)) (fixed_fix roots frees sound (kept ++ l ∷ []) rest (subst P (sym (append_assoc kept (l ∷ []) rest)) all))
    ]

pub gates_model : (roots : List Signed) (y : List ℕ) → IsModel signed_trees (gate_formula roots) (λ a. value a y)
gates_model roots y = record {
  one = λ a. value_not y a;
  each = λ c at. (let one = flat_one (λ (x : Signed). clauses_under x.tree) roots c at in gates_satisfied (λ a. value a y) (λ a. value_not y a) (input_gates y) one.0.tree c one.2);
}

-- bits that force the roots by the clauses of the gates fix them
pub forced_is_sound : (roots : List Signed) → IsSound roots (force_roots roots)
forced_is_sound roots others forced = λ y low has r at.
    let here : (same r yes || in_closure signed_trees (gate_formula roots) others r) ≡ true = all_each (λ x. same x yes || in_closure signed_trees (gate_formula roots) others x) roots forced r at in
    elim (either (same r yes) (in_closure signed_trees (gate_formula roots) others r) here) [
      | inl is ↦ ap (λ (x : Signed). value x y) (same_equal r yes is) ∙ value_of_yes y
      | inr inside ↦ model_closure signed_trees trees_are_literals (gate_formula roots) others (λ a. value a y) (gates_model roots y) has r (in_is signed_trees trees_are_literals (gate_formula roots) others r inside)
    ]

-- bytes agree with themselves
pub bytes_agree : (first : List ℕ) → AreBytes first → (fixed : List Signed) (place : ℕ) → agreeing fixed first place (slice_index first place) ≡ true
bytes_agree first bytes fixed place =
    let v : ℕ = slice_index first place in
    let test : ℕ → Bool = λ bit. not (is_among signed_trees fixed (bit_of first place bit)) || beq (nat_eq (v / 2 ^ bit % 2) 1) (input_bit first place bit) in
    both_true (nat_lt v 256) (list_all test (range_with_len 0 8)) (lt-ltb v 256 (bytes place))
    (all_true test (range_with_len 0 8) (λ bit at. either_right (not (is_among signed_trees fixed (bit_of first place bit))) (beq (nat_eq (v / 2 ^ bit % 2) 1) (input_bit first place bit)) (itself (input_bit first place bit))))

module _ (places : List ℕ) (conditions : List term.Tree) (roots : List Signed) (are : AreRoots places conditions roots) (first : List ℕ) (bytes : AreBytes first) (met : Hold conditions first) where
  abbrev gates : List (List Signed)
  gates = gate_formula roots

  under_gates : (r : Signed) → Contains roots r → Among (gate_formula roots) r.tree
  under_gates r at c h = flat_has (λ (x : Signed). clauses_under x.tree) roots r c at h

  abbrev own : Signed → Bool
  own a = value a first

  -- the first bytes' own bits are decided
  bit_is_own : (place bit : ℕ) → bit_of first place bit ≡ told own (Bit place bit)
  bit_is_own place bit = ap (λ (b : Bool). record { tree = Bit place bit; positive = b }) (sym (value_is (plain (Bit place bit)) first))

  own_bits : (g : Tree) → IsMade g → ((place bit : ℕ) → IsUnder (Bit place bit) g → Contains places place) → BitsDecided own (order_of first places) g
  own_bits Yes made inside = tt
  own_bits (Bit place bit) made inside =
      let P : Signed → Type 0 = λ l. Contains (order_of first places) l in
      subst P (bit_is_own place bit) (order_has first places place bit (inside place bit refl) made)
  own_bits (And a s b t) made inside = (
    own_bits a made.1 (λ place bit h. inside place bit (inr (inl h))),
    own_bits b made.2 (λ place bit h. inside place bit (inr (inr h))),
  )
  own_bits (Xor a s b t) made inside = (
    own_bits a made.1 (λ place bit h. inside place bit (inr (inl h))),
    own_bits b made.2 (λ place bit h. inside place bit (inr (inr h))),
  )

  sign_is : (p v : Bool) → under_sign p v ≡ true → v ≡ p
  sign_is true v e = e
  sign_is false true e = cc
  sign_is false false e = refl

  own_root : (r : Signed) → Contains roots r → r ≢ yes → IsInClosure signed_trees gates (order_of first places) r
  own_root r at apart =
      let agrees : value_under own r.tree ≡ tree_value r.tree first =
      value_agrees own places first (λ place bit h low. sym (value_is (plain (Bit place bit)) first)) r.tree (are.made r at) (are.inside r at) in
      let value_true : under_sign r.positive (tree_value r.tree first) ≡ true = sym (value_is r first) ∙ (are.values first bytes).0 met r at in
      let is : value_under own r.tree ≡ r.positive = agrees ∙ sign_is r.positive (tree_value r.tree first) value_true in
      let P : Bool → Type 0 = λ b. IsInClosure signed_trees gates (order_of first places) (record { tree = r.tree; positive = b }) in
      subst P is (told_in_closure gates (order_of first places) own r.tree (are.made r at) (root_apart first places conditions roots are first bytes met r at apart) (under_gates r at) (own_bits r.tree (are.made r at) (are.inside r at)))

  -- all bits of the first bytes force the roots
  all_force : force_roots roots (order_of first places) ≡ true
  all_force = all_true (λ r. same r yes || in_closure signed_trees gates (order_of first places) r) roots (λ r at. elim (yes_or_not r) [
    | inl is ↦ either_left (same r yes) (in_closure signed_trees gates (order_of first places) r) (ap (λ (x : Signed). same x yes) is ∙ same_itself yes)
    | inr apart ↦ either_right (same r yes) (in_closure signed_trees gates (order_of first places) r) (is_in signed_trees trees_are_literals gates (order_of first places) r (own_root r at apart))
  ])

  all_fix : Fix roots (order_of first places)
  all_fix = forced_is_sound roots (order_of first places) all_force

  eight : (bit : ℕ) → bit < 8 → Contains (range_with_len 0 8) bit
  eight bit low = (bit, (let size : length (range_with_len 0 8) ≡ 8 = length-range_with_len 0 8 in omega (arith, size)), get_or-range_with_len 0 8 bit bit low ∙ zero-add bit)

  module _ (frees : List Signed → Bool) (sound : IsSound roots frees) (y : List ℕ) (low : AreBytes y) (agree : (place : ℕ) → Contains places place → agreeing (fixed_bits frees first places) first place (slice_index y place) ≡ true) where
    abbrev fixed : List Signed
    fixed = fixed_bits frees first places

    fixed_true : (l : Signed) → Contains (fixed_bits frees first places) l → value l y ≡ true
    fixed_true l h = elim (fixed_among frees [] (order_of first places) l h) [
      | inl none ↦ absurd (no_element l none)
      | inr at ↦
          let b : IsBit first places l = order_is first places l at in
          let v : ℕ = slice_index y b.place in
          let P : Signed → Type 0 = λ x. Contains (fixed_bits frees first places) x in
          let among : is_among signed_trees (fixed_bits frees first places) (bit_of first b.place b.bit) ≡ true =
          contains_among signed_trees trees_are_literals (fixed_bits frees first places) (bit_of first b.place b.bit) (subst P b.is h) in
          let test : ℕ → Bool = λ bit. not (is_among signed_trees (fixed_bits frees first places) (bit_of first b.place bit)) || beq (nat_eq (v / 2 ^ bit % 2) 1) (input_bit first b.place bit) in
          let passes : list_all test (range_with_len 0 8) ≡ true = (both (nat_lt v 256) (list_all test (range_with_len 0 8)) (agree b.place b.inside)).1 in
          let here : test b.bit ≡ true = all_each test (range_with_len 0 8) passes b.bit (eight b.bit b.low) in
          ap (λ (x : Signed). value x y) b.is ∙ value_is (bit_of first b.place b.bit) y
          ∙ elim (either (not (is_among signed_trees (fixed_bits frees first places) (bit_of first b.place b.bit))) (beq (nat_eq (v / 2 ^ b.bit % 2) 1) (input_bit first b.place b.bit)) here) [
            | inl isnt ↦ absurd (not_true (is_among signed_trees (fixed_bits frees first places) (bit_of first b.place b.bit)) among isnt)
            | inr same ↦ beq_under (input_bit y b.place b.bit) (input_bit first b.place b.bit) same
          ]
    ]

    -- bytes that agree with the first at the fixed bits meet the conditions
    pub agreeing_holds : Hold conditions y
    agreeing_holds = (are.values y low).1 (fixed_fix roots frees sound [] (order_of first places) all_fix y low fixed_true)

  -- the first bytes agree with themselves
  pub first_agrees : (fixed : List Signed) (place : ℕ) → agreeing fixed first place (slice_index first place) ≡ true
  first_agrees fixed place = bytes_agree first bytes fixed place

  -- sets that have at the group's places the agreeing bytes keep the group's test
  pub sets_keep : (frees : List Signed → Bool) → IsSound roots frees → (sets : List (ℕ → Bool)) → All (λ i. i < length sets) places → ((place : ℕ) → Contains places place → set_at sets place ≡ agreeing (fixed_bits frees first places) first place) → KeepPart sets (part_of places conditions)
  sets_keep frees sound sets below are_agreeing = λ y is chosen.
      passed conditions y (agreeing_holds frees sound y (input_bytes (length sets) y is) (λ place at.
      ap (λ (s : ℕ → Bool). s (slice_index y place)) (sym (are_agreeing place at))
      ∙ chosen place (All-contains (λ (i : ℕ). i < length sets) places place below at) (found_among places place at)))
