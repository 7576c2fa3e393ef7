-- The bytes of the first model are the group's first bytes.
use Rattle.std.proofs.Common.{◌≡◌, ℕ, zero, suc, ◌+◌, ◌*◌, ◌/◌, ◌%◌, ◌^◌, ◌<◌, ◌≤◌, Bool, true, false, List, [], ◌∷◌, ◌++◌, refl, sym, ◌∙◌, ap, inl, inr, arith, length, get_or, take, drop, map, subst, cond, nat_eq, length-append}
use Rattle.std.specs.Prelude.{Contains, All, ◌⊎◌, bit_xor, slice_index}
use Rattle.std.specs.Bool.{beq}
use Rattle.std.proofs.lemmas.Bool.{cases_lt}
use Rattle.std.proofs.lemmas.List.{map-append, get_or_past}
use Rattle.std.proofs.lemmas.List.Elements.{All-nil, All-cons}
use Rattle.std.proofs.Math.Seq.{take-append_seam, drop-append_seam}
use Rattle.std.proofs.Math.Nat.{div-one}
use Rattle.std.proofs.lemmas.Nat.{xor_shr}
use Rattle.std.proofs.lemmas.Grind.{get_or_default_zero}
use Rattle.term_model.specs.Tree as term
use Rattle.term_model.specs.Conditions.{Hold}
use Rattle.term_model.specs.Words.{AreBytes}
use Rattle.input_laws.specs.Inputs.{IsInput}
use Rattle.input_laws.proofs.Order.{same_from_xor}
use Rattle.group_model.specs.Group.{IsAscending, HasAt, IsGroupFirst}
use Rattle.group_model.proofs.HoldLemmas.{held, passed, found_among, among_found}
use Rattle.gate_model.specs.Tree.{Bit, Signed, plain}
use Rattle.gate_model.specs.Value.{under_sign, input_bit, value}
use Rattle.search_model.specs.Model.{IsTotal, IsModel, IsFirstModel, IsNotAfter}
use Rattle.search_model.specs.Search.{conflict_count, values_found}
use Rattle.search_laws.proofs.ListLemmas.{bool_cases, no_element, Contains-head, Contains-tail, Contains-cons_cases}
use Rattle.wide_laws.specs.Formula.{signed_trees, formula_of, bits_below, order_of}
use Rattle.wide_laws.specs.Bytes.{AreRoots, number_below, bytes_of}
use Rattle.wide_laws.proofs.Models.{bit_of, set_sign, input_model}
use Rattle.wide_laws.proofs.Digits.{number, number_bound, number_has, sign_at, small_div, xor_bit_same, xor_bit_other, same_below, less_below}
use Rattle.wide_laws.proofs.Joined.{model_holds, first_found, count_below, value_is}

-- the bytes that the values of a set give
module _ (mask : List ℕ) (set : Signed → Bool) (total : IsTotal signed_trees set) where
  abbrev pub bits_at : ℕ → ℕ → Bool
  bits_at place bit = set (plain (Bit place bit))

  beq_sign : (m v : Bool) → beq (under_sign m v) m ≡ v
  beq_sign true true = refl
  beq_sign true false = refl
  beq_sign false true = refl
  beq_sign false false = refl

  number_values : (place n : ℕ) → number_below mask place n (map set (bits_below mask place n)) ≡ number (bits_at place) n
  number_values place zero = refl
  number_values place (suc n) =
      let m : Bool = input_bit mask place n in
      let is : beq (set (bit_of mask place n)) m ≡ bits_at place n = ap (λ v. beq v m) (set_sign set total (Bit place n) m) ∙ beq_sign m (bits_at place n) in
      ap (λ b. cond b (2 ^ n) 0 + number_below mask place n (map set (bits_below mask place n))) is ∙ ap (λ k. cond (bits_at place n) (2 ^ n) 0 + k) (number_values place n)

  whole : (place : ℕ) (places : List ℕ) → map set (order_of mask (place ∷ places)) ≡ map set (bits_below mask place 8) ++ map set (order_of mask places)
  unfolding order_of
  whole place places = map-append set (bits_below mask place 8) (order_of mask places)

  bytes_cons : (place : ℕ) (places : List ℕ) (values : List Bool) → bytes_of mask (place ∷ places) values ≡ number_below mask place 8 (take 8 values) ∷ bytes_of mask places (drop 8 values)
  unfolding bytes_of
  bytes_cons place places values = refl

  pub bytes_values : (place : ℕ) (places : List ℕ) → bytes_of mask (place ∷ places) (map set (order_of mask (place ∷ places))) ≡ number (bits_at place) 8 ∷ bytes_of mask places (map set (order_of mask places))
  bytes_values place places =
      let own : List Bool = map set (bits_below mask place 8) in
      let rest : List Bool = map set (order_of mask places) in
      bytes_cons place places (map set (order_of mask (place ∷ places)))
      ∙ ap (λ (vs : List Bool). number_below mask place 8 (take 8 vs) ∷ bytes_of mask places (drop 8 vs)) (whole place places)
      ∙ ap (λ (vs : List Bool). number_below mask place 8 vs ∷ bytes_of mask places (drop 8 (own ++ rest))) (take-append_seam own rest)
      ∙ ap (λ (vs : List Bool). number_below mask place 8 own ∷ bytes_of mask places vs) (drop-append_seam own rest)
      ∙ ap (λ b. b ∷ bytes_of mask places rest) (number_values place 8)

  pub byte_at : (places : List ℕ) (k : ℕ) → k < length places → slice_index (bytes_of mask places (map set (order_of mask places))) k ≡ number (bits_at (slice_index places k)) 8
  byte_at [] k lt = absurd (omega (arith, lt))
  byte_at (place ∷ places) zero lt = ap (λ (bs : List ℕ). slice_index bs 0) (bytes_values place places)
  byte_at (place ∷ places) (suc k) lt = ap (λ (bs : List ℕ). slice_index bs (suc k)) (bytes_values place places) ∙ byte_at places k (omega (arith, lt))

  nothing : bytes_of mask [] (map set (order_of mask [])) ≡ []
  unfolding bytes_of
  nothing = refl

  pub bytes_input : (places : List ℕ) → IsInput (length places) (bytes_of mask places (map set (order_of mask places)))
  bytes_input [] = record { long = ap length nothing; in_range = subst (All (λ b. b < 256)) (sym nothing) (All-nil (λ (b : ℕ). b < 256)) }
  bytes_input (place ∷ places) =
      let rest : IsInput (length places) (bytes_of mask places (map set (order_of mask places))) = bytes_input places in
      let is = bytes_values place places in
      record {
        long = ap length is ∙ ap suc rest.long;
        in_range = subst (All (λ b. b < 256)) (sym is) (All-cons (λ (b : ℕ). b < 256) (number (bits_at place) 8) (bytes_of mask places (map set (order_of mask places))) (number_bound (bits_at place) 8) rest.in_range);
      }

-- bytes under a mask, from the first bit in which two differ
module _ (mask : List ℕ) (place : ℕ) (first other : ℕ) (f g : Signed → Bool)
    (f_is : (b : ℕ) → b < 8 → f (bit_of mask place b) ≡ sign_at (slice_index mask place) first b) (g_is : (b : ℕ) → b < 8 → g (bit_of mask place b) ≡ sign_at (slice_index mask place) other b) where
  abbrev m : ℕ
  m = slice_index mask place

  abbrev x : ℕ
  x = bit_xor first m

  abbrev z : ℕ
  z = bit_xor other m

  bit_same : (n : ℕ) → n < 8 → f (bit_of mask place n) ≡ g (bit_of mask place n) → x / 2 ^ n % 2 ≡ z / 2 ^ n % 2
  bit_same n lt e = elim (bool_cases (f (bit_of mask place n))) [
    | inl t ↦ xor_bit_same m first n (sym (f_is n lt) ∙ t) ∙ sym (xor_bit_same m other n (sym (g_is n lt) ∙ sym e ∙ t))
    | inr t ↦ xor_bit_other m first n (sym (f_is n lt) ∙ t) ∙ sym (xor_bit_other m other n (sym (g_is n lt) ∙ sym e ∙ t))
  ]

  byte_below : (n : ℕ) (rest : List Signed) → n ≤ 8 → x / 2 ^ n ≡ z / 2 ^ n → IsNotAfter (bits_below mask place n ++ rest) f g → (x < z) ⊎ ((x ≡ z) × IsNotAfter rest f g)
  byte_below zero rest le above h = inr (sym (div-one x) ∙ above ∙ div-one z, h)
  byte_below (suc n) rest le above (inl h) =
      let lt : n < 8 = omega arith in
      inl (less_below x z n above (xor_bit_same m first n (sym (f_is n lt) ∙ h.0)) (xor_bit_other m other n (sym (g_is n lt) ∙ h.1)))
  byte_below (suc n) rest le above (inr h) =
      let lt : n < 8 = omega arith in
      byte_below n rest (omega arith) (same_below x z n above (bit_same n lt h.0)) h.1

  pub byte_compared : (rest : List Signed) → first < 256 → other < 256 → IsNotAfter (bits_below mask place 8 ++ rest) f g → (x < z) ⊎ ((first ≡ other) × IsNotAfter rest f g)
  byte_compared rest low low' h =
      let none : first / 2 ^ 8 ≡ other / 2 ^ 8 = small_div first 8 low ∙ sym (small_div other 8 low') in
      let above : x / 2 ^ 8 ≡ z / 2 ^ 8 = xor_shr first m 8 ∙ ap (λ a. bit_xor a (m / 2 ^ 8)) none ∙ sym (xor_shr other m 8) in
      elim (byte_below 8 rest (omega arith) above h) [
        | inl lt ↦ inl lt
        | inr same ↦ inr (same_from_xor first other m same.0, same.1)
      ]

ascending_head : (p : ℕ) (ps : List ℕ) → IsAscending (p ∷ ps) → (k : ℕ) → Contains ps k → p < k
ascending_head p ps h k (i, lt, is) = let le : p < get_or ps i k = h 0 (suc i) k (omega arith) (omega (arith, lt)) in omega (arith, le, is)

ascending_tail : (p : ℕ) (ps : List ℕ) → IsAscending (p ∷ ps) → IsAscending ps
ascending_tail p ps h = λ i j d lt within. h (suc i) (suc j) d (omega (arith, lt)) (omega (arith, within))

-- two inputs with these bits at places
module _ (mask y z : List ℕ) (f g : Signed → Bool) where
  pub record IsLess (places : List ℕ) : Type 0 where
    pub at : ℕ
    pub inside : Contains places at
    pub same : (k : ℕ) → k < at → Contains places k → slice_index y k ≡ slice_index z k
    pub less : bit_xor (slice_index y at) (slice_index mask at) < bit_xor (slice_index z at) (slice_index mask at)

  abbrev Same : List ℕ → Type 0
  Same places = (k : ℕ) → Contains places k → slice_index y k ≡ slice_index z k

  abbrev Reads : (Signed → Bool) → List ℕ → List ℕ → Type 0
  Reads h input places = (place : ℕ) → Contains places place → (b : ℕ) → b < 8 → h (bit_of mask place b) ≡ sign_at (slice_index mask place) (slice_index input place) b

  order_cons : (place : ℕ) (places : List ℕ) → order_of mask (place ∷ places) ≡ bits_below mask place 8 ++ order_of mask places
  unfolding order_of
  order_cons place places = refl

  pub compared : (places : List ℕ) → IsAscending places → AreBytes y → AreBytes z → Reads f y places → Reads g z places → IsNotAfter (order_of mask places) f g → Same places ⊎ IsLess places
  compared [] ascending low low' f_is g_is h = inl (λ k at. absurd (no_element k at))
  compared (place ∷ places) ascending low low' f_is g_is h =
      let head : Contains (place ∷ places) place = Contains-head place places in
      let P : List Signed → Type 0 = λ o. IsNotAfter o f g in
      elim (byte_compared mask place (slice_index y place) (slice_index z place) f g (f_is place head) (g_is place head) (order_of mask places) (low place) (low' place) (subst P (order_cons place places) h)) [
        | inl less ↦ inr (record {
          at = place;
          inside = head;
          same = λ k lt at. elim (Contains-cons_cases place places k at) [
            | inl is ↦ absurd (omega (arith, is))
            | inr later ↦ absurd (omega (arith, ascending_head place places ascending k later))
          ];
          less = less;
        })
        | inr same ↦ elim (compared places (ascending_tail place places ascending) low low'
            (λ p at. f_is p (Contains-tail place places p at)) (λ p at. g_is p (Contains-tail place places p at)) same.1) [
              | inl all ↦ inl (λ k at. elim (Contains-cons_cases place places k at) [
                | inl is ↦ (let Q : ℕ → Type 0 = λ i. slice_index y i ≡ slice_index z i in subst Q is same.0)
                | inr later ↦ all k later
              ])
              | inr less ↦ inr (record {
                at = less.at;
                inside = Contains-tail place places less.at less.inside;
                same = λ k lt at. elim (Contains-cons_cases place places k at) [
                  | inl is ↦ (let Q : ℕ → Type 0 = λ i. slice_index y i ≡ slice_index z i in subst Q is same.0)
                  | inr later ↦ less.same k lt later
                ];
                less = less.less;
              })
            ]
      ]

pub input_bytes : (n : ℕ) (y : List ℕ) → IsInput n y → AreBytes y
input_bytes n y is i = elim (cases_lt i (length y)) [
  | inl lt ↦ is.in_range i 0 lt
  | inr le ↦ let past : slice_index y i ≡ 0 = get_or_past y i 0 le in omega (arith, past)
]

module _ (mask places : List ℕ) (conditions : List term.Tree) (roots : List Signed) (are : AreRoots places conditions roots) (ascending : IsAscending places) (some : List ℕ) (are_bytes : AreBytes some) (met : Hold conditions some) where
  abbrev values : List Bool
  values = values_found signed_trees (formula_of roots) (order_of mask places)

  abbrev bytes : List ℕ
  bytes = bytes_of mask places values

  abbrev found : IsFirstModel signed_trees (formula_of roots) (order_of mask places) (values_found signed_trees (formula_of roots) (order_of mask places))
  found = first_found mask places conditions roots are some are_bytes met

  bytes_are : bytes_of mask places (values_found signed_trees (formula_of roots) (order_of mask places)) ≡ bytes_of mask places (map found.set (order_of mask places))
  bytes_are = ap (bytes_of mask places) found.reads

  -- an input that has the bytes at the places has the model's bits there
  has_bits : (y : List ℕ) → HasAt places bytes y → (place bit : ℕ) → Contains places place → bit < 8 → input_bit y place bit ≡ found.set (plain (Bit place bit))
  has_bits y has place bit (k, lt, is) low =
      let at : slice_index places k ≡ place = sym (get_or_default_zero places k place lt) ∙ is in
      let byte : slice_index y (slice_index places k) ≡ number (bits_at mask found.set found.model.one (slice_index places k)) 8 =
      has k lt ∙ ap (λ (bs : List ℕ). slice_index bs k) bytes_are ∙ byte_at mask found.set found.model.one places k lt in
      let P : ℕ → Type 0 = λ p. slice_index y p ≡ number (bits_at mask found.set found.model.one p) 8 in
      ap (λ b. nat_eq (b / 2 ^ bit % 2) 1) (subst P at byte) ∙ number_has (bits_at mask found.set found.model.one place) 8 bit low

  found_holds : (n : ℕ) (y : List ℕ) → IsInput n y → HasAt places bytes y → Hold conditions y
  found_holds n y is has = model_holds mask places conditions roots are some are_bytes met found.set found.model.one found.model y (input_bytes n y is) (has_bits y has)

  found_before : (n : ℕ) (y z : List ℕ) → IsInput n y → HasAt places bytes y → IsInput n z → Hold conditions z → Same mask y z found.set (λ a. value a z) places ⊎ IsLess mask y z found.set (λ a. value a z) places
  found_before n y z is has is_z holds_z =
      let low_z : AreBytes z = input_bytes n z is_z in
      let model_z : IsModel signed_trees (formula_of roots) (λ a. value a z) = input_model roots z ((are.values z low_z).0 holds_z) in
      compared mask y z found.set (λ a. value a z) places ascending (input_bytes n y is) low_z
      (λ place at b low. set_sign found.set found.model.one (Bit place b) (input_bit mask place b) ∙ ap (under_sign (input_bit mask place b)) (sym (has_bits y has place b at low)))
      (λ place at b low. value_is (bit_of mask place b) z)
      (found.first (λ a. value a z) model_z)

  pub is_group_first : IsGroupFirst mask places conditions bytes
  is_group_first = record {
    is_input = subst (IsInput (length places)) (sym bytes_are) (bytes_input mask found.set found.model.one places);
    first = λ n y is within has. record {
      passes = passed conditions y (found_holds n y is has);
      before = λ z is_z passes. elim (found_before n y z is has is_z (held conditions z passes)) [
        | inl same ↦ inl (λ k at. same k (among_found places k at))
        | inr less ↦ inr (record { at = less.at; inside = found_among places less.at less.inside; same_below = λ k lt at. less.same k lt (among_found places k at); less = less.less })
      ];
    };
  }

bits_length : (mask : List ℕ) (place n : ℕ) → length (bits_below mask place n) ≡ n
bits_length mask place zero = refl
bits_length mask place (suc n) = ap suc (bits_length mask place n)

order_length : (mask places : List ℕ) → length (order_of mask places) ≡ 8 * length places
unfolding order_of
order_length mask [] = refl
order_length mask (place ∷ places) = length-append (bits_below mask place 8) (order_of mask places) ∙ omega (arith, bits_length mask place 8, order_length mask places)

pub count_below_choices : (mask places : List ℕ) (conditions : List term.Tree) (roots : List Signed) → AreRoots places conditions roots → (some : List ℕ) → AreBytes some → Hold conditions some
    → conflict_count signed_trees (formula_of roots) (order_of mask places) < 2 ^ (8 * length places)
count_below_choices mask places conditions roots are some bytes met =
    let P : ℕ → Type 0 = λ k. conflict_count signed_trees (formula_of roots) (order_of mask places) < 2 ^ k in
    subst P (order_length mask places) (count_below mask places conditions roots are some bytes met)
