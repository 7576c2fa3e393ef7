-- Where no group has more than two places, the sets are those that a test of inputs gives.
use Rattle.std.proofs.Common.{◌≡◌, ◌≢◌, ℕ, ◌<◌, ◌≤◌, inl, inr, Bool, true, false, cond, ◌&&◌, List, [], ◌∷◌, length, refl, sym, ◌∙◌, ap, subst, arith}
use Rattle.std.specs.Prelude.{All, Contains, filter, nat_eq, nat_lt, slice_index, slice_set, IsTrue}
use Rattle.std.specs.List.{list_any, list_all, range_with_len}
use mathlib.Core.Path.{fun_ext}
use Rattle.std.proofs.lemmas.List.{get_or-set_other, ext_get_or}
use Rattle.std.proofs.lemmas.List.Elements.{All-contains, All-filter}
use Rattle.std.proofs.lemmas.List.FromFn.{length-map-range_with_len, get_or-map-range_with_len}
use Rattle.std.proofs.lemmas.Bool.{and_from, cases_Bool, cases_lt, both_ways, ltb-true, lt-ltb}
use Rattle.term_model.specs.Tree.{Tree}
use Rattle.term_model.specs.Value.{val}
use Rattle.term_model.specs.Places.{reads, ReadsBelow}
use Rattle.term_model.specs.Conditions.{Hold, holds}
use Rattle.term_model.proofs.PlaceLemmas.{value_follows}
use Rattle.input_laws.specs.Inputs.{IsInput, bytes}
use Rattle.input_laws.specs.Sets.{freed}
use Rattle.input_laws.specs.Narrow.{freed_beside}
use Rattle.input_laws.proofs.Bound.{bytes_in_range}
use Rattle.input_laws.proofs.ByteByByte.{input_with}
use Rattle.group_model.proofs.HoldLemmas.{held, passed, one_truth}
use Rattle.group_laws.specs.Groups.{first_of, group_with, begins_group, groups_of, has_wide_group}
use Rattle.group_laws.specs.Parts.{IsByConditions}
use Rattle.group_laws.proofs.Lists.{any_here, all_from, item_is_kept, all_agree, contains_map}
use Rattle.group_laws.proofs.Firsts.{itself, in_range, first_is_low, first_is_first, first_is_read, first_of_unread}
use Rattle.set_laws.specs.Sets.{conditions_on, values_beside, values_in, values_of, sets_from}
use Rattle.set_laws.specs.ByClass.{values_at, sets_by_groups}
use Rattle.set_laws.proofs.GroupAt.{is_read, when_read, in_group, has_itself, first_is_there}
use Rattle.set_laws.proofs.Values.{beside_itself}
use Rattle.set_laws.proofs.Keeping.{only_item}
use Rattle.set_laws.proofs.Choices.{length_sets, set_is, values_are, value_unread}

-- ---- tests of bytes

-- what follows a test matters only where the test passes
and_same : (s t u : Bool) → (s ≡ true → t ≡ u) → (s && t) ≡ (s && u)
and_same true t u h = h refl
and_same false t u h = refl

-- what follows a test adds nothing where it passes with the test
and_left_alone : (s t : Bool) → (s ≡ true → t ≡ true) → (s && t) ≡ s
and_left_alone true t h = h refl
and_left_alone false t h = refl

-- ---- groups of one place or two

module _ (cs : List Tree) (n : ℕ) (none : has_wide_group cs n ≡ false) where
  -- a group with a place that is read has at most two places
  pub few_beside : (i : ℕ) → i < n → list_any (λ t. reads t i) cs ≡ true → 2 < length (group_with cs n (first_of cs n i)) → ⊥
  unfolding groups_of
  few_beside i l read many =
      let first : ℕ = first_of cs n i in
      let low : first ≤ i = first_is_low cs n i l in
      let begins : begins_group cs n first ≡ true = and_from (list_any (λ t. reads t first) cs) (nat_eq (first_of cs n first) first) (first_is_read cs n i l read) (ap (λ k. nat_eq k first) (first_is_first cs n i l) ∙ itself first) in
      let there : Contains (groups_of cs n) (group_with cs n first) = contains_map (group_with cs n) (filter (begins_group cs n) (range_with_len 0 n)) first (item_is_kept (begins_group cs n) (range_with_len 0 n) first (in_range n first (omega arith)) begins) in
      both_ways (has_wide_group cs n) none (any_here (λ places. nat_lt 2 (length places)) (groups_of cs n) (group_with cs n first) there (lt-ltb 2 (length (group_with cs n first)) many))

-- in a group of one place or two the values are those beside its first place
beside_first : (conditions : List Tree) (places : List ℕ) (y : List ℕ) (i : ℕ) → length places ≤ 2 → Contains places i → values_in conditions places y i ≡ values_beside (holds conditions) y (slice_index places 0) i
beside_first conditions [] y i few c = absurd (let l : c.0 < 0 = c.1 in omega arith)
beside_first conditions (p ∷ []) y i few c = sym (beside_itself (holds conditions) y p i (sym (only_item (p ∷ []) i refl c)))
beside_first conditions (p ∷ q ∷ []) y i few c = refl
beside_first conditions (p ∷ q ∷ r ∷ places) y i few c = absurd (omega arith)

module _ (cs : List Tree) (y : List ℕ) (member : List ℕ → Bool) (by : IsByConditions (length y) member cs) (a : IsInput (length y) y) (m : IsTrue (member y)) where
  met : Hold cs y
  met = (by y a).0 m

  -- an input that differs from the member at some places alone is a member where the conditions that read them hold
  as_group : (places : List ℕ) (z : List ℕ) → IsInput (length y) z → ((k : ℕ) → (Contains places k → ⊥) → slice_index z k ≡ slice_index y k) → member z ≡ holds (conditions_on cs places) z
  as_group places z az off = one_truth (member z) (holds (conditions_on cs places) z)
      (λ passes. passed (conditions_on cs places) z (All-filter (λ t. list_any (reads t) places) (λ (t : Tree). val t z ≡ 1) cs ((by z az).0 passes)))
      (λ h. (by z az).1 (all_from (λ (t : Tree). val t z ≡ 1) cs (λ t c. elim (cases_Bool (list_any (reads t) places)) [
        | inl has ↦ All-contains (λ (u : Tree). val u z ≡ 1) (conditions_on cs places) t (held (conditions_on cs places) z h) (item_is_kept (λ u. list_any (reads u) places) cs t c has)
        | inr lacks ↦
            value_follows t z y (λ k r. off k (λ ck. both_ways (list_any (reads t) places) lacks (any_here (reads t) places k ck r)))
            ∙ All-contains (λ (u : Tree). val u y ≡ 1) cs t met c
      ])))

  freed_as_group : (places : List ℕ) (i : ℕ) → Contains places i → freed member y i ≡ freed (holds (conditions_on cs places)) y i
  freed_as_group places i ci = fun_ext (λ v. and_same (nat_lt v 256) (member (slice_set y i v)) (holds (conditions_on cs places) (slice_set y i v)) (λ s.
      as_group places (slice_set y i v) (input_with (length y) y i v a (ltb-true v 256 s)) (λ k no.
      let apart : k ≢ i = λ e. no (rw e ci) in get_or-set_other y i k v 0 apart)))

  beside_as_group : (places : List ℕ) (set : ℕ → Bool) (i j : ℕ) → Contains places i → Contains places j → freed_beside member set y i j ≡ freed_beside (holds (conditions_on cs places)) set y i j
  beside_as_group places set i j ci cj = fun_ext (λ w. and_same (nat_lt w 256)
      (list_all (λ v. member (slice_set (slice_set y i v) j w)) (filter set bytes))
      (list_all (λ v. holds (conditions_on cs places) (slice_set (slice_set y i v) j w)) (filter set bytes))
      (λ s. all_agree set (λ v. member (slice_set (slice_set y i v) j w)) (λ v. holds (conditions_on cs places) (slice_set (slice_set y i v) j w)) (λ v. v < 256) bytes bytes_in_range (λ v b.
      as_group places (slice_set (slice_set y i v) j w) (input_with (length y) (slice_set y i v) j w (input_with (length y) y i v a b) (ltb-true w 256 s)) (λ k no.
      let apart : k ≢ i = λ e. no (rw e ci) in
      let apart_too : k ≢ j = λ e. no (rw e cj) in
      get_or-set_other (slice_set y i v) j k w 0 apart_too ∙ get_or-set_other y i k v 0 apart))))

  values_as_group : (places : List ℕ) (first i : ℕ) → Contains places first → Contains places i → values_beside (holds (conditions_on cs places)) y first i ≡ values_beside member y first i
  values_as_group places first i cf ci = either (nat_eq first i)
    where
      test : List ℕ → Bool
      test = holds (conditions_on cs places)

      either : (b : Bool) → cond b (freed test y i) (freed_beside test (freed test y first) y first i) ≡ cond b (freed member y i) (freed_beside member (freed member y first) y first i)
      either true = sym (freed_as_group places i ci)
      either false = ap (λ set. freed_beside test set y first i) (sym (freed_as_group places first cf)) ∙ sym (beside_as_group places (freed member y first) first i cf ci)

  at_is : (i : ℕ) → values_at member cs y i ≡ values_beside member y (first_of cs (length y) i) i
  unfolding values_at
  at_is i = refl

  -- a place that no condition reads
  unread_is : (i : ℕ) → i < length y → is_read cs (length y) i ≡ false → values_at member cs y i ≡ (λ v. nat_lt v 256)
  unread_is i l unread =
      let none : (t : Tree) → Contains cs t → reads t i ≡ true → ⊥ = λ t c r. both_ways (list_any (λ u. reads u i) cs) unread (any_here (λ u. reads u i) cs t c r) in
      at_is i
      ∙ (beside_itself member y (first_of cs (length y) i) i (first_of_unread cs (length y) i l none)
      ∙ fun_ext (λ v. and_left_alone (nat_lt v 256) (member (slice_set y i v)) (λ s.
      (by (slice_set y i v) (input_with (length y) y i v a (ltb-true v 256 s))).1 (all_from (λ (t : Tree). val t (slice_set y i v) ≡ 1) cs (λ t c.
      value_follows t (slice_set y i v) y (λ k r. get_or-set_other y i k v 0 (λ e. none t c (rw e at r)))
      ∙ All-contains (λ (u : Tree). val u y ≡ 1) cs t met c)))))

  module _ (none : has_wide_group cs (length y) ≡ false) where
    few : (i : ℕ) → i < length y → is_read cs (length y) i ≡ true → length (group_with cs (length y) i) ≤ 2
    few i l r = elim (cases_lt 2 (length (group_with cs (length y) i))) [
      | inl many ↦ absurd (few_beside cs (length y) none i l r (subst (λ f. 2 < length (filter (λ k. nat_eq (first_of cs (length y) k) f) (range_with_len 0 (length y)))) (sym (first_is_first cs (length y) i l)) many))
      | inr least ↦ least
    ]

    read_is : (i : ℕ) → i < length y → is_read cs (length y) i ≡ true → values_of cs y i ≡ values_at member cs y i
    read_is i l r =
        let n : ℕ = length y in
        let first : ℕ = first_of cs (length y) i in
        let low : first_of cs (length y) i ≤ i = first_is_low cs (length y) i l in
        let own : Contains (group_with cs (length y) i) i = has_itself cs (length y) i l in
        let begin : Contains (group_with cs (length y) i) (first_of cs (length y) i) = in_group cs (length y) i (first_of cs (length y) i) (omega arith) (first_is_first cs (length y) i l) in
        values_are cs y i (group_with cs (length y) i) (when_read cs (length y) i r)
        ∙ (beside_first (conditions_on cs (group_with cs (length y) i)) (group_with cs (length y) i) y i (few i l r) own
        ∙ (ap (λ f. values_beside (holds (conditions_on cs (group_with cs (length y) i))) y f i) (first_is_there cs (length y) i l)
        ∙ (values_as_group (group_with cs (length y) i) (first_of cs (length y) i) i begin own ∙ sym (at_is i))))

    pub sets_are : sets_from cs y ≡ sets_by_groups member cs y
    sets_are = ext_get_or (λ _. false) (sets_from cs y) (sets_by_groups member cs y) (length_sets cs y ∙ sym (length-map-range_with_len (values_at member cs y) 0 (length y))) (λ i l.
        let here : i < length y = rw (length_sets cs y) at l in
        set_is cs y i (λ _. false) here
        ∙ (elim (cases_Bool (is_read cs (length y) i)) [
          | inl r ↦ read_is i here r
          | inr unread ↦ value_unread cs y i unread ∙ sym (unread_is i here unread)
        ]
        ∙ sym (get_or-map-range_with_len (values_at member cs y) 0 (length y) i i (λ _. false) here (omega arith))))

pub narrow_sets : (cs : List Tree) (n : ℕ) (y : List ℕ) (member : List ℕ → Bool) → All (ReadsBelow n) cs → has_wide_group cs n ≡ false → IsByConditions n member cs → IsInput n y → IsTrue (member y) → sets_from cs y ≡ sets_by_groups member cs y
narrow_sets cs n y member below none by a m =
    sets_are cs y member (subst (λ k. IsByConditions k member cs) (sym a.long) by) (record { long = refl; in_range = a.in_range }) m (subst (λ k. has_wide_group cs k ≡ false) (sym a.long) none)
