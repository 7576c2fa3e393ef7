-- Putting the first bytes and the sets of groups.
use Rattle.std.proofs.Common.{◌≡◌, ◌≢◌, ◌∙◌, ◌+◌, ◌<◌, ◌≤◌, Fits, w8, inl, inr, ℕ, zero, suc, Bool, true, false, List, [], ◌∷◌, length, map, get_or, take, replicate, refl, sym, ap, subst, arith}
use Rattle.std.specs.Prelude.{All, Contains, Option, Some, None, find, option_map, sum_by, slice_index, slice_index_or, nat_lt, if◌then◌else◌}
use Rattle.std.proofs.lemmas.List.{length-map, get_or-map, get_or-take, length-take-le, get_or_default, get_or_past, length-replicate, get_or-replicate}
use Rattle.std.proofs.lemmas.List.Sums.{sum_by_more}
use Rattle.std.proofs.lemmas.Bool.{cases_lt, eq-eqb, ne_eqb}
use Rattle.std.proofs.lemmas.List.Elements.{Contains-get_or}
use Rattle.term_model.specs.Tree.{Tree}
use Rattle.term_model.specs.Conditions.{Hold, holds}
use Rattle.term_arena.specs.Trees.{trees_of}
use Rattle.input_laws.specs.Sets.{set_at, freed}
use Rattle.input_laws.specs.Narrow.{freed_beside}
use Rattle.byte_sets.specs.declared.ByteSet.{ByteSet}
use Rattle.byte_sets.specs.ByteSet.{has}
use Rattle.group_model.specs.declared.Group.{Group}
use Rattle.group_model.specs.Group.{IsAscending, HasAt, IsGroupFirst}
use Rattle.group_model.proofs.HoldLemmas.{held}
use Rattle.set_laws.proofs.Keeping.{only_item, item_of_two}
use Rattle.wide_laws.specs.Roots.{wide_values}
use Rattle.set_laws.specs.Sets.{values_in}
use Rattle.set_laws.specs.Found.{HasValues, is_spent}
use Rattle.report_maker.specs.declared.error.MakeError.{MakeError}
use Rattle.report_laws.specs.Filled.{IsDone, AreApart, IsLeft, IsFilled}
use Rattle.report_maker.specs.Counted.{NamesGroup, NamesFirst}

-- ---- sets at places

-- the set at an index
set_of : (sets : List ByteSet) (i : ℕ) (d : ByteSet) → i < length sets → set_at (map has sets) i ≡ has (slice_index_or sets i d)
set_of sets i d l = get_or-map has sets i d (λ _. false) l

-- past the end there is none
set_past : (sets : List ByteSet) (i : ℕ) → length sets ≤ i → set_at (map has sets) i ≡ (λ _. false)
set_past sets i l = get_or_past (map has sets) i (λ _. false) (rw (length-map sets has) l)

-- sets that are the same at a place
same_set : (sets later : List ByteSet) (i : ℕ) → length later ≡ length sets → ((d : ByteSet) → slice_index_or later i d ≡ slice_index_or sets i d)
    → set_at (map has later) i ≡ set_at (map has sets) i
same_set [] later i long same = set_past later i (omega (arith, long)) ∙ sym (set_past [] i (omega arith))
same_set (s ∷ ss) later i long same = elim (cases_lt i (length (s ∷ ss))) [
  | inl inside ↦ set_of later i s (rw long inside) ∙ (ap has (same s) ∙ sym (set_of (s ∷ ss) i s inside))
  | inr past ↦ set_past later i (rw long past) ∙ sym (set_past (s ∷ ss) i past)
]

module _ (places : List ℕ) (values sets later : List ByteSet) (long : length later ≡ length sets) where
  -- the sets that were put
  pub sets_are_put : ((k : ℕ) (d : ByteSet) → k < length places → slice_index_or later (slice_index places k) d ≡ slice_index_or values k d)
      → length values ≡ length places → All (λ i. i < length sets) places
      → (k : ℕ) → k < length places → set_at (map has later) (slice_index places k) ≡ set_at (map has values) k
  sets_are_put has_values each within k l = by_values values each has_values
    where
      by_values : (vs : List ByteSet) → length vs ≡ length places → ((j : ℕ) (d : ByteSet) → j < length places → slice_index_or later (slice_index places j) d ≡ slice_index_or vs j d)
          → set_at (map has later) (slice_index places k) ≡ set_at (map has vs) k
      by_values [] e h = absurd (omega (arith, e, l))
      by_values (v ∷ vs) e h =
          set_of later (slice_index places k) v (let inside : slice_index places k < length sets = within k 0 l in rw long inside) ∙ (ap has (h k v l) ∙ sym (set_of (v ∷ vs) k v (rw e l)))

  -- and the others
  pub sets_are_left : ((i : ℕ) (d : ByteSet) → (Contains places i → ⊥) → slice_index_or later i d ≡ slice_index_or sets i d)
      → (i : ℕ) → (Contains places i → ⊥) → set_at (map has later) i ≡ set_at (map has sets) i
  sets_are_left left i not = same_set sets later i long (λ d. left i d not)

-- ---- a group that is done

-- the first of two sets, and both
set_of_first : (values : List ByteSet) (a b : ℕ → Bool) (n : ℕ) → 0 < n → map has values ≡ a ∷ b ∷ [] → set_at (map has (take n values)) 0 ≡ a
set_of_first [] a b n l e = cc
set_of_first (v ∷ vs) a b zero l e = absurd (omega arith)
set_of_first (v ∷ vs) a b (suc n) l e = ap (λ xs. set_at xs 0) e

set_of_second : (values : List ByteSet) (a b : ℕ → Bool) → map has values ≡ a ∷ b ∷ [] → set_at (map has (take 2 values)) 1 ≡ b
set_of_second [] a b e = cc
set_of_second (v ∷ []) a b e = cc
set_of_second (v ∷ w ∷ vs) a b e = ap (λ xs. set_at xs 1) e

-- bytes for the places of a group, with more after them
pub has_with_rest : (places bytes y : List ℕ) → HasAt places (take (length places) bytes) y → HasAt places bytes y
has_with_rest places bytes y h k l = h k l ∙ get_or-take (length places) bytes k 0 l

-- a group of one place or two with its first bytes in the input, and their sets, is done
module _ (trees : List Tree) (mask input first : List ℕ) (sets values : List ByteSet) (group : Group) (narrow : length group.places ≤ 2) where
  abbrev test : List ℕ → Bool
  test = holds (trees_of trees group.conditions)

  -- what the sets of a group of one place are
  abbrev IsOne : Type 0
  IsOne = length group.places ≡ 1 → (y : List ℕ) → slice_index group.places 0 < length y →
      map has values ≡ freed test y (slice_index group.places 0) ∷ (λ v. nat_lt v 256) ∷ []

  -- what the sets of a group of two places are
  abbrev AreTwo : Type 0
  AreTwo = length group.places ≡ 2 → (y : List ℕ) → slice_index group.places 1 < length y → HasAt group.places first y →
      map has values ≡ freed test y (slice_index group.places 0)
      ∷ freed_beside test (freed test y (slice_index group.places 0)) y (slice_index group.places 0) (slice_index group.places 1) ∷ []

  -- the sets are those of the values, by the number of places
  by_size : (places : List ℕ) → length places ≤ 2 → IsAscending places → (y : List ℕ)
      → (length places ≡ 1 → set_at (map has sets) (slice_index places 0) ≡ freed test y (slice_index places 0))
      → (length places ≡ 2 → set_at (map has sets) (slice_index places 0) ≡ freed test y (slice_index places 0))
      → (length places ≡ 2 → set_at (map has sets) (slice_index places 1) ≡ freed_beside test (freed test y (slice_index places 0)) y (slice_index places 0) (slice_index places 1))
      → (i : ℕ) → Contains places i → set_at (map has sets) i ≡ values_in (trees_of trees group.conditions) places y i
  by_size [] few up y one low high i c = absurd (omega (arith, c.1))
  by_size (p ∷ []) few up y one low high i c = let at : i ≡ p = only_item (p ∷ []) i refl c in rw at (one refl)
  by_size (p ∷ q ∷ []) few up y one low high i c = elim (item_of_two (p ∷ q ∷ []) i refl c) [
    | inl at ↦ rw at (rw (eq-eqb p p refl) (low refl))
    | inr at ↦ (let less : p < q = up 0 1 0 (omega arith) (omega arith) in rw at (rw (ne_eqb p q (λ e. omega arith)) (high refl)))
  ]
  by_size (p ∷ q ∷ r ∷ rest) few up y one low high i c = absurd (omega arith)

  pub narrow_is_done : IsAscending group.places → IsGroupFirst mask group.places (trees_of trees group.conditions) (take (length group.places) first)
      → HasAt group.places (take (length group.places) first) input
      → ((k : ℕ) → k < length group.places → set_at (map has sets) (slice_index group.places k) ≡ set_at (map has (take (length group.places) values)) k)
      → IsOne → AreTwo → IsDone trees mask input (map has sets) group
  narrow_is_done up is_first has_first put one two = record {
    bytes = take (length group.places) first;
    is_first = is_first;
    has = has_first;
    values = λ y within h. by_size group.places narrow up y
        (λ is. put 0 (omega arith) ∙ set_of_first values _ _ (length group.places) (omega arith) (one is y (within 0 0 (omega arith))))
        (λ is. put 0 (omega arith) ∙ set_of_first values _ _ (length group.places) (omega arith) (two is y (within 1 0 (omega arith)) (has_with_rest group.places first y h)))
        (λ is. put 1 (omega arith) ∙ (ap (λ n. set_at (map has (take n values)) 1) is ∙ set_of_second values _ _ (two is y (within 1 0 (omega arith)) (has_with_rest group.places first y h))));
  }

-- a group of more than two places is done
module _ (trees : List Tree) (mask input bytes : List ℕ) (sets values : List ByteSet) (group : Group) (wide : 2 < length group.places) where
  abbrev conditions : List Tree
  conditions = trees_of trees group.conditions

  -- the values of a place of more than two
  wide_in : (places y : List ℕ) (i : ℕ) → 2 < length places → values_in conditions places y i ≡ wide_values conditions y places i
  wide_in [] y i l = absurd (omega arith)
  wide_in (p ∷ []) y i l = absurd (omega arith)
  wide_in (p ∷ q ∷ []) y i l = absurd (omega arith)
  wide_in (p ∷ q ∷ r ∷ rest) y i l = refl

  -- the set at an index of the values
  value_at : (vs : List ByteSet) (k : ℕ) (f : ℕ → Bool) → k < length vs → ((d : ByteSet) → has (slice_index_or vs k d) ≡ f) → set_at (map has vs) k ≡ f
  value_at [] k f l is = absurd (omega arith)
  value_at (v ∷ vs) k f l is = set_of (v ∷ vs) k v l ∙ is v

  pub wide_is_done : IsGroupFirst mask group.places conditions bytes → HasAt group.places bytes input
      → ((k : ℕ) → k < length group.places → set_at (map has sets) (slice_index group.places k) ≡ set_at (map has values) k)
      → length values ≡ length group.places
      → ((y : List ℕ) → HasAt group.places bytes y → (k : ℕ) (d : ByteSet) → k < length group.places →
      has (slice_index_or values k d) ≡ wide_values conditions y group.places (slice_index group.places k))
      → IsDone trees mask input (map has sets) group
  wide_is_done is_first has_first put each are = record {
    bytes = bytes;
    is_first = is_first;
    has = has_first;
    values = λ y within h i c.
        let at : slice_index group.places c.0 ≡ i = get_or_default group.places c.0 0 i c.1 ∙ c.2 in
        subst (λ j. set_at (map has sets) j ≡ values_in conditions group.places y j) at
        (put c.0 c.1 ∙ (value_at values c.0 _ (rw each c.1) (λ d. are y h c.0 d c.1) ∙ sym (wide_in group.places y (slice_index group.places c.0) wide)));
  }

-- the same places and items by other names
pub all_bytes_are_put : (given places items bytes later : List ℕ) → given ≡ places → items ≡ bytes
    → ((k d : ℕ) → k < length given → slice_index_or later (slice_index given k) d ≡ slice_index_or items k d) → HasAt places bytes later
all_bytes_are_put given places items bytes later e f h = rw (← e, ← f) (λ k l. h k 0 l)

pub all_sets_are_put : (given places : List ℕ) (items values sets later : List ByteSet) → given ≡ places → items ≡ values → length values ≡ length places
    → length later ≡ length sets → All (λ i. i < length sets) places
    → ((k : ℕ) (d : ByteSet) → k < length given → slice_index_or later (slice_index given k) d ≡ slice_index_or items k d)
    → (k : ℕ) → k < length places → set_at (map has later) (slice_index places k) ≡ set_at (map has values) k
all_sets_are_put given places items values sets later e f each long within h =
    sets_are_put places values sets later long
    (subst (λ vs. (k : ℕ) (d : ByteSet) → k < length places → slice_index_or later (slice_index places k) d ≡ slice_index_or vs k d) f
    (subst (λ ps. (k : ℕ) (d : ByteSet) → k < length ps → slice_index_or later (slice_index ps k) d ≡ slice_index_or items k d) e h)) each within

-- the same places by another name
pub bytes_are_put : (given places bytes later : List ℕ) → given ≡ places
    → ((k d : ℕ) → k < length given → slice_index_or later (slice_index given k) d ≡ slice_index_or (take (length given) bytes) k d) → HasAt places (take (length places) bytes) later
bytes_are_put given places bytes later e h = subst (λ ps. HasAt ps (take (length ps) bytes) later) e (λ k l. h k 0 l)

pub taken_sets_are_put : (given places : List ℕ) (values sets later : List ByteSet) → given ≡ places → length later ≡ length sets → All (λ i. i < length sets) places → length places ≤ length values
    → ((k : ℕ) (d : ByteSet) → k < length given → slice_index_or later (slice_index given k) d ≡ slice_index_or (take (length given) values) k d)
    → (k : ℕ) → k < length places → set_at (map has later) (slice_index places k) ≡ set_at (map has (take (length places) values)) k
taken_sets_are_put given places values sets later e long within enough h =
    sets_are_put places (take (length places) values) sets later long
    (subst (λ ps. (k : ℕ) (d : ByteSet) → k < length ps → slice_index_or later (slice_index ps k) d ≡ slice_index_or (take (length ps) values) k d) e h)
    (length-take-le (length places) values enough) within

pub other_sets_are_left : (given places : List ℕ) (sets later : List ByteSet) → given ≡ places → length later ≡ length sets
    → ((i : ℕ) (d : ByteSet) → (Contains given i → ⊥) → slice_index_or later i d ≡ slice_index_or sets i d)
    → (i : ℕ) → (Contains places i → ⊥) → set_at (map has later) i ≡ set_at (map has sets) i
other_sets_are_left given places sets later e long h =
    sets_are_left places [] sets later long (subst (λ ps. (i : ℕ) (d : ByteSet) → (Contains ps i → ⊥) → slice_index_or later i d ≡ slice_index_or sets i d) e h)

-- a group's first bytes meet its conditions
pub first_meets : (trees : List Tree) (mask input bytes : List ℕ) (group : Group) → All (λ i. i < length mask) group.places
    → IsGroupFirst mask group.places (trees_of trees group.conditions) bytes
    → HasAt group.places bytes input → length input ≡ length mask → All (λ byte. byte < 256) input → Hold (trees_of trees group.conditions) input
first_meets trees mask input bytes group below is_first has_first long in_range =
    held (trees_of trees group.conditions) input (is_first.first (length mask) input (record { long = long; in_range = in_range }) below has_first).passes

-- the numbers of a slice of bytes
pub are_bytes : (xs : List ℕ) → ((i : ℕ) → Fits w8 (get_or xs i 0)) → All (λ byte. byte < 256) xs
are_bytes xs fits k d l = let f : Fits w8 (get_or xs k 0) = fits k in let e : get_or xs k d ≡ get_or xs k 0 = get_or_default xs k d 0 l in omega arith

-- a group stays done where its places stay
pub done_stays : (trees : List Tree) (mask input later : List ℕ) (sets later_sets : List (ℕ → Bool)) (g : Group)
    → ((i : ℕ) → Contains g.places i → slice_index later i ≡ slice_index input i) → ((i : ℕ) → Contains g.places i → set_at later_sets i ≡ set_at sets i)
    → IsDone trees mask input sets g → IsDone trees mask later later_sets g
done_stays trees mask input later sets later_sets g same same_sets done = record {
  bytes = done.bytes;
  is_first = done.is_first;
  has = λ k l. same (slice_index g.places k) (Contains-get_or g.places k 0 l) ∙ done.has k l;
  values = λ y within h i c. same_sets i c ∙ done.values y within h i c;
}

-- one group more

module _ (trees : List Tree) (mask input later : List ℕ) (sets later_sets : List (ℕ → Bool)) (groups : List Group) (count : ℕ) (g : Group)
    (apart : AreApart groups) (inside : count < length groups) (at : get_or groups count g ≡ g)
    (input_left : (i : ℕ) → (Contains g.places i → ⊥) → slice_index later i ≡ slice_index input i)
    (sets_left : (i : ℕ) → (Contains g.places i → ⊥) → set_at later_sets i ≡ set_at sets i) where
  -- an earlier group has other places
  elsewhere : (h : Group) (j : ℕ) → j < length groups → get_or groups j h ≡ h → j < count → (i : ℕ) → Contains h.places i → Contains g.places i → ⊥
  elsewhere h j l e less i ch cg =
      let P : Group → Type 0 = λ x. Contains x.places i in
      apart j count h less inside i (subst P (sym e) ch) (subst P (sym (get_or_default groups count h g inside ∙ at)) cg)

  -- the group at the same index
  same_group : (h : Group) (j : ℕ) → j < length groups → get_or groups j h ≡ h → j ≡ count → g ≡ h
  same_group h j l e is = sym at ∙ (ap (λ k. get_or groups k g) (sym is) ∙ (get_or_default groups j g h l ∙ e))

  done_more : ((h : Group) (c : Contains groups h) → c.0 < count → IsDone trees mask input sets h) → IsDone trees mask later later_sets g
      → (h : Group) (c : Contains groups h) → c.0 < count + 1 → IsDone trees mask later later_sets h
  done_more before now h (j, l, e) less = elim (cases_lt j count) [
    | inl earlier ↦ done_stays trees mask input later sets later_sets h (λ i c. input_left i (elsewhere h j l e earlier i c)) (λ i c. sets_left i (elsewhere h j l e earlier i c)) (before h (j, l, e) earlier)
    | inr same ↦ subst (IsDone trees mask later later_sets) (same_group h j l e (omega arith)) now
  ]

  left_before : (i : ℕ) → IsLeft groups (count + 1) i → IsLeft groups count i
  left_before i left h c less = left h c (omega arith)

  left_here : (i : ℕ) → IsLeft groups (count + 1) i → Contains g.places i → ⊥
  left_here i left = left g (count, inside, at) (omega arith)

  pub filled_more : IsFilled trees mask groups count input sets → IsDone trees mask later later_sets g → length later ≡ length input → length later_sets ≡ length sets
      → IsFilled trees mask groups (count + 1) later later_sets
  filled_more filled now long sets_long = record {
    input_long = long ∙ filled.input_long;
    sets_long = sets_long ∙ filled.sets_long;
    done = done_more filled.done now;
    input_left = λ i l left. input_left i (left_here i left) ∙ filled.input_left i l (left_before i left);
    sets_left = λ i l left. sets_left i (left_here i left) ∙ filled.sets_left i l (left_before i left);
  }

-- as many sets
pub lengths_stay : (sets later : List ByteSet) → length later ≡ length sets → length (map has later) ≡ length (map has sets)
lengths_stay sets later e = length-map later has ∙ (e ∙ sym (length-map sets has))

-- at the start no group is done
pub filled_at_start : (trees : List Tree) (mask : List ℕ) (groups : List Group) (input : List ℕ) (sets : List ByteSet) (full : ByteSet)
    → input ≡ mask → sets ≡ replicate (length mask) full → has full ≡ (λ v. nat_lt v 256) → IsFilled trees mask groups 0 input (map has sets)
filled_at_start trees mask groups input sets full is_input is_sets is_full = record {
  input_long = ap length is_input;
  sets_long = length-map sets has ∙ (ap length is_sets ∙ length-replicate (length mask) full);
  done = λ g c less. absurd (omega arith);
  input_left = λ i l left. ap (λ xs. slice_index xs i) is_input;
  sets_left = λ i l left.
      ap (λ xs. set_at (map has xs) i) is_sets
      ∙ (get_or-map has (replicate (length mask) full) i full (λ _. false) (rw (length-replicate (length mask) full) l)
      ∙ (ap has (get_or-replicate (length mask) i full full l) ∙ is_full));
}

-- ---- the conflicts of groups, one group after another

-- the first of some items, and the item at their end
module _ {X : Type 0} where
  pub sum_more : (f : X → ℕ) (xs : List X) (k : ℕ) (x : X) → k < length xs → get_or xs k x ≡ x → sum_by f (take (k + 1) xs) ≡ sum_by f (take k xs) + f x
  sum_more f xs k x l e = subst (λ y. sum_by f (take (k + 1) xs) ≡ sum_by f (take k xs) + f y) e (sum_by_more f xs k x l)

  -- none among the items so far, and the next isn't one
  find_after : (p : X → Bool) (xs : List X) (k : ℕ) (x : X) → k < length xs → get_or xs k x ≡ x → find p (take k xs) ≡ None → p x ≡ false → find p (take (suc k) xs) ≡ None
  find_after p [] k x l e none not = absurd (omega arith)
  find_after p (y ∷ ys) zero x l e none not = rw (ap p e ∙ not) refl
  find_after p (y ∷ ys) (suc k) x l e none not = by_first (p y) none (λ n. find_after p ys k x (omega arith) e n not)
    where
      by_first : (b : Bool) → (if b then Some y else find p (take k ys)) ≡ None → (find p (take k ys) ≡ None → find p (take (suc k) ys) ≡ None)
          → (if b then Some y else find p (take (suc k) ys)) ≡ None
      by_first true n rest = cc
      by_first false n rest = rest n

  pub find_more : (p : X → Bool) (xs : List X) (k : ℕ) (x : X) → k < length xs → get_or xs k x ≡ x → find p (take k xs) ≡ None → p x ≡ false → find p (take (k + 1) xs) ≡ None
  find_more p xs k x l e none not = let next : suc k ≡ k + 1 = omega arith in subst (λ n. find p (take n xs) ≡ None) next (find_after p xs k x l e none not)

  -- none among the items so far, and the next is one
  pub found_here : (p : X → Bool) (xs : List X) (k : ℕ) (x : X) → k < length xs → get_or xs k x ≡ x → find p (take k xs) ≡ None → p x ≡ true → find p xs ≡ Some x
  found_here p [] k x l e none is = absurd (omega arith)
  found_here p (y ∷ ys) zero x l e none is = rw (ap p e ∙ is) (ap Some e)
  found_here p (y ∷ ys) (suc k) x l e none is = by_first (p y) none (λ n. found_here p ys k x (omega arith) e n is)
    where
      by_first : (b : Bool) → (if b then Some y else find p (take k ys)) ≡ None → (find p (take k ys) ≡ None → find p ys ≡ Some x)
          → (if b then Some y else find p ys) ≡ Some x
      by_first true n rest = cc
      by_first false n rest = rest n

-- a group that is named as spent is the first, where none before it is
pub names_first : (trees : List Tree) (mask : List ℕ) (budget : ℕ) (groups : List Group) (k : ℕ) (g : Group) (error : MakeError) → k < length groups → get_or groups k g ≡ g
    → find (is_spent trees mask budget) (take k groups) ≡ None → NamesGroup trees mask budget g error → NamesFirst trees mask budget groups error
names_first trees mask budget groups k g error inside at none named first width is =
    let both = named first width is in
    rw (found_here (is_spent trees mask budget) groups k g inside at none both.0) (ap Some both.1)
