-- Every choice from the sets of an input that meets the conditions meets them, and the input is such a choice.
use Rattle.std.proofs.Common.{◌≡◌, ℕ, suc, ◌*◌, ◌<◌, ◌≤◌, ◌^◌, inl, inr, Bool, true, false, List, [], ◌∷◌, length, get_or, refl, sym, ◌∙◌, ap, subst, arith}
use Rattle.std.specs.Prelude.{All, Contains, nat_lt, slice_index, IsTrue}
use Rattle.std.specs.List.{list_any}
use Rattle.std.proofs.lemmas.List.Elements.{All-contains, All-filter}
use Rattle.std.proofs.lemmas.List.FromFn.{length-map-range_with_len, get_or-map-range_with_len}
use Rattle.term_model.specs.Tree.{Tree}
use Rattle.term_model.specs.Value.{val}
use Rattle.term_model.specs.Places.{reads, ReadsBelow}
use Rattle.term_model.specs.Truth.{is_truth}
use Rattle.term_model.specs.Words.{HasWords}
use Rattle.term_model.specs.Conditions.{Hold, holds}
use Rattle.term_model.proofs.PlaceLemmas.{value_follows}
use Rattle.input_laws.specs.Inputs.{IsInput, class_size}
use Rattle.input_laws.specs.Sets.{IsChoice, size, set_at, revealed}
use Rattle.input_laws.specs.Parts.{KeepPart}
use Rattle.input_laws.proofs.Bound.{bound}
use Rattle.input_laws.proofs.ByteByByte.{choice_is_input, choice_at}
use Rattle.input_laws.proofs.Freed.{filled}
use Rattle.group_model.specs.Group.{part_of}
use Rattle.group_model.proofs.HoldLemmas.{held}
use Rattle.group_laws.specs.Groups.{group_with}
use Rattle.group_laws.specs.Parts.{IsByConditions}
use Rattle.group_laws.proofs.Lists.{any_here, all_from, item_is_kept}
use Rattle.group_laws.proofs.Reading.{reading, reads_none}
use Rattle.set_laws.specs.Sets.{group_at, conditions_on, values_in, values_of, sets_from}
use Rattle.set_laws.proofs.GroupAt.{is_read, when_read, when_unread, has_itself, all_below, ascends, same_places, all_read, read_below, are_conditions}
use Rattle.set_laws.proofs.Values.{own_in}
use Rattle.set_laws.proofs.Keeping.{keeps}

-- ---- the sets

pub length_sets : (cs : List Tree) (y : List ℕ) → length (sets_from cs y) ≡ length y
length_sets cs y = length-map-range_with_len (values_of cs y) 0 (length y)

pub set_is : (cs : List Tree) (y : List ℕ) (i : ℕ) (d : ℕ → Bool) → i < length y → get_or (sets_from cs y) i d ≡ values_of cs y i
set_is cs y i d l = get_or-map-range_with_len (values_of cs y) 0 (length y) i i d l (omega arith)

pub values_are : (cs : List Tree) (y : List ℕ) (i : ℕ) (places : List ℕ) → group_at cs (length y) i ≡ places → values_of cs y i ≡ values_in (conditions_on cs places) places y i
unfolding values_of
values_are cs y i places e = ap (λ ps. values_in (conditions_on cs ps) ps y i) e

-- a place that no condition reads may have all bytes
pub value_unread : (cs : List Tree) (y : List ℕ) (i : ℕ) → is_read cs (length y) i ≡ false → values_of cs y i ≡ (λ v. nat_lt v 256)
value_unread cs y i e = values_are cs y i [] (when_unread cs (length y) i e)

-- ---- own bytes

-- a list with a byte of each set is a choice
choice_from : (sets : List (ℕ → Bool)) (y : List ℕ) → length sets ≡ length y → ((i : ℕ) → i < length sets → (slice_index y i < 256) × IsTrue (set_at sets i (slice_index y i))) → IsChoice sets y
choice_from [] [] e h = tt
choice_from [] (b ∷ y) e h = absurd (omega arith)
choice_from (set ∷ sets) [] e h = absurd (omega arith)
choice_from (set ∷ sets) (b ∷ y) e h = (h 0 (omega arith), choice_from sets y (omega arith) (λ i l. h (suc i) (omega arith)))

pub own_value : (cs : List Tree) (y : List ℕ) (i : ℕ) → IsInput (length y) y → Hold cs y → i < length y → values_of cs y i (slice_index y i) ≡ true
own_value cs y i a h l =
    ap (λ s. s (slice_index y i)) (values_are cs y i (group_at cs (length y) i) refl)
    ∙ own_in (conditions_on cs (group_at cs (length y) i)) (group_at cs (length y) i) (length y) y i a
    (All-filter (λ t. list_any (reads t) (group_at cs (length y) i)) (λ (t : Tree). val t y ≡ 1) cs h) l

pub own_choice : (cs : List Tree) (n : ℕ) (y : List ℕ) → IsInput n y → Hold cs y → IsChoice (sets_from cs y) y
own_choice cs n y a h =
    let whole : IsInput (length y) y = record { long = refl; in_range = a.in_range } in
    choice_from (sets_from cs y) y (length_sets cs y) (λ i l.
    let here : i < length y = rw (length_sets cs y) at l in
    (a.in_range i 0 here, ap (λ s. s (slice_index y i)) (set_is cs y i (λ _. false) here) ∙ own_value cs y i whole h here))

pub sets_are_filled : (cs : List Tree) (n : ℕ) (y : List ℕ) → IsInput n y → Hold cs y → All (λ set. 0 < size set) (sets_from cs y)
sets_are_filled cs n y a h k d l =
    let whole : IsInput (length y) y = record { long = refl; in_range = a.in_range } in
    let here : k < length y = rw (length_sets cs y) at l in
    filled (get_or (sets_from cs y) k d) (slice_index y k) (a.in_range k 0 here) (ap (λ s. s (slice_index y k)) (set_is cs y k d here) ∙ own_value cs y k whole h here)

-- ---- choices

module _ (cs : List Tree) (y : List ℕ) (truth : All (λ t. is_truth t ≡ true) cs) (words : All HasWords cs) (below : All (ReadsBelow (length y)) cs) (a : IsInput (length y) y) (h : Hold cs y) where
  -- the sets keep the test of the group of each place that is read
  keep_group : (i : ℕ) → i < length y → is_read cs (length y) i ≡ true → KeepPart (sets_from cs y) (part_of (group_with cs (length y) i) (conditions_on cs (group_with cs (length y) i)))
  keep_group i l r =
      let n : ℕ = length y in
      let places : List ℕ = group_with cs (length y) i in
      let own : Contains (group_with cs (length y) i) i = has_itself cs (length y) i l in
      let some : 0 < length (group_with cs (length y) i) = (let b : own.0 < length (group_with cs (length y) i) = own.1 in omega arith) in
      let inside : All (λ j. j < length y) (group_with cs (length y) i) = all_below cs (length y) i in
      keeps (group_with cs (length y) i) (conditions_on cs (group_with cs (length y) i)) (are_conditions cs (length y) below truth words i) (ascends cs (length y) i) some y (sets_from cs y)
      (subst (λ k. IsInput k y) (sym (length_sets cs y)) a)
      (All-filter (λ t. list_any (reads t) (group_with cs (length y) i)) (λ (t : Tree). val t y ≡ 1) cs h)
      (subst (λ k. All (λ j. j < k) (group_with cs (length y) i)) (sym (length_sets cs y)) inside)
      (λ j c.
      let m : j < length y = All-contains (λ (k : ℕ). k < length y) (group_with cs (length y) i) j inside c in
      set_is cs y j (λ _. false) m
      ∙ values_are cs y j (group_with cs (length y) i) (when_read cs (length y) j (all_read cs (length y) i j l r c) ∙ same_places cs (length y) i j c))

  pub choice_meets : (z : List ℕ) → IsChoice (sets_from cs y) z → Hold cs z
  choice_meets z choice =
      let is_input : IsInput (length (sets_from cs y)) z = choice_is_input (sets_from cs y) z choice in
      all_from (λ (t : Tree). val t z ≡ 1) cs (λ t c. elim (reading t) [
        | inl nothing ↦ value_follows t z y (λ i r. absurd (reads_none t nothing i r)) ∙ All-contains (λ (u : Tree). val u y ≡ 1) cs t h c
        | inr place ↦ (let i : ℕ = place.0 in
            let r : reads t place.0 ≡ true = place.1 in
            let l : place.0 < length y = read_below cs (length y) below t c place.0 r in
            let read : is_read cs (length y) place.0 ≡ true = any_here (λ u. reads u place.0) cs t c r in
            let places : List ℕ = group_with cs (length y) place.0 in
            let own : Contains (group_with cs (length y) place.0) place.0 = has_itself cs (length y) place.0 l in
            let passes : holds (conditions_on cs (group_with cs (length y) place.0)) z ≡ true = keep_group place.0 l read z is_input (λ k b p. (choice_at (sets_from cs y) z k choice b).1) in
            All-contains (λ (u : Tree). val u z ≡ 1) (conditions_on cs (group_with cs (length y) place.0)) t (held (conditions_on cs (group_with cs (length y) place.0)) z passes)
            (item_is_kept (λ u. list_any (reads u) (group_with cs (length y) place.0)) cs t c (any_here (reads t) (group_with cs (length y) place.0) place.0 own r)))
      ])

pub choice_holds : (cs : List Tree) (n : ℕ) (y z : List ℕ) → All (λ t. is_truth t ≡ true) cs → All HasWords cs → All (ReadsBelow n) cs → IsInput n y → Hold cs y → IsChoice (sets_from cs y) z → Hold cs z
choice_holds cs n y z truth words below a h choice =
    choice_meets cs y truth words (subst (λ k. All (ReadsBelow k) cs) (sym a.long) below) (record { long = refl; in_range = a.in_range }) h z choice

-- so the sets bound the size of the class
pub class_is_bounded : (cs : List Tree) (n : ℕ) (y : List ℕ) (member : List ℕ → Bool) → All (λ t. is_truth t ≡ true) cs → All HasWords cs → All (ReadsBelow n) cs → IsByConditions n member cs → IsInput n y → IsTrue (member y) → 256 ^ n ≤ class_size member n * 2 ^ revealed (sets_from cs y)
class_is_bounded cs n y member truth words below by a m =
    let P : ℕ → Type 0 = λ k. 256 ^ k ≤ class_size member k * 2 ^ revealed (sets_from cs y) in
    let h : Hold cs y = (by y a).0 m in
    let as_long : length (sets_from cs y) ≡ n = length_sets cs y ∙ a.long in
    subst P as_long (bound member (sets_from cs y) (sets_are_filled cs n y a h) (λ z choice.
    (by z (subst (λ k. IsInput k z) as_long (choice_is_input (sets_from cs y) z choice))).1 (choice_holds cs n y z truth words below a h choice)))
