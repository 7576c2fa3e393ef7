-- The groups of conditions as parts of the input, and what is first in each.
use Rattle.std.proofs.Common.{◌≡◌, ℕ, ◌-◌, ◌<◌, ◌≤◌, ◌^◌, ◌↔◌, Bool, true, List, length, refl, arith}
use Rattle.std.specs.Prelude.{All, Contains, slice_index, IsTrue, IsFalse}
use Rattle.std.proofs.lemmas.List.Elements.{All-contains}
use Rattle.std.proofs.lemmas.Bool.{both_ways, false_from_ne_true}
use Rattle.term_model.specs.Tree.{Tree}
use Rattle.term_model.specs.Value.{val}
use Rattle.term_model.specs.Places.{reads, ReadsBelow}
use Rattle.term_model.specs.Conditions.{Hold}
use Rattle.term_arena.specs.Trees.{tree_of, trees_of}
use Rattle.input_laws.specs.Inputs.{IsInput}
use Rattle.input_laws.specs.Order.{IsFirst}
use Rattle.input_laws.specs.Parts.{Part, LooksAtItsPlaces, TakesFirstOf, IsByParts, IsFree}
use Rattle.input_laws.proofs.Parts.{first_from_parts}
use Rattle.group_model.specs.declared.Group.{Group}
use Rattle.group_model.specs.Conditions.{IsCondition}
use Rattle.group_model.specs.Group.{is_among, part_of, IsGroup}
use Rattle.group_model.specs.Division.{IsGrouped, AreGroups}
use Rattle.group_model.proofs.HoldLemmas.{held, passed, holds_alike, found_among, among_found}
use Rattle.group_laws.specs.Parts.{IsByConditions, parts_of, HasFirst}
use Rattle.group_laws.proofs.Lists.{any_here, all_at_map, all_map_from, all_from}
use Rattle.group_laws.proofs.Groups.{has_condition, condition_of, condition_within, places_ascend, group_is_filled, place_is_below, index_below}

-- a group as a part
abbrev pub part : List Tree → Group → Part
part trees g = part_of g.places (trees_of trees g.conditions)

-- ---- conditions that hold

-- each of the conditions holds
pub hold_at : (trees : List Tree) (terms : List ℕ) (y : List ℕ) → Hold (trees_of trees terms) y → (t : ℕ) → Contains terms t → val (tree_of trees t) y ≡ 1
hold_at trees terms y h t c = all_at_map (λ x. val x y ≡ 1) (tree_of trees) terms t h c

-- and the other way round
pub hold_from : (trees : List Tree) (terms : List ℕ) (y : List ℕ) → ((t : ℕ) → Contains terms t → val (tree_of trees t) y ≡ 1) → Hold (trees_of trees terms) y
hold_from trees terms y h = all_map_from (λ x. val x y ≡ 1) (tree_of trees) terms h

-- ---- places

-- a place is free exactly where no group has it
pub free_place : (trees : List Tree) (groups : List Group) (i : ℕ) → IsFree (parts_of trees groups) i ↔ (IsGrouped groups i → ⊥)
free_place trees groups i = (
  λ free grouped. both_ways (is_among grouped.0.places i) (all_at_map (λ p. IsFalse (p.places i)) (part trees) groups grouped.0 free grouped.1) (found_among grouped.0.places i grouped.2),
  λ none. all_map_from (λ p. IsFalse (p.places i)) (part trees) groups (λ g cg. false_from_ne_true (is_among g.places i) (λ t. none (g, cg, among_found g.places i t))),
)

module _ (trees : List Tree) (terms : List ℕ) (groups : List Group) (are : AreGroups trees terms groups) where
  -- where all conditions hold, those of a group do
  pub group_holds : (g : Group) → Contains groups g → (y : List ℕ) → Hold (trees_of trees terms) y → Hold (trees_of trees g.conditions) y
  group_holds g cg y h = hold_from trees g.conditions y (λ t c. hold_at trees terms y h t (condition_of trees terms groups are g cg t c))

  -- where those of each group hold, all do
  pub all_hold : All (IsCondition trees) terms → (y : List ℕ) → ((g : Group) → Contains groups g → Hold (trees_of trees g.conditions) y) → Hold (trees_of trees terms) y
  all_hold conditions y h = hold_from trees terms y (λ t c.
      let is : IsCondition trees t = All-contains (IsCondition trees) terms t conditions c in
      let w : (g : Group) × Contains groups g × ((i : ℕ) → reads (tree_of trees t) i ≡ true → Contains g.places i) = are.whole t c in
      let own : Contains w.0.conditions t = has_condition trees terms groups are w.0 w.1 t c (any_here (reads (tree_of trees t)) w.0.places is.place (w.2 is.place is.read) is.read) in
      hold_at trees w.0.conditions y (h w.0 w.1) t own)

  -- an input is a member exactly where it passes each group's test
  pub by_parts : (n : ℕ) (member : List ℕ → Bool) → All (IsCondition trees) terms → IsByConditions n member (trees_of trees terms) → IsByParts n member (parts_of trees groups)
  by_parts n member conditions by y a = (
    λ m. all_map_from (λ p. IsTrue (p.test y)) (part trees) groups (λ g cg. passed (trees_of trees g.conditions) y (group_holds g cg y ((by y a).0 m))),
    λ h. (by y a).1 (all_hold conditions y (λ g cg. held (trees_of trees g.conditions) y (all_at_map (λ p. IsTrue (p.test y)) (part trees) groups g h cg))),
  )

  -- a group's test looks at its places alone
  pub group_looks : (g : Group) → Contains groups g → LooksAtItsPlaces (part trees g)
  group_looks g cg x z same =
      let within : All (λ t. (i : ℕ) → reads t i ≡ true → Contains g.places i) (trees_of trees g.conditions) = all_map_from (λ t. (i : ℕ) → reads t i ≡ true → Contains g.places i) (tree_of trees) g.conditions (λ t c i r. condition_within trees terms groups are g cg t c i r) in
      holds_alike (trees_of trees g.conditions) x z (λ k d l i r. same i (found_among g.places i (within k d l i r)))

  -- all of them do
  pub parts_look : All LooksAtItsPlaces (parts_of trees groups)
  parts_look = all_map_from LooksAtItsPlaces (part trees) groups group_looks

  -- the places of a group are below any bound of what is read
  pub places_below : (n : ℕ) → All (λ t. ReadsBelow n (tree_of trees t)) terms → (g : Group) → Contains groups g → All (λ i. i < n) g.places
  places_below n below g cg = all_from (λ i. i < n) g.places (λ i c. place_is_below trees terms groups are n below g cg i c)

  -- so there are at most as many
  pub places_are_few : (n : ℕ) → All (λ t. ReadsBelow n (tree_of trees t)) terms → (g : Group) → Contains groups g → length g.places ≤ n
  places_are_few n below g cg =
      let some : 0 < length g.places = group_is_filled trees terms groups are g cg in
      let last : length g.places - 1 < length g.places = omega arith in
      let high : length g.places - 1 ≤ slice_index g.places (length g.places - 1) = index_below g.places (places_ascend trees terms groups are g cg) (length g.places - 1) last in
      let low : slice_index g.places (length g.places - 1) < n = places_below n below g cg (length g.places - 1) 0 last in
      omega arith

  -- the places and conditions of a group make a group
  pub is_group : (n : ℕ) → All (IsCondition trees) terms → All (λ t. ReadsBelow n (tree_of trees t)) terms → n < 2 ^ 32 → (g : Group) → Contains groups g → IsGroup trees g.places g.conditions
  is_group n conditions below small g cg = record {
    ascending = places_ascend trees terms groups are g cg;
    few = let l : length g.places ≤ n = places_are_few n below g cg in omega arith;
    conditions = all_from (IsCondition trees) g.conditions (λ t c. All-contains (IsCondition trees) terms t conditions (condition_of trees terms groups are g cg t c));
    within = all_from (λ t. (i : ℕ) → reads (tree_of trees t) i ≡ true → Contains g.places i) g.conditions (λ t c i r. condition_within trees terms groups are g cg t c i r);
  }

  -- an input that has each group's first, and the mask's bytes elsewhere, is the first member
  pub first_from_groups : (n : ℕ) (mask y : List ℕ) (member : List ℕ → Bool) → All (IsCondition trees) terms → All (λ t. ReadsBelow n (tree_of trees t)) terms → IsByConditions n member (trees_of trees terms) → IsInput n y → All (HasFirst trees mask y) groups → ((i : ℕ) → i < n → (IsGrouped groups i → ⊥) → slice_index y i ≡ slice_index mask i) → IsFirst n mask member y
  first_from_groups n mask y member conditions below by a firsts free =
      first_from_parts n mask member (parts_of trees groups) y (by_parts n member conditions by) parts_look a
      (all_map_from (TakesFirstOf n mask y) (part trees) groups (λ g cg.
      let f : HasFirst trees mask y g = All-contains (HasFirst trees mask y) groups g firsts cg in
      record { own = y; is_first = f.is_first.first n y a (places_below n below g cg) f.has; same = λ k p. refl }))
      (λ k l none. free k l ((free_place trees groups k).0 none))
