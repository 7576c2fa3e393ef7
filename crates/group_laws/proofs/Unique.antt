-- Two finest divisions of the same conditions are the same list.
use Rattle.std.proofs.Common.{◌≡◌, ℕ, ◌<◌, ◌^◌, Bool, List, length, subst, sym, ◌∙◌, ap, true}
use Rattle.std.specs.Prelude.{All, Contains, filter, slice_index}
use Rattle.std.specs.List.{list_any}
use Rattle.std.proofs.lemmas.List.Elements.{All-contains}
use Rattle.term_model.specs.Tree.{Tree}
use Rattle.term_model.specs.Places.{reads}
use Rattle.term_arena.specs.Trees.{tree_of}
use Rattle.group_model.specs.declared.Group.{Group}
use Rattle.group_model.specs.Conditions.{IsCondition}
use Rattle.group_model.specs.Group.{IsGroup, is_among}
use Rattle.group_model.specs.Division.{AreGroups}
use Rattle.group_model.proofs.HoldLemmas.{found_among, among_found, one_truth}
use Rattle.group_laws.proofs.Lists.{all_from, same_lists}
use Rattle.group_laws.proofs.Groups.{conditions_are, condition_of, condition_within, group_is_filled, group_is_uncut, place_is_read, places_ascend, reads_within, contains_at}

module _ (trees : List Tree) (terms : List ℕ) (groups others : List Group) (are : AreGroups trees terms groups) (too : AreGroups trees terms others) where
  -- a group that shares a place with another has no place besides
  pub within : (g h : Group) → Contains groups g → Contains others h → (a b : ℕ) → Contains g.places a → Contains h.places a → Contains g.places b → Contains h.places b
  within g h in_groups in_others a b g_a h_a g_b =
      let side : ℕ → Bool = is_among h.places in
      among_found h.places b (group_is_uncut trees terms groups are g in_groups side (λ t c i j r s.
      let term : Contains terms t = condition_of trees terms groups are g in_groups t c in
      one_truth (side i) (side j)
      (λ q. found_among h.places j (reads_within trees terms others too h in_others t term i r (among_found h.places i q) j s))
      (λ q. found_among h.places i (reads_within trees terms others too h in_others t term j s (among_found h.places j q) i r))) b a g_b g_a
      ∙ found_among h.places a h_a)

module _ (trees : List Tree) (terms : List ℕ) (groups others : List Group) (are : AreGroups trees terms groups) (too : AreGroups trees terms others) where
  -- a group of the one division is a group of the other
  pub group_there : (g : Group) → Contains groups g → Contains others g
  group_there g in_groups =
      let a : ℕ = slice_index g.places 0 in
      let g_a : Contains g.places a = contains_at g.places 0 (group_is_filled trees terms groups are g in_groups) in
      let found = (too.places a).0 (place_is_read trees terms groups are g in_groups a g_a) in
      let h : Group = found.0 in
      let same_places : g.places ≡ h.places = same_lists (λ n. n) g.places h.places (places_ascend trees terms groups are g in_groups) (places_ascend trees terms others too h found.1)
      (λ b g_b. within trees terms groups others are too g h in_groups found.1 a b g_a found.2 g_b)
      (λ b h_b. within trees terms others groups too are h g found.1 in_groups a b found.2 g_a h_b) in
      let same_conditions : g.conditions ≡ h.conditions = conditions_are trees terms groups are g in_groups ∙ (ap (λ ps. filter (λ t. list_any (reads (tree_of trees t)) ps) terms) same_places ∙ sym (conditions_are trees terms others too h found.1)) in
      let C : Group → Type 0 = Contains others in
      subst C (sym (group_same g h same_places same_conditions)) found.1
    where
      made : List ℕ → List ℕ → Group
      made ps ts = record { places = ps; conditions = ts }

      group_same : (g h : Group) → g.places ≡ h.places → g.conditions ≡ h.conditions → g ≡ h
      group_same g h e f = ap (λ ps. made ps g.conditions) e ∙ ap (made h.places) f

-- two finest divisions are the same
pub same_groups : (trees : List Tree) (terms : List ℕ) (groups others : List Group) → AreGroups trees terms groups → AreGroups trees terms others → groups ≡ others
same_groups trees terms groups others are too =
    same_lists (λ g. slice_index g.places 0) groups others are.in_order too.in_order
    (group_there trees terms groups others are too) (group_there trees terms others groups too are)

-- a group with fewer than 2 ^ 32 places is one of the arena
pub few_places : (trees : List Tree) (terms : List ℕ) (groups : List Group) → All (IsCondition trees) terms → AreGroups trees terms groups → All (λ g. length g.places < 2 ^ 32 → IsGroup trees g.places g.conditions) groups
few_places trees terms groups conditions are = all_from (λ (g : Group). length g.places < 2 ^ 32 → IsGroup trees g.places g.conditions) groups (λ g c few. record {
  ascending = places_ascend trees terms groups are g c;
  few = few;
  conditions = all_from (IsCondition trees) g.conditions (λ t d. All-contains (IsCondition trees) terms t conditions (condition_of trees terms groups are g c t d));
  within = all_from (λ t. (i : ℕ) → reads (tree_of trees t) i ≡ true → Contains g.places i) g.conditions (condition_within trees terms groups are g c);
})
