-- What the definition of groups gives of each group.
use Rattle.std.proofs.Common.{◌≡◌, ℕ, zero, suc, ◌<◌, ◌≤◌, inl, inr, Bool, true, List, length, get_or, sym, ◌∙◌, ap, subst, arith}
use Rattle.std.specs.Prelude.{All, Contains, filter, slice_index}
use Rattle.std.specs.List.{list_any}
use Rattle.std.proofs.lemmas.List.{get_or_default}
use Rattle.std.proofs.lemmas.List.Elements.{All-contains, Contains-get_or}
use Rattle.std.proofs.lemmas.Bool.{cases_order}
use Rattle.term_model.specs.Tree.{Tree}
use Rattle.term_model.specs.Places.{reads, ReadsBelow}
use Rattle.term_model.proofs.PlaceLemmas.{reads_are_below}
use Rattle.term_arena.specs.Trees.{tree_of}
use Rattle.group_model.specs.declared.Group.{Group}
use Rattle.group_model.specs.Group.{IsAscending}
use Rattle.group_model.specs.Division.{IsRead, IsSteadyOn, AreGroups}
use Rattle.group_laws.proofs.Lists.{any_found, Found, kept_is_item, kept_passes, item_is_kept}

module _ (trees : List Tree) (terms : List ℕ) (groups : List Group) (are : AreGroups trees terms groups) where
  -- of two groups at different indices, no place is in both
  no_common : (g h : Group) (a b : ℕ) → a < b → a < length groups → b < length groups → get_or groups a g ≡ g → get_or groups b h ≡ h → (i : ℕ) → Contains g.places i → Contains h.places i → ⊥
  no_common g h a b less l m e f i cg ch =
      let P : Group → Type 0 = λ x. Contains x.places i in
      are.apart a b g less m i (subst P (sym e) cg) (subst P (sym (get_or_default groups b g h m ∙ f)) ch)

  -- groups with a place in common are one
  pub same_group : (g h : Group) (i : ℕ) → Contains groups g → Contains groups h → Contains g.places i → Contains h.places i → g ≡ h
  same_group g h i (a, l, e) (b, m, f) cg ch = elim (cases_order a b) [
    | inl same ↦ sym e ∙ (get_or_default groups a g h l ∙ (ap (λ k. get_or groups k h) same ∙ f))
    | inr (inl less) ↦ absurd (no_common g h a b less l m e f i cg ch)
    | inr (inr more) ↦ absurd (no_common h g b a more m l f e i ch cg)
  ]

  -- a condition that reads a place of a group reads places of that group alone
  pub reads_within : (g : Group) → Contains groups g → (t : ℕ) → Contains terms t → (p : ℕ) → reads (tree_of trees t) p ≡ true → Contains g.places p → (i : ℕ) → reads (tree_of trees t) i ≡ true → Contains g.places i
  reads_within g cg t ct p r cp i s =
      let w : (h : Group) × Contains groups h × ((i : ℕ) → reads (tree_of trees t) i ≡ true → Contains h.places i) = are.whole t ct in
      let same : w.0 ≡ g = same_group w.0 g p w.1 cg (w.2 p r) cp in
      let P : Group → Type 0 = λ x. Contains x.places i in
      subst P same (w.2 i s)

  -- the conditions of a group
  pub conditions_are : (g : Group) → Contains groups g → g.conditions ≡ filter (λ t. list_any (reads (tree_of trees t)) g.places) terms
  conditions_are g cg = All-contains (λ (g : Group). g.conditions ≡ filter (λ t. list_any (reads (tree_of trees t)) g.places) terms) groups g are.conditions cg

  -- a condition that reads a place of a group belongs to it
  pub has_condition : (g : Group) → Contains groups g → (t : ℕ) → Contains terms t → list_any (reads (tree_of trees t)) g.places ≡ true → Contains g.conditions t
  has_condition g cg t ct r =
      let P : List ℕ → Type 0 = λ ts. Contains ts t in
      subst P (sym (conditions_are g cg)) (item_is_kept (λ t. list_any (reads (tree_of trees t)) g.places) terms t ct r)

  -- a condition of a group is one of all
  pub condition_of : (g : Group) → Contains groups g → (t : ℕ) → Contains g.conditions t → Contains terms t
  condition_of g cg t c =
      let P : List ℕ → Type 0 = λ ts. Contains ts t in
      kept_is_item (λ t. list_any (reads (tree_of trees t)) g.places) terms t (subst P (conditions_are g cg) c)

  -- and reads some place of the group
  pub condition_reads : (g : Group) → Contains groups g → (t : ℕ) → Contains g.conditions t → Found (reads (tree_of trees t)) g.places
  condition_reads g cg t c =
      let P : List ℕ → Type 0 = λ ts. Contains ts t in
      any_found (reads (tree_of trees t)) g.places (kept_passes (λ t. list_any (reads (tree_of trees t)) g.places) terms t (subst P (conditions_are g cg) c))

  -- and none outside
  pub condition_within : (g : Group) → Contains groups g → (t : ℕ) → Contains g.conditions t → (i : ℕ) → reads (tree_of trees t) i ≡ true → Contains g.places i
  condition_within g cg t c i r =
      let f : Found (reads (tree_of trees t)) g.places = condition_reads g cg t c in
      reads_within g cg t (condition_of g cg t c) f.item f.passes f.inside i r

  -- the places of a group ascend
  pub places_ascend : (g : Group) → Contains groups g → IsAscending g.places
  places_ascend g cg = All-contains (λ (g : Group). IsAscending g.places) groups g are.ascending cg

  -- a group has a place
  pub group_is_filled : (g : Group) → Contains groups g → 0 < length g.places
  group_is_filled g cg = All-contains (λ (g : Group). 0 < length g.places) groups g are.filled cg

  -- a test that is steady on the conditions of a group is steady on its places
  pub group_is_uncut : (g : Group) → Contains groups g → (side : ℕ → Bool) → ((t : ℕ) → Contains g.conditions t → IsSteadyOn side (tree_of trees t)) → (a b : ℕ) → Contains g.places a → Contains g.places b → side a ≡ side b
  group_is_uncut g cg side steady a b ca cb =
      All-contains (λ (g : Group). (side : ℕ → Bool) → All (λ t. IsSteadyOn side (tree_of trees t)) g.conditions → (a b : ℕ) → Contains g.places a → Contains g.places b → side a ≡ side b) groups g are.uncut cg side
      (λ k d l. steady (get_or g.conditions k d) (Contains-get_or g.conditions k d l)) a b ca cb

  -- a place of a group is read
  pub place_is_read : (g : Group) → Contains groups g → (i : ℕ) → Contains g.places i → IsRead trees terms i
  place_is_read g cg i c = (are.places i).1 (g, cg, c)

  -- and is below any bound of what is read
  pub place_is_below : (n : ℕ) → All (λ t. ReadsBelow n (tree_of trees t)) terms → (g : Group) → Contains groups g → (i : ℕ) → Contains g.places i → i < n
  place_is_below n below g cg i c =
      let r : IsRead trees terms i = place_is_read g cg i c in
      reads_are_below n (tree_of trees r.0) (All-contains (λ t. ReadsBelow n (tree_of trees t)) terms r.0 below r.1) i r.2

-- in a list that ascends each number is at least its index
pub index_below : (places : List ℕ) → IsAscending places → (k : ℕ) → k < length places → k ≤ slice_index places k
index_below places up zero l = omega arith
index_below places up (suc k) l =
    let before : k ≤ slice_index places k = index_below places up k (omega arith) in
    let less : slice_index places k < slice_index places (suc k) = up k (suc k) 0 (omega arith) l in
    omega arith

-- an item at an index
pub contains_at : (places : List ℕ) (k : ℕ) → k < length places → Contains places (slice_index places k)
contains_at places k l = Contains-get_or places k 0 l
