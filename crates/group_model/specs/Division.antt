-- The finest division of the places that conditions read into groups.
use Rattle.std.specs.Prelude.{◌≡◌, ℕ, ◌<◌, ◌↔◌, List, Bool, true, filter, length, slice_index, All, AllPairs, Contains}
use Rattle.std.specs.List.{list_any}
use Rattle.term_model.specs.Tree.{Tree}
use Rattle.term_model.specs.Places.{reads}
use Rattle.term_arena.specs.Trees.{tree_of}
use Rattle.group_model.specs.declared.Group.{Group}
use Rattle.group_model.specs.Group.{IsAscending}

-- some condition reads the place
abbrev pub IsRead : List Tree → List ℕ → ℕ → Type 0
IsRead trees terms i = (t : ℕ) × Contains terms t × (reads (tree_of trees t) i ≡ true)

-- some group has the place
abbrev pub IsGrouped : List Group → ℕ → Type 0
IsGrouped groups i = (g : Group) × Contains groups g × Contains g.places i

-- the test gives one answer on all places that the term reads
abbrev pub IsSteadyOn : (ℕ → Bool) → Tree → Type 0
IsSteadyOn side tree = (a b : ℕ) → reads tree a ≡ true → reads tree b ≡ true → side a ≡ side b

-- the groups of the conditions
pub record AreGroups (trees : List Tree) (terms : List ℕ) (groups : List Group) : Type 0 where
  -- the groups have the places that are read, and no others
  pub places : (i : ℕ) → IsRead trees terms i ↔ IsGrouped groups i
  -- the places of a group ascend, and there is one
  pub ascending : All (λ g. IsAscending g.places) groups
  pub filled : All (λ g. 0 < length g.places) groups
  -- no two groups share a place
  pub apart : AllPairs (λ g h. (i : ℕ) → Contains g.places i → Contains h.places i → ⊥) groups
  -- the groups stand in the order of their first places
  pub in_order : AllPairs (λ g h. slice_index g.places 0 < slice_index h.places 0) groups
  -- the places of a condition lie in one group
  pub whole : (t : ℕ) → Contains terms t →
      (g : Group) × Contains groups g × ((i : ℕ) → reads (tree_of trees t) i ≡ true → Contains g.places i)
  -- a group has the conditions that read its places, in their order
  pub conditions : All (λ g. g.conditions ≡ filter (λ t. list_any (reads (tree_of trees t)) g.places) terms) groups
  -- no group can be cut in two: a test that is steady on each of its conditions is steady on its places
  pub uncut : All (λ g. (side : ℕ → Bool) → All (λ t. IsSteadyOn side (tree_of trees t)) g.conditions →
      (a b : ℕ) → Contains g.places a → Contains g.places b → side a ≡ side b) groups
