-- Labels of places: places that the terms join have one label.
use Rattle.std.specs.Prelude.{◌≡◌, ℕ, ◌<◌, List, Bool, true, false, Option, Some, None, length, slice_index, Contains, IfSome}
use Rattle.std.specs.Ordering.{nat_cmp}
use Rattle.std.specs.BTreeMap.{BTreeMap, get}
use Rattle.term_model.specs.Tree.{Tree}
use Rattle.term_model.specs.Places.{reads}
use Rattle.term_arena.specs.Trees.{tree_of}
use Rattle.group_model.specs.Division.{IsSteadyOn}
use Rattle.byte_groups.specs.Labels.{AreParents, IsSteadyAlong}

-- a place that the tree reads, or none where it reads none
abbrev pub IsLeaf : Tree → Option ℕ → Type 0
IsLeaf tree (Some i) = reads tree i ≡ true
IsLeaf tree None = (i : ℕ) → reads tree i ≡ false

-- the map has a place that the term reads, below a bound, or none where it reads none
abbrev pub HasLeaf : List Tree → BTreeMap ℕ ℕ → ℕ → Type 0
HasLeaf trees leaves t = IsLeaf (tree_of trees t) (get nat_cmp leaves t)

-- the place of a term in the map is below a bound
abbrev pub IsLeafBelow : ℕ → BTreeMap ℕ ℕ → ℕ → Type 0
IsLeafBelow width leaves t = IfSome (get nat_cmp leaves t) (λ i. i < width)

-- the term reads only places below a bound
abbrev pub ReadsUpTo : List Tree → ℕ → ℕ → Type 0
ReadsUpTo trees n t = (i : ℕ) → reads (tree_of trees t) i ≡ true → i < n

-- labels of the places that terms read
pub record AreLabels (trees : List Tree) (terms : List ℕ) (width : ℕ) (labels : List ℕ) : Type 0 where
  pub long : length labels ≡ width
  pub below : AreParents labels
  -- a label is the place of a label of its own
  pub flat : (k : ℕ) → k < length labels → slice_index labels (slice_index labels k) ≡ slice_index labels k
  -- the terms are steady under a test that is steady along the labels
  pub whole : (side : ℕ → Bool) → IsSteadyAlong side labels → (t : ℕ) → Contains terms t → IsSteadyOn side (tree_of trees t)
  -- and the other way round
  pub uncut : (side : ℕ → Bool) → ((t : ℕ) → Contains terms t → IsSteadyOn side (tree_of trees t)) → IsSteadyAlong side labels
