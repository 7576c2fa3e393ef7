-- A net as its callers see it: the list of its names' trees, each at its name.
use Rattle.std.specs.Prelude.{◌≡◌, ℕ, ◌<◌, ◌≤◌, ◌⊎◌, List, [], ◌∷◌, ◌++◌, length, map, slice_index_or, Contains}
use Rattle.gate_model.specs.Tree.{Tree, Yes, Bit, And, Xor, Signed, And_of, Xor_of}
use Rattle.gate_model.specs.Made.{IsMade}
use Rattle.gate_model.specs.Makers.{negation, and_gate, mux_gate}
use Rattle.gate_net.specs.declared.literals.Lit.{Lit}
use Rattle.gate_net.specs.declared.literals.Gate.{Gate}
use Rattle.gate_net.specs.declared.literals.Gate.TheVariants as gate

-- the tree of a name
abbrev pub tree_of : List Tree → ℕ → Tree
tree_of trees name = slice_index_or trees name Yes

-- the tree of a Lit, with its sign
abbrev pub signed_of : List Tree → Lit → Signed
signed_of trees l = record { tree = tree_of trees l.name; positive = l.positive }

-- those of a list of Lits
abbrev pub all_signed_of : List Tree → List Lit → List Signed
all_signed_of trees lits = map (signed_of trees) lits

-- the tree of a gate, whose operands are Lits
abbrev pub tree_from : List Tree → Gate → Tree
tree_from trees gate.Yes = Yes
tree_from trees (gate.Bit place bit) = Bit place bit
tree_from trees (gate.And a b) = And_of (signed_of trees a) (signed_of trees b)
tree_from trees (gate.Xor a b) = Xor_of (signed_of trees a) (signed_of trees b)

-- what may be the gate of name n: its operands have lower names, and yes is the first
abbrev pub IsGateAt : ℕ → Gate → Type 0
IsGateAt n gate.Yes = n ≡ 0
IsGateAt n (gate.Bit place bit) = Unit {0}
IsGateAt n (gate.And a b) = (a.name < n) × (b.name < n)
IsGateAt n (gate.Xor a b) = (a.name < n) × (b.name < n)

-- two names are equal where their trees are
abbrev pub IsShared : List Tree → Type 0
IsShared trees = (s t : ℕ) → s < length trees → t < length trees → tree_of trees s ≡ tree_of trees t → s ≡ t

-- the tree has a name below n
abbrev pub IsNamedBelow : List Tree → ℕ → Tree → Type 0
IsNamedBelow trees n t = (name : ℕ) × (name < n) × (tree_of trees name ≡ t)

-- the operands of a tree have names below n
abbrev pub HasOperandsBelow : List Tree → ℕ → Tree → Type 0
HasOperandsBelow trees n Yes = Unit {0}
HasOperandsBelow trees n (Bit place bit) = Unit {0}
HasOperandsBelow trees n (And a s b t) = IsNamedBelow trees n a × IsNamedBelow trees n b
HasOperandsBelow trees n (Xor a s b t) = IsNamedBelow trees n a × IsNamedBelow trees n b

-- the trees of a net: yes first, each once, operands before their gates, and none that a rule simplifies
pub record IsNet (trees : List Tree) : Type 0 where
  pub some : 0 < length trees
  pub yes : tree_of trees 0 ≡ Yes
  pub shared : IsShared trees
  pub operands : (name : ℕ) → name < length trees → HasOperandsBelow trees name (tree_of trees name)
  pub made : (name : ℕ) → IsMade (tree_of trees name)

-- each earlier name is still there, with its tree
pub record Extends (old new : List Tree) : Type 0 where
  pub longer : length old ≤ length new
  pub same : (name : ℕ) → name < length old → tree_of new name ≡ tree_of old name

-- nothing is added, or the tree alone, at the end
abbrev pub AddsAtMost : List Tree → Tree → List Tree → Type 0
AddsAtMost old tree new = (new ≡ old) ⊎ (new ≡ old ++ tree ∷ [])

-- each tree that is added is one of these
abbrev pub AddsOnly : List Tree → List Tree → List Tree → Type 0
AddsOnly old trees new = (name : ℕ) → length old ≤ name → name < length new → Contains trees (tree_of new name)

-- the gates of a choice: And of each branch with what it is taken under, and the choice itself
abbrev pub mux_trees : Signed → Signed → Signed → List Tree
mux_trees c a b = (and_gate c a).tree ∷ (and_gate (negation c) b).tree ∷ (mux_gate c a b).tree ∷ []
