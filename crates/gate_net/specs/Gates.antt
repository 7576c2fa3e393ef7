-- The gates of a net by name.
use Rattle.std.specs.Prelude.{◌≡◌, ℕ, List, [], ◌∷◌, ◌++◌, slice_get, Some}
use Rattle.gate_model.specs.Tree.{Tree}
use Rattle.gate_model.specs.Made.{IsMade}
use Rattle.gate_net.specs.declared.literals.Gate.{Gate}
use Rattle.gate_net.specs.declared.literals.Gate.TheVariants as gate
use Rattle.gate_net.specs.Trees.{tree_of, tree_from, IsGateAt}

-- the trees, and after them those of the gates, each of which may name a tree before it
abbrev pub grow : List Tree → List Gate → List Tree
grow trees [] = trees
grow trees (g ∷ gs) = grow (trees ++ tree_from trees g ∷ []) gs

-- the trees of a list of gates, each of which may name those before it
abbrev pub trees_of_gates : List Gate → List Tree
trees_of_gates gates = grow [] gates

-- each gate may stand where it does
abbrev pub AreGates : List Gate → Type 0
AreGates gates = (k : ℕ) (g : Gate) → slice_get gates k ≡ Some g → IsGateAt k g

-- no gate stands twice
abbrev pub AreOnce : List Gate → Type 0
AreOnce gates = (j k : ℕ) (g : Gate) → slice_get gates j ≡ Some g → slice_get gates k ≡ Some g → j ≡ k

-- the gates of a net: yes first, each once behind those that it names, and none that a rule simplifies
pub record AreNetGates (gates : List Gate) : Type 0 where
  pub ordered : AreGates gates
  pub once : AreOnce gates
  pub first : slice_get gates 0 ≡ Some gate.Yes
  pub made : (name : ℕ) → IsMade (tree_of (trees_of_gates gates) name)
