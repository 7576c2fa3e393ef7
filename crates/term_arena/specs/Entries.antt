-- What an arena keeps with its nodes.
use Rattle.std.specs.Prelude.{◌≡◌, ◌≢◌, ℕ, List, map, slice_get, Some}
use Rattle.term_model.specs.Tree.{Tree}
use Rattle.term_model.specs.ZeroBytes.{is_zero_byte}
use Rattle.term_arena.specs.declared.nodes.Node.{Node}
use Rattle.term_arena.specs.declared.entries.Entry.{Entry}
use Rattle.term_arena.specs.Trees.{tree_of}
use Rattle.term_arena.specs.Mask.{each_byte}
use Rattle.term_arena.specs.Nodes.{trees_of_nodes, AreNodes}

-- the nodes of the entries
abbrev pub nodes_of : List Entry → List Node
nodes_of entries = map (λ (e : Entry). e.node) entries

-- the trees of the entries
abbrev pub entry_trees : List Entry → List Tree
entry_trees entries = trees_of_nodes (nodes_of entries)

-- each entry has the zero bytes of its tree
abbrev pub HasZeroBytes : List Entry → Type 0
HasZeroBytes entries =
    (k : ℕ) (e : Entry) → slice_get entries k ≡ Some e → e.zero_bytes ≡ each_byte (is_zero_byte (tree_of (entry_trees entries) k))

-- the entries of an arena
pub record IsArena (entries : List Entry) : Type 0 where
  pub ordered : AreNodes (nodes_of entries)
  pub zero_bytes : HasZeroBytes entries

-- no entry has the node
abbrev pub IsAbsent : List Entry → Node → Type 0
IsAbsent entries n = (k : ℕ) (e : Entry) → slice_get entries k ≡ Some e → e.node ≢ n

-- the entry of a number has the node
abbrev pub IsFound : List Entry → Node → ℕ → Type 0
IsFound entries n k = (e : Entry) × (slice_get entries k ≡ Some e) × (e.node ≡ n)
