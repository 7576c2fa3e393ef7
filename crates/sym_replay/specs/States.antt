-- What a state of the replay stands for.
use Rattle.std.specs.Prelude.{◌≡◌, ℕ, ◌≤◌, ◌<◌, List, length, map, slice_index_or, All, Option, Some, None}
use Rattle.std.specs.Ordering.{nat_cmp}
use Rattle.std.specs.BTreeMap.{BTreeMap, get}
use Rattle.term_model.specs.Tree.{Tree, Const}
use Rattle.term_arena.specs.Trees.{tree_of}
use Rattle.rv_word.specs.Word.{byte_of}
use Rattle.memory_map.specs.Cells.{Map, byte_at, next_address}
use Rattle.replay_law.specs.Terms.{SymbolicState}
use Rattle.sym_replay.specs.Cells.{without_bytes}
use Rattle.sym_replay.specs.Values.{value_tree, IsTermIn, IsValueIn}
use Rattle.sym_replay.specs.declared.value.Value.{Value}
use Rattle.sym_replay.specs.declared.state.ReplayState.{ReplayState}

-- the tree at an address: that of a term that was put there, or the constant of memory's byte
abbrev pub byte_tree : List Tree → Map → ℕ → Option ℕ → Tree
byte_tree trees memory address (Some t) = tree_of trees t
byte_tree trees memory address None = Const (byte_at memory address)

-- the trees of values
abbrev pub value_trees : List Tree → List Value → List Tree
value_trees trees values = map (value_tree trees) values

-- the terms that a state stands for, over cells without their bytes
abbrev pub terms_of : List Tree → ReplayState → SymbolicState
terms_of trees s =
    record { registers = value_trees trees s.registers; bytes = λ a. byte_tree trees s.memory.map a (get nat_cmp s.bytes a); place = s.place; cells = without_bytes s.memory.map; heap = s.memory.heap }

-- the tree of a register
abbrev pub register_tree : List Tree → ReplayState → ℕ → Tree
register_tree trees s r = slice_index_or (value_trees trees s.registers) r (Const 0)

-- each address that has a term lies in a range
abbrev pub AreWithin : BTreeMap ℕ ℕ → ℕ → ℕ → Type 0
AreWithin bytes lowest highest = (a t : ℕ) → get nat_cmp bytes a ≡ Some t → (lowest ≤ a) × (a ≤ highest)

-- memory holds bytes
abbrev pub HoldsBytes : Map → Type 0
HoldsBytes memory = (a : ℕ) → byte_at memory a < 256

-- the byte at an address is no term, and is this one
pub record IsKnownByte (s : ReplayState) (address byte : ℕ) : Type 0 where
  pub none : None ≡ get nat_cmp s.bytes address
  pub is : byte_at s.memory.map address ≡ byte

-- the four bytes from an address up are no terms, and are those of a word
pub record IsKnownWord (s : ReplayState) (address word : ℕ) : Type 0 where
  pub lowest : IsKnownByte s address (byte_of 0 word)
  pub second : IsKnownByte s (next_address address) (byte_of 1 word)
  pub third : IsKnownByte s (next_address (next_address address)) (byte_of 2 word)
  pub highest : IsKnownByte s (next_address (next_address (next_address address))) (byte_of 3 word)

-- the values and terms of a state are of the arena
pub record IsState (trees : List Tree) (s : ReplayState) : Type 0 where
  pub registers : All (IsValueIn trees) s.registers
  pub count : length s.registers ≡ 32
  pub bytes : (a t : ℕ) → get nat_cmp s.bytes a ≡ Some t → IsTermIn trees t
  pub within : AreWithin s.bytes s.lowest s.highest
  pub held : HoldsBytes s.memory.map
