-- The trees of values.
use Rattle.std.specs.Prelude.{◌≡◌, ℕ, ◌<◌, ◌^◌, List, length, true, false}
use Rattle.term_model.specs.Tree.{Tree, Const, is_const}
use Rattle.term_model.specs.ZeroBytes.{is_zero_byte, is_one_byte}
use Rattle.term_arena.specs.Trees.{tree_of}
use Rattle.normal_form.specs.Normal.{IsNormal}
use Rattle.sym_replay.specs.declared.value.Value.{Value}
use Rattle.sym_replay.specs.declared.value.Value.TheVariants.{Known, Term}

-- the tree of a value: the constant of a number, or that of a term
abbrev pub value_tree : List Tree → Value → Tree
value_tree trees (Known w) = Const w
value_tree trees (Term t) = tree_of trees t

-- a term of the arena, in normal form
pub record IsTermIn (trees : List Tree) (t : ℕ) : Type 0 where
  pub belongs : t < length trees
  pub normal : IsNormal (tree_of trees t)

-- a value over the arena: a word, or a term of the arena in normal form
abbrev pub IsValueIn : List Tree → Value → Type 0
IsValueIn trees (Known w) = w < 2 ^ 32
IsValueIn trees (Term t) = IsTermIn trees t

-- a value over the arena, with this tree
pub record IsValueOf (trees : List Tree) (tree : Tree) (v : Value) : Type 0 where
  pub within : IsValueIn trees v
  pub is : value_tree trees v ≡ tree

-- two values are one known number
abbrev pub IsSameNumber : Value → Value → Type 0
IsSameNumber a b = (w : ℕ) × (a ≡ Known w) × (b ≡ Known w)

-- a tree is no constant and, by its form, one byte, which isn't zero: it is its own byte 0
pub record IsOwnByte (tree : Tree) : Type 0 where
  pub no_constant : is_const tree ≡ false
  pub lowest : is_zero_byte tree 0 ≡ false
  pub upper : is_one_byte tree ≡ true
