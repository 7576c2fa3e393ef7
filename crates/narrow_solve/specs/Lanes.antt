-- Words for each value of a byte.
use Rattle.std.specs.Prelude.{◌≡◌, ℕ, ◌<◌, ◌&&◌, List, Bool, false, nat_eq, slice_index, slice_index_or, slice_set}
use Rattle.term_model.specs.declared.Op.{Op}
use Rattle.term_model.specs.Tree.{Tree}
use Rattle.term_model.specs.Value.{op_value, val}

-- the first n lanes are what the operation makes of two others
abbrev pub IsOperated : Op → List ℕ → List ℕ → ℕ → List ℕ → Type 0
IsOperated op a b n lanes = (v : ℕ) → v < n → slice_index lanes v ≡ op_value op (slice_index a v) (slice_index b v)

-- each of the first n lanes is its number
abbrev pub IsCounted : ℕ → List ℕ → Type 0
IsCounted n lanes = (v : ℕ) → v < n → slice_index lanes v ≡ v

-- lane v is the tree's value on the input with v at the place
pub record AreLanes (tree : Tree) (input : List ℕ) (place : ℕ) (lanes : List ℕ) : Type 0 where
  pub at : (v : ℕ) → v < 256 → slice_index lanes v ≡ val tree (slice_set input place v)

-- of the first n values, those that passed and have the word 1
abbrev pub AreKept : List Bool → List ℕ → ℕ → List Bool → Type 0
AreKept passes lanes n kept = (v : ℕ) → v < n → slice_index_or kept v false ≡ (slice_index_or passes v false && nat_eq (slice_index lanes v) 1)

-- the values with which the test passes, put at the place of the input
pub record ArePassing (test : List ℕ → Bool) (input : List ℕ) (place : ℕ) (passes : List Bool) : Type 0 where
  pub at : (v : ℕ) → v < 256 → slice_index_or passes v false ≡ test (slice_set input place v)
