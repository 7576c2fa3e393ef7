-- Terms with their lanes.
use Rattle.std.specs.Prelude.{ℕ, ◌<◌, ◌≤◌, List, [], length, slice_index, slice_index_or}
use Rattle.term_model.specs.Tree.{Tree}
use Rattle.term_model.specs.Places.{ReadsBelow}
use Rattle.term_arena.specs.Trees.{tree_of}
use Rattle.narrow_solve.specs.Lanes.{AreLanes}
use Rattle.narrow_solve.specs.declared.table.Table.{Table}
use Rattle.narrow_solve.specs.declared.table.Next.{Next}
use Rattle.narrow_solve.specs.declared.table.Next.TheVariants as next

-- each term in use has its lanes
pub record IsTable (trees : List Tree) (input : List ℕ) (place : ℕ) (table : Table) : Type 0 where
  pub room : table.count ≤ 16
  pub valued : (k : ℕ) → k < table.count → AreLanes (tree_of trees (slice_index table.terms k)) input place (slice_index_or table.lanes k [])

-- a term of the arena that reads nothing beyond the input
pub record IsReadable (trees : List Tree) (input : List ℕ) (t : ℕ) : Type 0 where
  pub belongs : t < length trees
  pub reads : ReadsBelow (length input) (tree_of trees t)

-- a step at a term: to an operand, or to the term's lanes
abbrev pub IsNext : List Tree → List ℕ → ℕ → ℕ → Next → Type 0
IsNext trees input place top (next.Open t) = IsReadable trees input t
IsNext trees input place top (next.Value lanes) = AreLanes (tree_of trees top) input place lanes
