-- A state of the machine on an input is the state of terms, valued under the input.
use Rattle.std.proofs.Common.{◌≡◌, ℕ, ◌<◌, List, map, Option, Some, None, IfSome, ◌^◌}
use Rattle.std.specs.FinMap.{get}
use Rattle.term_model.specs.Tree.{Tree}
use Rattle.term_model.specs.Value.{val}
use Rattle.term_model.specs.Words.{AreBytes}
use Rattle.memory_map.specs.Cells.{Cell}
use Rattle.rv_machine.specs.State.{State}
use Rattle.replay_law.specs.Terms.{SymbolicState, reg_term}

-- a cell with another byte
abbrev pub cell_with : ℕ → Option Cell → Option Cell
cell_with byte None = None
cell_with byte (Some cell) = Some (record { byte = byte; rights = cell.rights })

-- registers, memory, heap and input place are those of the terms on an input
pub record Agrees (terms : SymbolicState) (y : List ℕ) (s : State) : Type 0 where
  pub registers : s.registers ≡ map (λ t. val t y) terms.registers
  pub memory : (a : ℕ) → get s.memory a ≡ cell_with (val (terms.bytes a) y) (get terms.cells a)
  pub heap : s.heap ≡ terms.heap
  pub place : s.place ≡ terms.place

-- the terms are made, those of memory are bytes, and the heap's break is a word
pub record AreMade (IsMade : Tree → Type 0) (terms : SymbolicState) : Type 0 where
  pub registers : (r : ℕ) → IsMade (reg_term terms r)
  pub bytes : (a : ℕ) → IsMade (terms.bytes a)
  pub small : (a : ℕ) (y : List ℕ) → AreBytes y → val (terms.bytes a) y < 256
  pub break : IfSome terms.heap (λ h. h.brk < 2 ^ 32)
