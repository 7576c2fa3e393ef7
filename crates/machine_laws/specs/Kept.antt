-- What holds of the state of a machine in every run.
use Rattle.std.specs.Prelude.{◌≡◌, ℕ, ◌+◌, ◌%◌, ◌<◌, ◌≤◌, ◌^◌, List, length, Some, IfSome, true}
use Rattle.std.specs.FinMap.{get}
use Rattle.memory_map.specs.Cells.{Map, Cell}
use Rattle.rv_machine.specs.State.{State, Next, Goes, Ends, reg}
use Rattle.rv_machine.specs.Trace.{has_ended}

-- the cells of memory hold bytes
abbrev pub HoldsBytes : Map → Type 0
HoldsBytes m = (a : ℕ) (c : Cell) → get m a ≡ Some c → c.byte < 256

-- the registers are 32 words and x0 is 0, the program counter is a word and a multiple of 4, memory holds bytes, the heap's
-- break is a word, and no more of the input was read than it has
pub record IsState (input : List ℕ) (s : State) : Type 0 where
  pub count : length s.registers ≡ 32
  pub words : (r : ℕ) → reg s r < 2 ^ 32
  pub zero_register : reg s 0 ≡ 0
  pub pc : s.pc < 2 ^ 32
  pub aligned : s.pc % 4 ≡ 0
  pub memory : HoldsBytes s.memory
  pub heap : IfSome s.heap (λ h. h.brk < 2 ^ 32)
  pub place : s.place ≤ length input

-- what comes of a step: a state of which a fact holds, or an end that is no limit
abbrev pub Keeps : (State → Type 0) → Next → Type 0
Keeps P (Goes s) = P s
Keeps P (Ends e) = has_ended e ≡ true
