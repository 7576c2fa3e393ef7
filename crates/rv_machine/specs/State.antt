-- The state of a machine, on plain numbers.
use Rattle.std.specs.Prelude.{ℕ, Option, ◌+◌, ◌%◌, ◌^◌, ◌==◌, List, [], ◌∷◌, slice_index, slice_set, replicate, if◌then◌else◌}
use Rattle.elf32.specs.declared.segments.Segment.{Segment}
use Rattle.memory_map.specs.Cells.{Map, start_map}
use Rattle.memory_map.specs.declared.heap.Heap.{Heap}
use Rattle.memory_map.specs.Heaps.{start_heap}
use Rattle.rv_event.specs.declared.event.Event.{Event}
use Rattle.rv_event.specs.declared.event.EventKind.{EventKind}
use Rattle.rv_event.specs.declared.event.TrapKind.{TrapKind}
use Rattle.rv_event.specs.declared.event.End.{End}
use Rattle.rv_event.specs.declared.event.End.TheVariants as ends

-- the registers x0 to x31, the program counter, the memory, the heap, and how many bytes of the input have been read
pub record State : Type 0 where
  pub registers : List ℕ
  pub pc : ℕ
  pub memory : Map
  pub heap : Option Heap
  pub place : ℕ

-- what comes of a step: the state after it, or the end
pub data Next : Type 0 where
  Goes : State → Next
  Ends : End → Next

-- what a step gives: its event, and what comes of it
pub record StepResult : Type 0 where
  pub event : Event
  pub next : Next

-- the value of a register
abbrev pub reg : State → ℕ → ℕ
reg s r = slice_index s.registers r

-- registers with another value in one of them: a write to x0 has no effect
abbrev pub written : ℕ → ℕ → List ℕ → List ℕ
written rd value registers = if rd == 0 then registers else slice_set registers rd value

-- the state with another value in a register
abbrev pub write_reg : ℕ → ℕ → State → State
write_reg rd value s = record s { registers = written rd value s.registers }

-- the state at another program counter
abbrev pub at : ℕ → State → State
at target s = record s { pc = target }

-- the address of the next instruction
abbrev pub following : ℕ → ℕ
following pc = (pc + 4) % 2 ^ 32

-- the call of an event that is no ECALL
abbrev pub no_call : List ℕ
no_call = 0 ∷ 0 ∷ 0 ∷ 0 ∷ []

-- the event of a step from a state
abbrev pub event_of : State → ℕ → ℕ → List ℕ → EventKind → Event
event_of s word addr call kind = record { pc = s.pc; word = word; addr = addr; call = call; kind = kind }

-- a crash at a program counter
abbrev pub trap : ℕ → TrapKind → ℕ → Next
trap pc kind value = Ends (ends.Trap (record { kind = kind; pc = pc; value = value }))

-- the registers at the start: x2, the stack pointer, is 256 bytes below the end of the stack, and the others are 0
abbrev pub start_registers : List ℕ
start_registers = slice_set (replicate 32 0) 2 0x7fffff00

-- the state at the start of a program, by its entry and its segments
unfoldable pub start : ℕ → List Segment → State
start entry segments = record { registers = start_registers; pc = entry; memory = start_map segments; heap = start_heap segments; place = 0 }
