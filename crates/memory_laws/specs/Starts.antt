-- The cells of memory at the start of a program.
use Rattle.std.specs.Prelude.{ℕ, ◌+◌, ◌-◌, ◌<◌, ◌≤◌, List, length, slice_index, nat_lt, if◌then◌else◌}
use Rattle.elf32.specs.declared.segments.Segment.{Segment}
use Rattle.elf32.specs.Segments.{AreApart, AreOffStack, AreSized}
use Rattle.memory_map.specs.Cells.{Cell, read, write}

-- what the loader keeps of the segments of every program
pub record AreLoaded (segments : List Segment) : Type 0 where
  pub sized : AreSized segments
  pub apart : AreApart segments
  pub off_stack : AreOffStack segments

-- an address of a segment
pub record IsIn (s : Segment) (address : ℕ) : Type 0 where
  pub from : s.base ≤ address
  pub below : address < s.base + s.size

-- the cell of a segment at an address: one of its bytes, or a zero after them
abbrev pub segment_cell : Segment → ℕ → Cell
segment_cell s address = record { byte = if nat_lt (address - s.base) (length s.bytes) then slice_index s.bytes (address - s.base) else 0; rights = s.rights }

-- an address of the stack
pub record IsOnStack (address : ℕ) : Type 0 where
  pub from : 0x7ff00000 ≤ address
  pub below : address < 0x80000000

-- a cell of the stack: a zero that may be read and written
abbrev pub stack_cell : Cell
stack_cell = record { byte = 0; rights = read + write }
