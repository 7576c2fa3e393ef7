-- The parts that memory is kept in, and the map that they stand for.
use Rattle.std.specs.Prelude.{◌≡◌, ℕ, ◌+◌, ◌-◌, ◌<◌, ◌≤◌, ◌^◌, ◌⊎◌, replicate, List, [], ◌∷◌, ◌++◌, Option, Some, None, length, if◌then◌else◌, slice_index, slice_index_or, Bool, true, false, ◌&&◌, nat_le, nat_lt, not, ◌==◌, bit_and, take, drop}
use Rattle.std.specs.FinMap.{from_entries, get}
use Rattle.std.specs.List.{find, All, AllPairs}
use Rattle.std.specs.Option.{option_map}
use Rattle.elf32.specs.declared.segments.Segment.{Segment}
use Rattle.memory_map.specs.Part.{Part}
use Rattle.memory_map.specs.Cells.{Map, Cell, can, read, write, cells_from, filled, byte_at}
use Rattle.memory_map.specs.Heaps.{heap_size, is_in_span}
use Rattle.memory_map.specs.declared.heap.Heap.{Heap}

-- the cells of all parts
unfoldable pub entries_of : List Part → List (ℕ × Cell)
entries_of [] = []
entries_of (p ∷ ps) = cells_from p.base p.rights p.bytes ++ entries_of ps

-- the map of all parts
unfoldable pub map_of : List Part → Map
map_of parts = from_entries (entries_of parts)

-- whether a part has a byte at an address
abbrev pub contains : Part → ℕ → Bool
contains part address = nat_le part.base address && nat_lt (address - part.base) (length part.bytes)

-- whether the bytes of a part have a right
abbrev pub allows : ℕ → ℕ → Bool
allows rights right = not (bit_and rights right == 0)

-- the cell of a part at an address
abbrev pub cell_in : Part → ℕ → Cell
cell_in part address = record { byte = slice_index part.bytes (address - part.base); rights = part.rights }

-- the cell in the first part that holds an address
abbrev pub first_cell : List Part → ℕ → Option Cell
first_cell parts address = option_map (λ p. cell_in p address) (find (λ p. contains p address) parts)

-- the address after a part's last
abbrev pub end_of : Part → ℕ
end_of p = p.base + length p.bytes

-- a part with bytes from an address up
abbrev pub overwritten : Part → ℕ → List ℕ → Part
overwritten p address bytes = record { base = p.base; rights = p.rights; bytes = take (address - p.base) p.bytes ++ (bytes ++ drop (address - p.base + length bytes) p.bytes); room = p.room }

-- the parts stand in order, apart from each other and from the stack, and below 2 ^ 32
pub record IsLaidOut (stack : Part) (parts : List Part) : Type 0 where
  pub ascending : AllPairs (λ p q. end_of p ≤ q.base) parts
  pub off_stack : All (λ p. p.base < end_of stack → end_of p ≤ stack.base) parts
  pub within : All (λ p. end_of p ≤ 2 ^ 32) parts
  pub stack_within : end_of stack ≤ 2 ^ 32

-- the part of a heap
pub record IsHeapPart (heap : Heap) (p : Part) : Type 0 where
  pub base : p.base ≡ heap.start
  pub end : end_of p ≡ heap.brk
  pub rights : p.rights ≡ read + write
  pub room : heap_size ≤ p.room

-- the last part is that of the heap, which has room off the stack and below 2 ^ 32
pub record IsHeap (stack : Part) (parts : List Part) (heap : Heap) : Type 0 where
  pub some : 0 < length parts
  pub last : (d : Part) → IsHeapPart heap (slice_index_or parts (length parts - 1) d)
  pub most : heap.brk ≤ heap.start + heap_size
  pub below : heap.start + heap_size < 2 ^ 32
  pub off_stack : (heap.start + heap_size ≤ stack.base) ⊎ (end_of stack ≤ heap.start)

-- the last part is that of the heap, where there is one
abbrev pub HasHeap : Part → List Part → Option Heap → Type 0
HasHeap stack parts None = Unit {0}
HasHeap stack parts (Some heap) = IsHeap stack parts heap

-- a part of another size: cut off, or filled up with zeros
abbrev pub resized : Part → ℕ → Part
resized p size = record { base = p.base; rights = p.rights; bytes = take size p.bytes ++ replicate (size - length p.bytes) 0; room = p.room }

-- the part of a heap at the start
abbrev pub heap_parts : Option Heap → List Part
heap_parts None = []
heap_parts (Some heap) = record { base = heap.start; rights = read + write; bytes = []; room = heap_size } ∷ []

-- the part of a segment
abbrev pub part_of : Segment → Part
part_of s = record { base = s.base; rights = s.rights; bytes = filled s; room = 0 }

-- a part that holds an address and all whose cells are what `cells` finds
pub record IsPartAt (cells : ℕ → Option Cell) (address : ℕ) (p : Part) : Type 0 where
  pub here : contains p address ≡ true
  pub found : (q : ℕ) → contains p q ≡ true → cells q ≡ Some (cell_in p q)
  pub within : end_of p ≤ 2 ^ 32

-- the part at a place holds an address
pub record IsHeldAt (parts : List Part) (address place : ℕ) : Type 0 where
  pub below : place < length parts
  pub here : (d : Part) → contains (slice_index_or parts place d) address ≡ true

-- a cell with another byte
abbrev pub cell_with : ℕ → Option Cell → Option Cell
cell_with byte None = None
cell_with byte (Some cell) = Some (record { byte = byte; rights = cell.rights })

-- what the cell at the address `q` becomes by a write of bytes from `address` up
abbrev pub cell_after : ℕ → List ℕ → ℕ → Option Cell → Option Cell
cell_after address bytes q cell = if is_in_span address (length bytes) q then cell_with (slice_index bytes (q - address)) cell else cell

-- cells before and after bytes are written from an address up, each of which may be written
pub record Overwrites (old new : ℕ → Option Cell) (address : ℕ) (bytes : List ℕ) : Type 0 where
  pub allowed : (i : ℕ) → i < length bytes → can write (old (address + i)) ≡ true
  pub cells : (q : ℕ) → new q ≡ cell_after address bytes q (old q)
  pub within : address + length bytes ≤ 2 ^ 32

-- the addresses from one up have a right
abbrev pub CanFrom : ℕ → Map → ℕ → ℕ → Type 0
CanFrom right memory address len = (i : ℕ) → i < len → can right (get memory (address + i)) ≡ true

-- the bytes from an address up, each with a right. None where the address lacks it
pub record IsRun (right : ℕ) (memory : Map) (address : ℕ) (bytes : List ℕ) : Type 0 where
  pub allowed : CanFrom right memory address (length bytes)
  pub byte : (i : ℕ) → i < length bytes → byte_at memory (address + i) ≡ slice_index bytes i
  pub lacks : length bytes ≡ 0 → can right (get memory address) ≡ false
  pub within : address + length bytes ≤ 2 ^ 32
