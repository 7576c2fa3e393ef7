-- Memory with a heap: the bytes that a program asks for by moving the break.
use Rattle.std.specs.Prelude.{ℕ, zero, suc, ◌+◌, ◌-◌, ◌*◌, ◌/◌, ◌^◌, nat_le, nat_lt, ◌&&◌, ◌||◌, Bool, List, length, Option, Some, None, if◌then◌else◌, refl}
use Rattle.std.specs.FinMap as finmap
use Rattle.std.specs.FinMap.{insert, remove}
use Rattle.std.specs.List.{slice_get}
use Rattle.std.specs.Coded.{Coded, code_by, coded×, coded_ℕ, coded_option}
use Rattle.elf32.specs.declared.segments.Segment.{Segment}
use Rattle.memory_map.specs.declared.heap.Heap.{Heap}
use Rattle.memory_map.specs.Cells.{Map, Cell, cell_code, read, write}

abbrev pub heap_code : Coded Heap
heap_code = code_by (ℕ × ℕ) (coded× coded_ℕ coded_ℕ) (λ h. (h.start, h.brk)) (λ p. record { start = p.0; brk = p.1 }) (λ _. refl)

-- what a program has: the cell at each address that has one, and its heap, where it has one
pub record Space : Type 0 where
  pub map : Map
  pub heap : Option Heap

abbrev pub space_code : Coded Space
space_code =
    code_by (Map × Option Heap) (coded× (finmap.code coded_ℕ cell_code) (coded_option heap_code))
    (λ s. (s.map, s.heap)) (λ p. record { map = p.0; heap = p.1 }) (λ _. refl)

-- how many bytes a heap may have
abbrev pub heap_size : ℕ
heap_size = 0x1000000

-- ---- the start

-- the least multiple of 4096 that isn't below a number
abbrev pub page_up : ℕ → ℕ
page_up n = (n + 4095) / 4096 * 4096

-- the heap from an address on, still without a byte, where it has room below the stack, or above it and below 2 ^ 32
abbrev pub heap_from : ℕ → Option Heap
heap_from start =
    if nat_le (start + heap_size) 0x7ff00000 || (nat_le 0x80000000 start && nat_lt (start + heap_size) (2 ^ 32))
    then Some (record { start = start; brk = start })
    else None

-- the heap past a segment
abbrev pub heap_past : Option Segment → Option Heap
heap_past None = None
heap_past (Some s) = heap_from (page_up (s.base + s.size))

-- the heap of a program: it lies past the last of its segments, which is the one with the greatest base
unfoldable pub start_heap : List Segment → Option Heap
start_heap segments = heap_past (slice_get segments (length segments - 1))

-- ---- the break

-- whether an address is one of so many from another up
abbrev pub is_in_span : ℕ → ℕ → ℕ → Bool
is_in_span address len q = nat_le address q && nat_lt (q - address) len

-- a cell of the heap as it enters memory: a zero that may be read and written
abbrev pub heap_cell : Cell
heap_cell = record { byte = 0; rights = read + write }

-- memory with such cells at so many addresses from one up
unfoldable pub with_zeros : Map → ℕ → ℕ → Map
with_zeros memory address zero = memory
with_zeros memory address (suc count) = with_zeros (insert memory address heap_cell) (suc address) count

-- memory without the cells at so many addresses from one up
unfoldable pub without_cells : Map → ℕ → ℕ → Map
without_cells memory address zero = memory
without_cells memory address (suc count) = without_cells (remove memory address) (suc address) count

-- memory after the break moves: the bytes from the old break up to the new one enter, those from the new one up to the old leave
abbrev pub with_break : Map → ℕ → ℕ → Map
with_break memory old new = without_cells (with_zeros memory old (new - old)) new (old - new)

-- whether the break of a heap may be at an address
abbrev pub may_break : Heap → ℕ → Bool
may_break heap address = nat_le heap.start address && nat_le (address - heap.start) heap_size

-- the answer to a call for the break to be at an address: the address where it may be there, else the break
abbrev pub break_answer : Option Heap → ℕ → Option ℕ
break_answer None address = None
break_answer (Some heap) address = Some (if may_break heap address then address else heap.brk)

-- what that call leaves
abbrev pub after_break : Map → Option Heap → ℕ → Space
after_break memory None address = record { map = memory; heap = None }
after_break memory (Some heap) address =
    if may_break heap address
    then record { map = with_break memory heap.brk address; heap = Some (record { start = heap.start; brk = address }) }
    else record { map = memory; heap = Some heap }
