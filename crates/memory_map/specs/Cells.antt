-- Memory as one map from addresses to cells: a test looks at rights alone, a read at bytes alone.
use Rattle.std.specs.Prelude.{ℕ, zero, suc, ◌+◌, ◌*◌, ◌-◌, ◌^◌, ◌%◌, List, [], ◌∷◌, ◌++◌, Option, Some, None, Result, Ok, Err, length, bit_and, Bool, false, not, ◌==◌, if◌then◌else◌, refl, replicate}
use Rattle.std.specs.Ordering.{nat_cmp}
use Rattle.std.specs.FinMap.{FinMap, get, insert, from_entries}
use Rattle.std.specs.Coded.{Coded, code_by, coded×, coded_ℕ}
use Rattle.std.specs.List.{flat_map}
use Rattle.std.specs.Option.{is_none}
use Rattle.elf32.specs.declared.segments.Segment.{Segment}

-- a byte and its rights: bit 0 to execute, bit 1 to write, bit 2 to read (System V gABI, "Program Header": PF_X, PF_W, PF_R)
pub record Cell : Type 0 where
  pub byte : ℕ
  pub rights : ℕ

-- a cell as a pair of numbers
abbrev pub cell_code : Coded Cell
cell_code = code_by (ℕ × ℕ) (coded× coded_ℕ coded_ℕ) (λ c. (c.byte, c.rights)) (λ p. record { byte = p.0; rights = p.1 }) (λ _. refl)

-- memory: the cell at each address that has one
abbrev pub Map : Type 0
Map = FinMap nat_cmp Cell

-- ---- rights

-- the right to execute
abbrev pub execute : ℕ
execute = 1

-- the right to write
abbrev pub write : ℕ
write = 2

-- the right to read
abbrev pub read : ℕ
read = 4

-- whether a cell is there and has a right
abbrev pub can : ℕ → Option Cell → Bool
can right None = false
can right (Some cell) = not (bit_and cell.rights right == 0)

-- ---- ranges of addresses

-- the next address: 0 follows the last (RISC-V Unprivileged ISA 20191213, "Memory")
abbrev pub next_address : ℕ → ℕ
next_address address = (address + 1) % 2 ^ 32

-- of so many addresses from one up, the first that lacks a right
unfoldable pub first_without : ℕ → Map → ℕ → ℕ → Option ℕ
first_without right memory address zero = None
first_without right memory address (suc len) = if can right (get memory address) then first_without right memory (next_address address) len else Some address

-- whether each of so many addresses from one up has a right
abbrev pub all_can : ℕ → Map → ℕ → ℕ → Bool
all_can right memory address len = is_none (first_without right memory address len)

-- a value, or the first address that lacks a right
abbrev pub ok_unless : {A : Type 0} → Option ℕ → A → Result A ℕ
ok_unless None value = Ok value
ok_unless (Some fault) value = Err fault

-- ---- reads

-- the byte of a cell, or 0 where there is none
abbrev pub byte_of_cell : Option Cell → ℕ
byte_of_cell None = 0
byte_of_cell (Some cell) = cell.byte

-- the byte at an address
abbrev pub byte_at : Map → ℕ → ℕ
byte_at memory address = byte_of_cell (get memory address)

-- the byte at an address, where it may be read
abbrev pub readable_byte : Map → ℕ → Option ℕ
readable_byte memory address = if can read (get memory address) then Some (byte_at memory address) else None

-- the little-endian half word of the two bytes from an address up
abbrev pub half_at : Map → ℕ → ℕ
half_at memory a = byte_at memory a + 256 * byte_at memory (next_address a)

-- the little-endian word of the four bytes from an address up
abbrev pub word_at : Map → ℕ → ℕ
word_at memory a =
    byte_at memory a + 256 * byte_at memory (next_address a) + 65536 * byte_at memory (next_address (next_address a)) + 16777216 * byte_at memory (next_address (next_address (next_address a)))

-- the word at an address, if its four bytes may be executed
abbrev pub fetched : Map → ℕ → Option ℕ
fetched memory address = if all_can execute memory address 4 then Some (word_at memory address) else None

-- ---- writes

-- memory with another byte at an address that has a cell
abbrev pub with_byte : Map → ℕ → ℕ → Option Cell → Map
with_byte memory address byte None = memory
with_byte memory address byte (Some cell) = insert memory address (record { byte = byte; rights = cell.rights })

-- memory with bytes at the addresses from one up
unfoldable pub placed : Map → ℕ → List ℕ → Map
placed memory address [] = memory
placed memory address (b ∷ bs) = placed (with_byte memory address b (get memory address)) (next_address address) bs

-- ---- the start

-- the cells of bytes from an address up
unfoldable pub cells_from : ℕ → ℕ → List ℕ → List (ℕ × Cell)
cells_from address rights [] = []
cells_from address rights (b ∷ bs) = (address, record { byte = b; rights = rights }) ∷ cells_from (suc address) rights bs

-- the bytes of a segment, and zeros up to its size
abbrev pub filled : Segment → List ℕ
filled s = s.bytes ++ replicate (s.size - length s.bytes) 0

-- the cells of a segment
abbrev pub segment_cells : Segment → List (ℕ × Cell)
segment_cells s = cells_from s.base s.rights (filled s)

-- the cells of the stack: 1048576 zeros that may be read and written
unfoldable pub stack_cells : List (ℕ × Cell)
stack_cells = cells_from 0x7ff00000 6 (replicate 0x100000 0)

-- memory at the start of a program
unfoldable pub start_map : List Segment → Map
start_map segments = from_entries (stack_cells ++ flat_map segment_cells segments)
