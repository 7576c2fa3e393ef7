-- The start of a program: an aligned program counter, and bytes in memory.
use Rattle.std.proofs.Common.{◌≡◌, ℕ, zero, suc, ◌-◌, ◌%◌, ◌<◌, List, [], ◌∷◌, ◌++◌, Option, Some, Bool, true, false, cond, get_or, replicate, length, All, sym, arith, subst}
use Rattle.std.specs.List.{flat_map}
use Rattle.std.specs.Ordering.{nat_cmp, eq_by_cmp}
use Rattle.std.specs.Cmp.{nat_cmp_total}
use Rattle.std.specs.FinMap.{find, get-from_entries}
use Rattle.elf32.specs.Loads.{Program}
use Rattle.elf32.specs.declared.segments.Segment.{Segment}
use Rattle.term_model.specs.Words.{AreBytes}
use Rattle.memory_map.specs.Cells.{Cell, byte_at, byte_of_cell, cells_from, filled, segment_cells, stack_cells, start_map}
use Rattle.rv_machine.specs.State.{start}
use Rattle.replay_law.specs.Crash.{IsProgram}

-- the program counter at the start is a multiple of 4
pub start_aligned : (program : Program) → IsProgram program → (start program.entry program.segments).pc % 4 ≡ 0
unfolding start
start_aligned program h = h.aligned

-- zeros are below any bound
pub zeros_below : (n r b : ℕ) → 0 < b → get_or (replicate n 0) r 0 < b
zeros_below zero r b h = h
zeros_below (suc n) zero b h = h
zeros_below (suc n) (suc r) b h = zeros_below n r b h

-- two lists of bytes
both_bytes : (xs ys : List ℕ) → AreBytes xs → AreBytes ys → AreBytes (xs ++ ys)
both_bytes [] ys h k i = k i
both_bytes (x ∷ xs) ys h k zero = h zero
both_bytes (x ∷ xs) ys h k (suc i) = both_bytes xs ys (λ j. h (suc j)) k i

-- cells that hold bytes
abbrev AreCells : List (ℕ × Cell) → Type 0
AreCells [] = Unit {0}
AreCells (e ∷ es) = (e.1.byte < 256) × AreCells es

-- two lists of such cells
both_cells : (es fs : List (ℕ × Cell)) → AreCells es → AreCells fs → AreCells (es ++ fs)
both_cells [] fs h k = k
both_cells (e ∷ es) fs h k = (h.0, both_cells es fs h.1 k)

-- the cells of bytes
bytes_in_cells : (address rights : ℕ) (bs : List ℕ) → AreBytes bs → AreCells (cells_from address rights bs)
unfolding cells_from
bytes_in_cells address rights [] h = tt
bytes_in_cells address rights (b ∷ bs) h = (h 0, bytes_in_cells (suc address) rights bs (λ j. h (suc j)))

-- the cells of the stack
stack_in_cells : AreCells stack_cells
unfolding stack_cells
stack_in_cells = bytes_in_cells 0x7ff00000 6 (replicate 0x100000 0) (λ i. zeros_below 0x100000 i 256 (omega arith))

-- the cells of a segment
segment_in_cells : (s : Segment) → AreBytes s.bytes → AreCells (segment_cells s)
segment_in_cells s h = bytes_in_cells s.base s.rights (filled s) (both_bytes s.bytes (replicate (s.size - length s.bytes) 0) h (λ i. zeros_below (s.size - length s.bytes) i 256 (omega arith)))

-- what holds of each element holds of the first, and of each of the others
first_of : (P : Segment → Type 0) (s : Segment) (ss : List Segment) → All P (s ∷ ss) → P s
first_of P s ss h = h 0 s (omega arith)

-- the same, of all but the first
rest_of : (P : Segment → Type 0) (s : Segment) (ss : List Segment) → All P (s ∷ ss) → All P ss
rest_of P s ss h k d lt = h (suc k) d (omega arith)

-- the cells of all segments
segments_in_cells : (ss : List Segment) → All (λ s. AreBytes s.bytes) ss → AreCells (flat_map segment_cells ss)
segments_in_cells [] h = tt
segments_in_cells (s ∷ ss) h =
    both_cells (segment_cells s) (flat_map segment_cells ss) (segment_in_cells s (first_of (λ s. AreBytes s.bytes) s ss h)) (segments_in_cells ss (rest_of (λ s. AreBytes s.bytes) s ss h))

-- the byte of either of two cells
either_below : (b : Bool) (cell : Cell) (o : Option Cell) → cell.byte < 256 → byte_of_cell o < 256 → byte_of_cell (cond b (Some cell) o) < 256
either_below true cell o h k = h
either_below false cell o h k = k

-- the byte of a cell that is found
found_below : (es : List (ℕ × Cell)) (q : ℕ) → AreCells es → byte_of_cell (find nat_cmp q es) < 256
found_below [] q h = omega arith
found_below (e ∷ es) q h = either_below (eq_by_cmp nat_cmp q e.0) e.1 (find nat_cmp q es) h.0 (found_below es q h.1)

-- each byte of memory at the start is below 256
pub start_below : (program : Program) → IsProgram program → (a : ℕ) → byte_at (start_map program.segments) a < 256
unfolding start_map
start_below program h a =
    subst (λ (o : Option Cell). byte_of_cell o < 256) (sym (get-from_entries nat_cmp_total (stack_cells ++ flat_map segment_cells program.segments) a))
    (found_below (stack_cells ++ flat_map segment_cells program.segments) a (both_cells stack_cells (flat_map segment_cells program.segments) stack_in_cells (segments_in_cells program.segments h.bytes)))
