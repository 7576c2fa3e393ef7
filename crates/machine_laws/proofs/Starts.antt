-- The state at the start.
use Rattle.std.proofs.Common.{◌≡◌, ℕ, zero, suc, ◌-◌, ◌<◌, ◌%◌, ◌^◌, List, [], ◌∷◌, ◌++◌, length, get_or, Bool, true, false, cond, Option, Some, refl, sym, ap, ◌∙◌, arith, All, replicate, slice_set}
use Rattle.std.specs.List.{flat_map}
use Rattle.std.specs.Ordering.{nat_cmp, eq_by_cmp}
use Rattle.std.specs.Cmp.{nat_cmp_total}
use Rattle.std.specs.FinMap.{find, from_entries, get-from_entries}
use Rattle.elf32.specs.declared.segments.Segment.{Segment}
use Rattle.memory_map.specs.Cells.{Cell, cells_from, segment_cells, stack_cells, start_map}
use Rattle.memory_map.proofs.HeapStarts.{start_break}
use Rattle.rv_machine.specs.State.{start}
use Rattle.machine_laws.specs.Kept.{IsState, HoldsBytes}

abbrev Bytes : List ℕ → Type 0
Bytes bs = All (λ b. b < 256) bs

-- each entry holds a byte
abbrev EachByte : List (ℕ × Cell) → Type 0
EachByte [] = Unit {0}
EachByte (e ∷ es) = (e.1.byte < 256) × EachByte es

in_front : (t : Bool) (d c : Cell) (o : Option Cell) → d.byte < 256 → ((x : Cell) → o ≡ Some x → x.byte < 256) → cond t (Some d) o ≡ Some c → c.byte < 256
in_front true d c o l h e = (let f : d ≡ c = cc in omega (arith, ap (λ (x : Cell). x.byte) f))
in_front false d c o l h e = h c e

found_byte : (es : List (ℕ × Cell)) (q : ℕ) → EachByte es → (c : Cell) → find nat_cmp q es ≡ Some c → c.byte < 256
found_byte [] q h c e = cc
found_byte (x ∷ es) q h c e = in_front (eq_by_cmp nat_cmp q x.0) x.1 c (find nat_cmp q es) h.0 (λ y f. found_byte es q h.1 y f) e

map_bytes : (es : List (ℕ × Cell)) → EachByte es → HoldsBytes (from_entries es)
map_bytes es h = λ q c e. found_byte es q h c (sym (get-from_entries nat_cmp_total es q) ∙ e)

append_bytes : (es fs : List (ℕ × Cell)) → EachByte es → EachByte fs → EachByte (es ++ fs)
append_bytes [] fs h l = l
append_bytes (e ∷ es) fs h l = (h.0, append_bytes es fs h.1 l)

zero_cells : (n a r : ℕ) → EachByte (cells_from a r (replicate n 0))
unfolding cells_from
zero_cells zero a r = tt
zero_cells (suc n) a r = (omega arith, zero_cells n (suc a) r)

filled_cells : (bs : List ℕ) (n a r : ℕ) → Bytes bs → EachByte (cells_from a r (bs ++ replicate n 0))
unfolding cells_from
filled_cells [] n a r h = zero_cells n a r
filled_cells (b ∷ bs) n a r h = (h 0 0 (omega arith), filled_cells bs n (suc a) r (λ k d l. h (suc k) d (omega arith)))

stack_bytes : EachByte stack_cells
unfolding stack_cells
stack_bytes = zero_cells 0x100000 0x7ff00000 6

no_segment : Segment
no_segment = record { base = 0; size = 0; rights = 0; bytes = [] }

segments_bytes : (ss : List Segment) → All (λ (s : Segment). Bytes s.bytes) ss → EachByte (flat_map segment_cells ss)
segments_bytes [] h = tt
segments_bytes (s ∷ ss) h =
    append_bytes (segment_cells s) (flat_map segment_cells ss) (filled_cells s.bytes (s.size - length s.bytes) s.base s.rights (h 0 no_segment (omega arith)))
    (segments_bytes ss (λ k d l. h (suc k) d (omega arith)))

start_bytes : (ss : List Segment) → All (λ (s : Segment). Bytes s.bytes) ss → HoldsBytes (start_map ss)
unfolding start_map
start_bytes ss h = map_bytes (stack_cells ++ flat_map segment_cells ss) (append_bytes stack_cells (flat_map segment_cells ss) stack_bytes (segments_bytes ss h))

zero_word : (n r : ℕ) → get_or (replicate n 0) r 0 < 2 ^ 32
zero_word zero r = omega arith
zero_word (suc n) zero = omega arith
zero_word (suc n) (suc r) = zero_word n r

start_word : (r : ℕ) → get_or (slice_set (replicate 32 0) 2 0x7fffff00) r 0 < 2 ^ 32
start_word zero = omega arith
start_word (suc zero) = omega arith
start_word (suc (suc zero)) = omega arith
start_word (suc (suc (suc r))) = zero_word 29 r

pub start_kept : (x : List ℕ) (entry : ℕ) (ss : List Segment) → entry < 2 ^ 32 → entry % 4 ≡ 0 → All (λ (s : Segment). Bytes s.bytes) ss → IsState x (start entry ss)
unfolding start
start_kept x entry ss l a h = record {
  count = refl;
  words = start_word;
  zero_register = refl;
  pc = l;
  aligned = a;
  memory = start_bytes ss h;
  heap = start_break ss;
  place = omega arith;
}
