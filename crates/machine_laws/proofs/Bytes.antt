-- Memory holds bytes, and loads give words.
use Rattle.std.proofs.Common.{◌≡◌, ℕ, ◌-◌, zero, suc, ◌/◌, ◌%◌, ◌^◌, ◌<◌, List, [], ◌∷◌, get_or, Bool, true, false, cond, Option, Some, None, refl, sym, ap, ◌∙◌, arith, All}
use Rattle.std.specs.FinMap.{get, get-insert}
use Rattle.std.specs.Cmp.{nat_cmp_total}
use Rattle.std.specs.Ordering.{nat_cmp, eq_by_cmp}
use Rattle.memory_map.specs.Cells.{Map, Cell, with_byte, placed, next_address, byte_of_cell, byte_at, half_at, word_at}
use Rattle.memory_map.specs.Heaps.{heap_cell, with_break, is_in_span}
use Rattle.memory_map.proofs.Heaps.{get-with_break}
use Rattle.rv_decode.specs.declared.instr.Width.{Width}
use Rattle.rv_decode.specs.declared.instr.Width.TheVariants as widths
use Rattle.rv_machine.specs.Effects.{loaded, stored, input_bytes}
use Rattle.machine_laws.specs.Kept.{HoldsBytes}
use Rattle.machine_laws.proofs.Words.{extended_fits}

abbrev pub Bytes : List ℕ → Type 0
Bytes bs = All (λ b. b < 256) bs

pub none_left : Bytes []
none_left k d l = absurd (omega arith)

pub one_more : (b : ℕ) (bs : List ℕ) → b < 256 → Bytes bs → Bytes (b ∷ bs)
one_more b bs l h zero d k = l
one_more b bs l h (suc i) d k = h i d (omega arith)

-- ---- writes

by_key : (m : Map) (b q : ℕ) (d c : Cell) (t : Bool) → b < 256 → d.byte ≡ b → HoldsBytes m → cond t (Some d) (get m q) ≡ Some c → c.byte < 256
by_key m b q d c true l is h e = (let f : d ≡ c = cc in omega (arith, ap (λ (x : Cell). x.byte) f, is))
by_key m b q d c false l is h e = h q c e

write_bytes : (m : Map) (a b : ℕ) (o : Option Cell) → b < 256 → HoldsBytes m → HoldsBytes (with_byte m a b o)
write_bytes m a b None l h = h
write_bytes m a b (Some c) l h = λ q x e.
    by_key m b q (record { byte = b; rights = c.rights }) x (eq_by_cmp nat_cmp q a) l refl h (sym (get-insert nat_cmp_total m a (record { byte = b; rights = c.rights }) q) ∙ e)

-- bytes that are placed keep memory one of bytes
pub placed_bytes : (bs : List ℕ) (m : Map) (a : ℕ) → Bytes bs → HoldsBytes m → HoldsBytes (placed m a bs)
unfolding placed
placed_bytes [] m a each h = h
placed_bytes (b ∷ bs) m a each h = placed_bytes bs _ _ (λ k d l. each (suc k) d (omega arith)) (write_bytes m a b (get m a) (each 0 0 (omega arith)) h)

-- ---- the break

moved_byte : (u v : Bool) (c : Cell) (o : Option Cell) → ((x : Cell) → o ≡ Some x → x.byte < 256) → cond u None (cond v (Some heap_cell) o) ≡ Some c → c.byte < 256
moved_byte true v c o h e = cc
moved_byte false true c o h e = (let f : heap_cell ≡ c = cc in omega (arith, ap (λ (x : Cell). x.byte) f))
moved_byte false false c o h e = h c e

-- memory is one of bytes after the break has moved
pub break_bytes : (m : Map) (old new : ℕ) → HoldsBytes m → HoldsBytes (with_break m old new)
break_bytes m old new h = λ q c e. moved_byte (is_in_span new (old - new) q) (is_in_span old (new - old) q) c (get m q) (h q) (sym (get-with_break m old new q) ∙ e)

-- ---- what is read

cell_byte : (m : Map) (a : ℕ) (o : Option Cell) → get m a ≡ o → HoldsBytes m → byte_of_cell o < 256
cell_byte m a None e h = omega arith
cell_byte m a (Some c) e h = h a c e

byte_fits : (m : Map) (a : ℕ) → HoldsBytes m → byte_at m a < 256
byte_fits m a h = cell_byte m a (get m a) refl h

half_fits : (m : Map) (a : ℕ) → HoldsBytes m → half_at m a < 65536
half_fits m a h = (let low : byte_at m a < 256 = byte_fits m a h in let high : byte_at m (next_address a) < 256 = byte_fits m (next_address a) h in omega arith)

pub word_fits : (m : Map) (a : ℕ) → HoldsBytes m → word_at m a < 2 ^ 32
word_fits m a h =
    let first : byte_at m a < 256 = byte_fits m a h in
    let second : byte_at m (next_address a) < 256 = byte_fits m (next_address a) h in
    let third : byte_at m (next_address (next_address a)) < 256 = byte_fits m (next_address (next_address a)) h in
    let fourth : byte_at m (next_address (next_address (next_address a))) < 256 = byte_fits m (next_address (next_address (next_address a))) h in
    omega arith

-- what a load gives is a word
pub loaded_fits : (m : Map) (w : Width) (a : ℕ) → HoldsBytes m → loaded m w a < 2 ^ 32
loaded_fits m widths.B a h = (let l : byte_at m a < 256 = byte_fits m a h in extended_fits 8 (byte_at m a) (omega arith))
loaded_fits m widths.Bu a h = (let l : byte_at m a < 256 = byte_fits m a h in omega arith)
loaded_fits m widths.H a h = (let l : half_at m a < 65536 = half_fits m a h in extended_fits 16 (half_at m a) (omega arith))
loaded_fits m widths.Hu a h = (let l : half_at m a < 65536 = half_fits m a h in omega arith)
loaded_fits m widths.W a h = word_fits m a h

-- ---- what is written

-- a store writes bytes
pub stored_fits : (w : Width) (v : ℕ) → Bytes (stored w v)
stored_fits widths.B v = one_more (v % 256) [] (omega arith) none_left
stored_fits widths.Bu v = one_more (v % 256) [] (omega arith) none_left
stored_fits widths.H v = one_more (v % 256) (v / 256 % 256 ∷ []) (omega arith) (one_more (v / 256 % 256) [] (omega arith) none_left)
stored_fits widths.Hu v = one_more (v % 256) (v / 256 % 256 ∷ []) (omega arith) (one_more (v / 256 % 256) [] (omega arith) none_left)
stored_fits widths.W v =
    one_more (v % 256) (v / 256 % 256 ∷ v / 65536 % 256 ∷ v / 16777216 % 256 ∷ []) (omega arith)
    (one_more (v / 256 % 256) (v / 65536 % 256 ∷ v / 16777216 % 256 ∷ []) (omega arith)
    (one_more (v / 65536 % 256) (v / 16777216 % 256 ∷ []) (omega arith)
    (one_more (v / 16777216 % 256) [] (omega arith) none_left)))

input_byte : (x : List ℕ) (p : ℕ) → Bytes x → get_or x p 0 < 256
input_byte [] p h = omega arith
input_byte (b ∷ bs) zero h = h 0 0 (omega arith)
input_byte (b ∷ bs) (suc p) h = input_byte bs p (λ k d l. h (suc k) d (omega arith))

-- a read moves bytes
pub input_fits : (n p : ℕ) (x : List ℕ) → Bytes x → Bytes (input_bytes x p n)
unfolding input_bytes
input_fits zero p x h = none_left
input_fits (suc n) p x h = one_more (get_or x p 0) (input_bytes x (suc p) n) (input_byte x p h) (input_fits n (suc p) x h)
