-- Bytes that are stored and read.
use Rattle.std.proofs.Common.{◌≡◌, ℕ, zero, suc, ◌+◌, ◌<◌, ◌≤◌, List, ◌∷◌, length, take, drop, get_or, refl, sym, ap, ◌∙◌, arith}
use Rattle.std.proofs.Math.Seq.{drop-cons}
use Rattle.std.specs.Int.{to_le_bytes, w32}
use Rattle.rv_decode.specs.declared.instr.Width.{Width}
use Rattle.rv_decode.specs.declared.instr.Width.TheVariants as widths
use Rattle.rv_machine.specs.Effects.{input_bytes, size_of, stored}

-- bytes of the input are a part of its list
pub input_bytes_are : (count place : ℕ) (input : List ℕ) → place + count ≤ length input → input_bytes input place count ≡ take count (drop place input)
unfolding input_bytes
input_bytes_are zero place input h = refl
input_bytes_are (suc count) place input h =
    let inside : place < length input = omega arith in
    ap (λ bs. get_or input place 0 ∷ bs) (input_bytes_are count (suc place) input (omega arith))
    ∙ sym (ap (take (suc count)) (drop-cons input place 0 inside))

-- so are they where place and count are known to be these
pub next_are : (input : List ℕ) (q p r count : ℕ) → q ≡ p → r ≡ count → p + count ≤ length input → take r (drop q input) ≡ input_bytes input p count
next_are input q p r count e f h = (λ i. take (f i) (drop (e i) input)) ∙ sym (input_bytes_are count p input h)

-- the lowest bytes of a word
pub stored_bytes : (width : Width) (value : ℕ) → take (size_of width) (to_le_bytes w32 value) ≡ stored width value
stored_bytes widths.B value = refl
stored_bytes widths.Bu value = refl
stored_bytes widths.H value = refl
stored_bytes widths.Hu value = refl
stored_bytes widths.W value = refl
