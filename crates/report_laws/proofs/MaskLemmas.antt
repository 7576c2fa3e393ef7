-- The mask of a seed is an input: it has n bytes.
use Rattle.std.proofs.Common.{◌≡◌, ◌==◌, ◌<◌, ◌+◌, ◌*◌, ◌/◌, ◌%◌, ◌^◌, ℕ, zero, suc, Bool, true, false, length, replicate, refl, ap, subst, sym, arith, All, length-append, length-take-le, if◌then◌else◌}
use Rattle.std.specs.Int.{w32, to_le_bytes, byte_at, bytes_low_first}
use Rattle.std.proofs.lemmas.List.Elements.{All-nil, All-cons, All-append, All-take}
use Rattle.rand_core.specs.Steps.{stream_of, steps_u32, word_bytes}
use Rattle.rand_core.specs.Stream.{fill_bytes}
use Rattle.rand_core.specs.Pcg32Seed.{pcg32_seed}
use Rattle.rand_core.proofs.StepsLemmas.{fill_bytes-stream_of}
use Rattle.rand_pcg.specs.Lcg.{Lcg}
use Rattle.rand_pcg.specs.Pcg.{pcg32, pcg32_of_seed}
use Rattle.input_laws.specs.Inputs.{IsInput}
use Rattle.report_laws.specs.Mask.{mask, generator}

abbrev IsByte : ℕ → Type 0
IsByte byte = byte < 256

remainder_is_byte : (n : ℕ) → n % 256 < 256
remainder_is_byte n = omega arith

byte_is_byte : (i n : ℕ) → IsByte (byte_at i n)
byte_is_byte zero n = remainder_is_byte n
byte_is_byte (suc i) n = remainder_is_byte (n / 256 ^ suc i)

low_bytes_are_bytes : (i k n : ℕ) → All IsByte (bytes_low_first i k n)
low_bytes_are_bytes i zero n = All-nil IsByte
low_bytes_are_bytes i (suc k) n = All-cons IsByte (byte_at i n) (bytes_low_first (suc i) k n) (byte_is_byte i n) (low_bytes_are_bytes (suc i) k n)

words_are_bytes : {S : Type 0} (step : S → ℕ × S) (k : ℕ) (s : S) → All IsByte (word_bytes (to_le_bytes w32) step k s).0
unfolding word_bytes
words_are_bytes step zero s = All-nil IsByte
words_are_bytes step (suc k) s =
    All-append IsByte (word_bytes (to_le_bytes w32) step k s).0 (to_le_bytes w32 (step (word_bytes (to_le_bytes w32) step k s).1).0) (words_are_bytes step k s)
    (low_bytes_are_bytes 0 4 (step (word_bytes (to_le_bytes w32) step k s).1).0)

words_length : {S : Type 0} (step : S → ℕ × S) (k : ℕ) (s : S) → length (word_bytes (to_le_bytes w32) step k s).0 ≡ k * 4
unfolding word_bytes
words_length step zero s = refl
words_length step (suc k) s =
    let before = words_length step k s in
    let both = length-append (word_bytes (to_le_bytes w32) step k s).0 (to_le_bytes w32 (step (word_bytes (to_le_bytes w32) step k s).1).0) in
    omega (arith, before, both)

-- the first n bytes of words that are enough
first_bytes : (n : ℕ) (g : Lcg) → IsInput n (fill_bytes n (stream_of (steps_u32 pcg32) g)).0
first_bytes n g = subst (IsInput n) (sym (ap (λ p. p.0) (fill_bytes-stream_of (steps_u32 pcg32) n g)))
    (record {
      long = length-take-le n (word_bytes (to_le_bytes w32) pcg32 ((n + 3) / 4) g).0 (let enough = words_length pcg32 ((n + 3) / 4) g in omega (arith, enough));
      in_range = All-take IsByte n (word_bytes (to_le_bytes w32) pcg32 ((n + 3) / 4) g).0 (words_are_bytes pcg32 ((n + 3) / 4) g);
    })

-- a list of copies is as long as it says
pub copies_length : {X : Type 0} (n : ℕ) (x : X) → length (replicate n x) ≡ n
copies_length zero x = refl
copies_length (suc n) x = ap suc (copies_length n x)

zeros_are_bytes : (n : ℕ) → All IsByte (replicate n 0)
zeros_are_bytes zero = All-nil IsByte
zeros_are_bytes (suc n) = All-cons IsByte 0 (replicate n 0) (omega arith) (zeros_are_bytes n)

by_seed : (zero_seed : Bool) (seed n : ℕ) → IsInput n (if zero_seed then replicate n 0 else (fill_bytes n (generator seed)).0)
by_seed true seed n = record { long = copies_length n 0; in_range = zeros_are_bytes n }
by_seed false seed n = first_bytes n (pcg32_of_seed (pcg32_seed 16 seed))

-- the mask of a seed is an input
pub mask_is_input : (seed n : ℕ) → IsInput n (mask seed n)
unfolding mask
mask_is_input seed n = by_seed (seed == 0) seed n
