-- The file of a program's words.
use Rattle.std.specs.Prelude.{◌≡◌, ℕ, ◌+◌, ◌*◌, ◌^◌, Bool, ◌||◌, List, ◌∷◌, length, map, Option, Some, None, true, false, nat_lt}
use Rattle.std.specs.List.{list_any, sum_by}
use Rattle.rv_decode.specs.declared.instr.Instr.{Instr}
use Rattle.rv_decode.specs.Table.{decoded}
use Rattle.elf32.specs.Spans.{stack, overlap}
use Rattle.rv_assemble.specs.declared.region.Region.{Region}
use Rattle.rv_assemble.specs.Parts.{IsFile, places}

-- the file is that of the instructions which the words stand for, one for one, and of the regions
pub record IsProgram (words : List ℕ) (regions : List Region) (file : List ℕ) : Type 0 where
  pub code : List Instr
  pub stand : map decoded words ≡ map Some code
  pub is_file : IsFile code regions file

-- the word stands for no instruction
abbrev pub is_other : Option Instr → Bool
is_other None = true
is_other (Some i) = false

-- some word stands for no instruction
abbrev pub has_other : List ℕ → Bool
has_other words = list_any (λ w. is_other (decoded w)) words

-- the region holds more bytes than its size, has rights of more than three bits, or ends past the addresses
abbrev pub is_outside : Region → Bool
is_outside r = nat_lt r.size (length r.bytes) || nat_lt 7 r.rights || nat_lt (2 ^ 32) (r.base + r.size)

-- a program can't have so many instructions and the regions: there are more than 63, one is outside, all take more than
-- 64 MiB, or two of them and the stack share an address
abbrev pub cannot_load : ℕ → List Region → Bool
cannot_load count regions =
    nat_lt 63 (length regions)
    || list_any is_outside regions
    || nat_lt 67108864 (4 * count + sum_by (λ r. r.size) regions)
    || overlap (stack ∷ places count regions)
