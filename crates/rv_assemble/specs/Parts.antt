-- What a file is made of.
use Rattle.std.specs.Prelude.{◌≡◌, ℕ, ◌+◌, ◌*◌, ◌<◌, ◌≤◌, ◌^◌, List, ◌∷◌, length, map, flat_map, Some, nat_lt, false}
use Rattle.std.specs.List.{filter, sum_by, All}
use Rattle.rv_decode.specs.declared.instr.Instr.{Instr}
use Rattle.rv_decode.specs.Table.{decoded}
use Rattle.elf32.specs.declared.span.Span.{Span}
use Rattle.elf32.specs.declared.segments.Segment.{Segment}
use Rattle.elf32.specs.Spans.{stack, overlap}
use Rattle.elf32.specs.Loads.{loaded_program, in_order}
use Rattle.rv_assemble.specs.declared.region.Region.{Region}
use Rattle.rv_assemble.specs.Layout.{word, file_of}

-- the text is the bytes of words that stand for the instructions, one for one, each word with its lowest byte first
pub record Spells (text : List ℕ) (code : List Instr) : Type 0 where
  pub words : List ℕ
  pub within : All (λ w. w < 2 ^ 32) words
  pub stand : map decoded words ≡ map Some code
  pub written : text ≡ flat_map word words

-- the code's region, which can be read and executed
abbrev pub code_region : List ℕ → Region
code_region text = record { base = 0x10000; size = length text; rights = 5; bytes = text }

abbrev pub segment_of : Region → Segment
segment_of r = record { base = r.base; size = r.size; rights = r.rights; bytes = r.bytes }

-- the segments of the regions that have a size
abbrev pub segments_of : List Region → List Segment
segments_of rs = map segment_of (filter (λ r. nat_lt 0 r.size) rs)

-- the addresses of the code, for a number of instructions, and of the regions
abbrev pub span_of : Region → Span
span_of r = record { base = r.base; size = r.size }

abbrev pub places : ℕ → List Region → List Span
places count regions = record { base = 0x10000; size = 4 * count } ∷ map span_of regions

-- memory can have all of them: they end within the addresses, none shares a byte with another or with the stack, and they
-- take at most 64 MiB
pub record CanLoad (spans : List Span) : Type 0 where
  pub within : All (λ s. s.base + s.size ≤ 2 ^ 32) spans
  pub apart : overlap (stack ∷ spans) ≡ false
  pub small : sum_by (λ s. s.size) spans ≤ 67108864

-- a region has no more bytes than its size, and rights of three bits
pub record IsRegion (r : Region) : Type 0 where
  pub held : length r.bytes ≤ r.size
  pub rights : r.rights < 8

-- the bytes that the regions hold in the file
abbrev pub held : List Region → ℕ
held rs = sum_by (λ r. length r.bytes) rs

-- the bytes of the file: an ELF header of 52, a program header of 32 for the code and for each region, four for each
-- instruction, and what the regions hold
abbrev pub file_length : ℕ → List Region → ℕ
file_length count regions = 52 + 32 * (length regions + 1) + 4 * count + held regions

-- the file is that of a text that spells the code, and of the regions. What it loads are those of them that have a size, in
-- ascending order of base
pub record IsFile (code : List Instr) (regions : List Region) (bytes : List ℕ) : Type 0 where
  pub text : List ℕ
  pub spells : Spells text code
  pub written : bytes ≡ file_of (code_region text ∷ regions)
  pub segments : (loaded_program bytes).segments ≡ in_order (segments_of (code_region text ∷ regions))
