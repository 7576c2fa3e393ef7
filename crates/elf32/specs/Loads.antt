-- What a file loads into memory.
use Rattle.std.specs.Prelude.{◌≡◌, ℕ, ◌%◌, List, [], ◌∷◌, map, take, drop, nat_lt, if◌then◌else◌, None}
use Rattle.std.specs.List.{filter}
use Rattle.elf32.specs.declared.header.Header.{Header}
use Rattle.elf32.specs.declared.segments.Segment.{Segment}
use Rattle.elf32.specs.Fields.{e_entry, headers}
use Rattle.elf32.specs.declared.image.Image.{Image}
use Rattle.elf32.specs.Rules.{is_loaded, refusal}

-- "Program Header": the segment of a PT_LOAD header has the p_filesz bytes at p_offset, and the rights of the low three
-- bits of p_flags
abbrev pub segment_of : List ℕ → Header → Segment
segment_of bytes h = record { base = h.vaddr; size = h.memsz; rights = h.flags % 8; bytes = take h.filesz (drop h.offset bytes) }

-- the segments of the headers, in the order of the headers
abbrev pub segments_of : List ℕ → List Header → List Segment
segments_of bytes hs = map (segment_of bytes) (filter is_loaded hs)

-- the segment before the first whose base isn't lower
unfoldable pub put : Segment → List Segment → List Segment
put s [] = s ∷ []
put s (t ∷ ts) = if nat_lt t.base s.base then t ∷ put s ts else s ∷ t ∷ ts

-- the segments in ascending order of base
unfoldable pub in_order : List Segment → List Segment
in_order [] = []
in_order (s ∷ ss) = put s (in_order ss)

-- a program: where it starts, and its segments
pub record Program : Type 0 where
  pub entry : ℕ
  pub segments : List Segment

-- an image as a program
abbrev pub program_of : Image → Program
program_of image = record { entry = image.entry; segments = image.segments }

-- what a file loads: its entry point, and its segments in ascending order of base
abbrev pub loaded_program : List ℕ → Program
loaded_program bytes = record { entry = e_entry bytes; segments = in_order (segments_of bytes (headers bytes)) }

-- the file breaks no rule, and the image is what it loads
pub record IsImageOf (bytes : List ℕ) (image : Image) : Type 0 where
  pub unbroken : refusal bytes ≡ None
  pub entry : image.entry ≡ (loaded_program bytes).entry
  pub segments : image.segments ≡ (loaded_program bytes).segments
