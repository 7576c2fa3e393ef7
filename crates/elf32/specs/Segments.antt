-- What is true of the segments of every program.
use Rattle.std.specs.Prelude.{ℕ, ◌+◌, ◌<◌, ◌≤◌, ◌^◌, List, length, slice_index_or}
use Rattle.std.specs.List.{All, sum_by}
use Rattle.elf32.specs.declared.segments.Segment.{Segment}

-- each segment ends where a later one begins, or before: so the bases ascend, and no two share a byte
abbrev pub AreApart : List Segment → Type 0
AreApart segments = (i j : ℕ) (d : Segment) → i < j → j < length segments →
    (slice_index_or segments i d).base + (slice_index_or segments i d).size ≤ (slice_index_or segments j d).base

-- no byte of the segment is on the stack, which has the addresses from 7ff00000 up to but not including 80000000: where it
-- ends above the stack's first address, it begins past the last
abbrev pub IsOffStack : Segment → Type 0
IsOffStack s = 0x7ff00000 < s.base + s.size → 0x80000000 ≤ s.base

abbrev pub AreOffStack : List Segment → Type 0
AreOffStack segments = All IsOffStack segments

-- a segment has a byte, ends within the addresses, holds no more bytes than its size, and has rights of three bits
pub record IsSized (s : Segment) : Type 0 where
  pub some : 0 < s.size
  pub within : s.base + s.size ≤ 2 ^ 32
  pub held : length s.bytes ≤ s.size
  pub rights : s.rights < 8

abbrev pub AreSized : List Segment → Type 0
AreSized segments = All IsSized segments

-- the bytes that all take in memory
abbrev pub total_size : List Segment → ℕ
total_size segments = sum_by (λ s. s.size) segments
