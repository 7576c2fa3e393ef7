-- Reads that are numbered, and readers that count them.
use Rattle.std.specs.Prelude.{◌≡◌, ℕ, zero, suc, ◌+◌, ◌-◌, ◌/◌, ◌^◌, ◌<◌, ◌≤◌, min, Bool, true, false, ◌&&◌, nat_lt, nat_eq, if◌then◌else◌, List, Option}
use Rattle.std.specs.List.{list_any}
use Rattle.fault_io.specs.declared.folder.NamedFile.{NamedFile}
use Rattle.fault_io.specs.Requests.{Request}

-- ---- a folder in memory of which some reads fail

-- its files, the most bytes that a read gives, the numbers of the reads that fail, the number of the last read made, and what
-- it was asked for, in order
pub record FolderState : Type 0 where
  pub files : List NamedFile
  pub piece : ℕ
  pub failing : List ℕ
  pub made : ℕ
  pub asked : List Request

-- the number of the last read after so many more, which stops at 2^64 - 1
abbrev pub after_reads : ℕ → ℕ → ℕ
after_reads made more = min (made + more) (2 ^ 64 - 1)

-- whether a read of this number fails; no read of the number 2^64 - 1 does
abbrev pub fails : List ℕ → ℕ → Bool
fails failing number = nat_lt number (2 ^ 64 - 1) && list_any (λ entry. nat_eq entry number) failing

-- how many of the reads with the numbers 1 to made failed
unfoldable pub failed_among : List ℕ → ℕ → ℕ
failed_among failing zero = 0
failed_among failing (suc made) = failed_among failing made + (if fails failing (suc made) then 1 else 0)

-- no read after the first number and up to the last fails
abbrev pub NoneFails : List ℕ → ℕ → ℕ → Type 0
NoneFails failing first last = (number : ℕ) → first < number → number ≤ last → fails failing number ≡ false

-- of the reads after the first number, the last is the one that fails
pub record LastFails (failing : List ℕ) (first last : ℕ) : Type 0 where
  pub later : first < last
  pub others : (number : ℕ) → first < number → number < last → fails failing number ≡ false
  pub fault : fails failing last ≡ true

-- How many reads a file of so many bytes takes where none fails: until more than `limit` bytes are there, or until one gives nothing.
abbrev pub reads_for : ℕ → ℕ → ℕ → ℕ
reads_for piece limit size = if nat_lt limit size then limit / piece + 1 else (size + (piece - 1)) / piece + 1

-- ---- a reader that counts

-- the bytes that it has left, where it tells them, the reads made, and how many of them failed
pub record ReaderState : Type 0 where
  pub left : Option (List ℕ)
  pub reads : ℕ
  pub faults : ℕ
