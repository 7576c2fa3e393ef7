-- Files by their names, what a fetch answers of one, and folders.
use Rattle.std.specs.Prelude.{ℕ, ◌≤◌, length, Option, None, Some, nat_le, if◌then◌else◌, List, find, option_map}
use Rattle.std.specs.Str.{bytes_eq}
use Rattle.fault_io.specs.declared.folder.Fetched.{Fetched}
use Rattle.fault_io.specs.declared.folder.Fetched.TheVariants.{Whole, TooLong, Missing}
use Rattle.fault_io.specs.declared.folder.NamedFile.{NamedFile}
use Rattle.fault_io.specs.Requests.{Request}

-- a folder's content: the bytes under a name
abbrev pub Files : Type 0
Files = List ℕ → Option (List ℕ)

-- what a fetch answers of what is held under the name
abbrev pub answer_for : Option (List ℕ) → ℕ → Fetched
answer_for None limit = Missing
answer_for (Some bytes) limit = if nat_le (length bytes) limit then Whole bytes else TooLong

-- an answer keeps to the limit
abbrev pub IsWithin : ℕ → Fetched → Type 0
IsWithin limit (Whole bytes) = length bytes ≤ limit
IsWithin limit TooLong = Unit {0}
IsWithin limit Missing = Unit {0}

-- the first file of this name
abbrev pub file_of : List NamedFile → Files
file_of files name = option_map (λ file. file.bytes) (find (λ file. bytes_eq file.name name) files)

-- ---- folders, each with what it was asked for, in order

-- files in memory of which no read fails
pub record SteadyState : Type 0 where
  pub files : List NamedFile
  pub asked : List Request

-- the files of the system: the faults so far
pub record HostState : Type 0 where
  pub faults : ℕ
  pub asked : List Request
