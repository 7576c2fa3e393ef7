-- What a call leaves on out and on err.
use Rattle.std.specs.Prelude.{◌≡◌, ◌≢◌, ◌⊎◌, ℕ, List, Option, Some, Result, Ok, Err, IfOk, IsErrAnd}
use Rattle.elf32.specs.declared.error.ElfError.TheVariants as rules
use Rattle.fault_io.specs.Faults.{Rose, NoFault, after_taking, TookPrefix}
use Rattle.crash_tool.specs.declared.answer.Refusal.{Refusal}
use Rattle.crash_tool.specs.declared.answer.Refusal.TheVariants.{NoMemory, Usage, CannotRead, NotAProgram}
use Rattle.fault_io.specs.Files.{Files}
use Rattle.tool_words.specs.declared.words.Action.TheVariants.{Check}
use Rattle.tool_words.specs.Words.{Task}
use Rattle.crash_tool.specs.Received.{IsAccepted}
use Rattle.crash_tool.specs.Refusals.{Answer, status_of, line_of, write_line, status, out_of, err_of}

-- ---- a sink before and after a call

-- what it holds, where it tells, and its count of faults
pub record Change : Type 0 where
  pub held : Option (List ℕ)
  pub holds : Option (List ℕ)
  pub old : ℕ
  pub new : ℕ

abbrev pub change : {S : Type 0} → (S → Option (List ℕ)) → (S → ℕ) → S → S → Change
change holds faults old new = record { held = holds old; holds = holds new; old = faults old; new = faults new }

-- it took exactly these bytes
abbrev pub Takes : Change → List ℕ → Type 0
Takes c bytes = c.holds ≡ after_taking c.held bytes

-- it took a first part of these bytes
abbrev pub TakesPrefix : Change → List ℕ → Type 0
TakesPrefix c bytes = TookPrefix c.held c.holds bytes

-- it took nothing
abbrev pub TakesNothing : Change → Type 0
TakesNothing c = c.holds ≡ c.held

-- it counted a fault, or its count stands at its last value
abbrev pub HasFault : Change → Type 0
HasFault c = Rose c.old c.new

abbrev pub HasNoFault : Change → Type 0
HasNoFault c = NoFault c.old c.new

-- it took a first part of a line, and the whole line where it counted no fault
pub record TakesLine (err : Change) (line : List ℕ) : Type 0 where
  pub part : TakesPrefix err line
  pub whole : HasNoFault err → Takes err line

-- ---- an answer that was said

-- a text was put on out, or a write to out failed
pub record SaysText (out err : Change) (bytes : List ℕ) (given : ℕ) : Type 0 where
  pub zero_or_four : (given ≡ 0) ⊎ (given ≡ 4)
  pub text : given ≡ 0 → Takes out bytes
  pub quiet : given ≡ 0 → TakesNothing err
  pub part : TakesPrefix out bytes
  pub cause : given ≡ 4 → HasFault out
  pub line : given ≡ 4 → TakesLine err write_line

-- a refusal's line was put on err, and nothing on out
pub record SaysRefusal (out err : Change) (refusal : Refusal) (given : ℕ) : Type 0 where
  pub status_is : given ≡ status_of refusal
  pub nothing : TakesNothing out
  pub line : TakesLine err (line_of refusal)

abbrev pub Says : Answer → Change → Change → ℕ → Type 0
Says (Ok bytes) out err given = SaysText out err bytes given
Says (Err refusal) out err given = SaysRefusal out err refusal given

-- status, out and err are the answer's, all of it
pub record Gives (answer : Answer) (out err : Change) (given : ℕ) : Type 0 where
  pub status_is : given ≡ status answer
  pub text : Takes out (out_of answer)
  pub line : Takes err (err_of answer)

-- ---- answers other than the true one

abbrev pub IsCannotRead : Refusal → Type 0
IsCannotRead (CannotRead role) = Unit {0}
IsCannotRead _ = ⊥

-- an answer for a read that failed
abbrev pub IsReadFault : Answer → Type 0
IsReadFault answer = IsErrAnd answer IsCannotRead

-- the answer is a right one, or for want of memory
abbrev pub IsBut : (Answer → Type 0) → Answer → Type 0
IsBut is given = is given ⊎ (given ≡ Err NoMemory)

-- the same, or for a read that failed
abbrev pub IsRightBut : (Answer → Type 0) → Type 0 → Answer → Type 0
IsRightBut is failed given = is given ⊎ ((given ≡ Err NoMemory) ⊎ (IsReadFault given × failed))

-- a right answer has this property
pub record OfRight (is has : Answer → Type 0) : Type 0 where
  pub answer : Answer
  pub right : is answer
  pub property : has answer

-- the same of what a read gives
abbrev pub IsReadBut : Result (List ℕ) Refusal → Type 0 → Result (List ℕ) Refusal → Type 0
IsReadBut true_one failed given = (given ≡ true_one) ⊎ ((given ≡ Err NoMemory) ⊎ (IsErrAnd given IsCannotRead × failed))

-- a refusal that comes of files that were read
abbrev pub IsOfFiles : Refusal → Type 0
IsOfFiles Usage = ⊥
IsOfFiles (CannotRead role) = ⊥
IsOfFiles (NotAProgram rule) = rule ≢ rules.NoMemory
IsOfFiles _ = Unit {0}

-- The status is that of a right answer; or 1; or 3, where a read failed; or 4, where a right answer is a text and a write to
-- out failed.
abbrev pub IsStatusBut : (Answer → Type 0) → Type 0 → Type 0 → ℕ → Type 0
IsStatusBut is read_failed write_failed given =
    OfRight is (λ answer. given ≡ status answer)
    ⊎ ((given ≡ 1) ⊎ (((given ≡ 3) × read_failed) ⊎ ((given ≡ 4) × (OfRight is (λ answer. status answer ≡ 0) × write_failed))))

-- where the answer to a receiver is a text, what the report says is right
abbrev pub IsReceived : Task → Answer → Files → Type 0
IsReceived task answer held =
    (p bytes : List ℕ) → task.action ≡ Check → held task.program ≡ Some p → held task.second ≡ Some bytes → IfOk answer (λ _. IsAccepted p task.options bytes)
