-- Which files a call asks the folder for.
use Rattle.std.specs.Prelude.{◌≡◌, ◌⊎◌, ℕ, List, [], ◌∷◌, ◌++◌, Option, Some, None, IfSome, IsOk, IsErrAnd}
use Rattle.fault_io.specs.Files.{Files}
use Rattle.fault_io.specs.Requests.{Request}
use Rattle.crash_tool.specs.declared.answer.Role.{Role}
use Rattle.crash_tool.specs.declared.answer.Role.TheVariants.{Program}
use Rattle.tool_words.specs.Words.{Task, Asked, OnFiles, OnDemo}
use Rattle.crash_tool.specs.Refusals.{status_of}
use Rattle.crash_tool.specs.Answers.{limit_of, read_of, role_of}

-- a file by its name, with the limit of its role
abbrev pub request : List ℕ → Role → Request
request name role = record { name = name; limit = limit_of role }

abbrev pub program_request : Task → Request
program_request task = request task.program Program

abbrev pub second_request : Task → Request
second_request task = request task.second (role_of task.action)

-- The program is within its limit, where the folder tells its files.
abbrev pub IsReadable : Task → Option Files → Type 0
IsReadable task files = IfSome files (λ held. IsOk (read_of Program (held task.program)))

-- The status where the program was not read whole: for want of memory, after a fault, or since it is missing or too long.
abbrev pub IsUnread : Task → Option Files → Type 0 → ℕ → Type 0
IsUnread task None failed given = (given ≡ 1) ⊎ (((given ≡ 3) × failed) ⊎ (given ≡ 5))
IsUnread task (Some held) failed given =
    (given ≡ 1) ⊎ (((given ≡ 3) × failed) ⊎ IsErrAnd (read_of Program (held task.program)) (λ refusal. given ≡ status_of refusal))

-- What the folder was asked for before a call and after it, by the status of the call. For a task that is nothing, only where
-- memory was wanting; the program alone, only where it was not read whole; or the program and then the second file.
abbrev pub AsksFor : Option Asked → Option Files → Type 0 → List Request → List Request → ℕ → Type 0
AsksFor (Some (OnFiles task)) files failed before after given =
    ((after ≡ before) × (given ≡ 1))
    ⊎ (((after ≡ before ++ program_request task ∷ []) × IsUnread task files failed given)
    ⊎ ((after ≡ before ++ program_request task ∷ second_request task ∷ []) × IsReadable task files))
AsksFor (Some (OnDemo kind size options)) files failed before after given = after ≡ before
AsksFor None files failed before after given = after ≡ before
