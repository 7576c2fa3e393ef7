-- The answer that words and files fix.
use Rattle.std.specs.Prelude.{◌≡◌, ℕ, List, length, Option, Some, None, Result, Ok, Err, nat_lt, if◌then◌else◌}
use Rattle.elf32.specs.declared.error.ElfError.{ElfError}
use Rattle.elf32.specs.Rules.{refusal}
use Rattle.rv_event.specs.declared.transcript.Transcript.{Transcript}
use Rattle.fault_io.specs.Files.{Files}
use Rattle.crash_tool.specs.declared.answer.Role.{Role}
use Rattle.crash_tool.specs.declared.answer.Role.TheVariants.{Program, Input, Report}
use Rattle.crash_tool.specs.declared.answer.Refusal.{Refusal}
use Rattle.crash_tool.specs.declared.answer.Refusal.TheVariants.{Usage, CannotRead, TooLong, NotAProgram}
use Rattle.crash_tool.specs.Refusals.{Answer}
use Rattle.tool_words.specs.declared.words.Action.{Action}
use Rattle.tool_words.specs.declared.words.Action.TheVariants.{Make, Run, Replay, Check, Stack}
use Rattle.tool_words.specs.declared.words.Options.{Options}
use Rattle.tool_words.specs.Words.{Task, Asked, OnFiles, OnDemo}
use Rattle.crash_tool.specs.Made.{transcript_under}
use Rattle.crash_tool.specs.Outcome.{outcome}
use Rattle.crash_tool.specs.RunText.{run_text}
use Rattle.crash_tool.specs.Received.{IsByReading, replay_answer, check_answer}
use Rattle.crash_tool.specs.Stack.{stack_answer}
use Rattle.crash_tool.specs.Demo.{IsDemoAnswer}

-- ---- files

-- the most bytes of a file
abbrev pub limit_of : Role → ℕ
limit_of Program = 16777216
limit_of Input = 65536
limit_of Report = 8388608

-- what a read gives of the file that is held
abbrev pub read_of : Role → Option (List ℕ) → Result (List ℕ) Refusal
read_of role None = Err (CannotRead role)
read_of role (Some bytes) = if nat_lt (limit_of role) (length bytes) then Err (TooLong role) else Ok bytes

-- what an action's second file is
abbrev pub role_of : Action → Role
role_of Make = Input
role_of Run = Input
role_of Replay = Report
role_of Check = Report
role_of Stack = Report

-- ---- actions

-- the text of a run, however it ends
abbrev pub run_answer : Option ElfError → Transcript → Answer
run_answer (Some rule) t = Err (NotAProgram rule)
run_answer None t = Ok (run_text t)

-- the answer of an action to the bytes of a program and of a second file
abbrev pub IsAnswerOf : Action → List ℕ → Options → List ℕ → Answer → Type 0
IsAnswerOf Make p o x answer = answer ≡ outcome p o (length x) (transcript_under p o x)
IsAnswerOf Run p o x answer = answer ≡ run_answer (refusal p) (transcript_under p o x)
IsAnswerOf Replay p o x answer = IsByReading (replay_answer p) x answer
IsAnswerOf Check p o x answer = IsByReading (check_answer p o) x answer
IsAnswerOf Stack p o x answer = IsByReading (stack_answer p) x answer

abbrev pub IsOfSecond : Task → List ℕ → Result (List ℕ) Refusal → Answer → Type 0
IsOfSecond task p (Err refused) answer = answer ≡ Err refused
IsOfSecond task p (Ok x) answer = IsAnswerOf task.action p task.options x answer

abbrev pub IsOfProgram : Task → Files → Result (List ℕ) Refusal → Answer → Type 0
IsOfProgram task held (Err refused) answer = answer ≡ Err refused
IsOfProgram task held (Ok p) answer = IsOfSecond task p (read_of (role_of task.action) (held task.second)) answer

-- the program is read first, and the second file only where the program was read
abbrev pub IsDone : Task → Files → Answer → Type 0
IsDone task held answer = IsOfProgram task held (read_of Program (held task.program)) answer

-- the answer to words, over the files that are held
abbrev pub IsAnswerTo : Option Asked → Files → Answer → Type 0
IsAnswerTo None held answer = answer ≡ Err Usage
IsAnswerTo (Some (OnFiles task)) held answer = IsDone task held answer
IsAnswerTo (Some (OnDemo kind size options)) held answer = IsDemoAnswer kind size options answer

-- no file is held
abbrev pub no_files : Files
no_files name = None

-- whether these words are a command that reads files
abbrev pub ReadsFiles : Option Asked → Type 0
ReadsFiles (Some (OnFiles task)) = Unit {0}
ReadsFiles _ = ⊥

-- the files on which the answer to words rests, where they are told: a demonstration reads none, nor do words that are no command
abbrev pub files_for : Option Asked → Option Files → Option Files
files_for (Some (OnFiles task)) files = files
files_for (Some (OnDemo kind size options)) files = Some no_files
files_for None files = Some no_files
