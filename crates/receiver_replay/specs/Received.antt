-- What becomes of a report with a program's file: its input is run again, or the report is made anew.
use Rattle.std.specs.Prelude.{◌≡◌, ◌≢◌, ◌⊎◌, ℕ, Bool, ◌==◌, ◌&&◌, List, length, Option, Some, None, Result, Ok, Err, option_map, nat_lt, if◌then◌else◌}
use Rattle.std.specs.Str.{bytes_eq}
use Rattle.sha2.specs.Sha256.{sha256}
use Rattle.elf32.specs.declared.error.ElfError.TheVariants as rules
use Rattle.elf32.specs.Rules.{refusal}
use Rattle.elf32.specs.Loads.{loaded_program}
use Rattle.rv_event.specs.declared.event.End.TheVariants as ends
use Rattle.rv_event.specs.declared.transcript.Transcript.{Transcript}
use Rattle.rv_event.specs.Same.{same_end}
use Rattle.rv_machine.specs.declared.trace.Run.{Run}
use Rattle.rv_machine.specs.Trace.{transcript_of}
use Rattle.report_format.specs.Text.{Content, lines}
use Rattle.report_maker.specs.declared.error.ReportError.{ReportError}
use Rattle.report_maker.specs.Made.{Made, made}
use Rattle.receiver_replay.specs.declared.error.ReceiveError.{ReceiveError}
use Rattle.receiver_replay.specs.declared.error.ReceiveError.TheVariants.{WrongProgram, Program, Differs, NoMemory}
use Rattle.receiver_replay.specs.Errors.{error_of}
use Rattle.receiver_replay.specs.Difference.{first_difference}

-- ---- the program

-- the file is the report's program, by its length and its digest
abbrev pub is_its_program : List ℕ → Content → Bool
is_its_program p report = (length p == report.length) && bytes_eq (sha256 p) report.digest

-- why the report's input isn't run on the file: another program, or the first rule that it breaks
abbrev pub program_refusal : List ℕ → Content → Option ReceiveError
program_refusal p report = if is_its_program p report then option_map Program (refusal p) else Some WrongProgram

-- an answer, unless the file is refused
abbrev pub unless_refused : {T : Type 0} → Option ReceiveError → Result T ReceiveError → Result T ReceiveError
unless_refused (Some refused) answer = Err refused
unless_refused None answer = answer

-- the run of the program on the report's input
abbrev pub its_run : List ℕ → Content → ℕ → Transcript
its_run p report limit = transcript_of (loaded_program p) report.input limit

-- ---- the report's input run again

-- the run ended before the report's number of steps
abbrev pub by_steps : Content → Transcript → Result Run ReceiveError
by_steps report t = if nat_lt (length t.events) report.steps then Err (Differs 4) else Ok (record { steps = length t.events; end = t.end })

-- the run's end is not the report's trap
abbrev pub by_trap : Content → Transcript → Result Run ReceiveError
by_trap report t = if same_end t.end (ends.Trap report.trap) then by_steps report t else Err (Differs 3)

-- the run on the report's input, for the report's number of steps
unfoldable pub replayed : List ℕ → Content → Result Run ReceiveError
replayed p report = unless_refused (program_refusal p report) (by_trap report (its_run p report report.steps))

-- ---- the report made anew

abbrev pub by_difference : Option ℕ → Result (Unit {0}) ReceiveError
by_difference (Some line) = Err (Differs line)
by_difference None = Ok tt

-- by what is made anew: why there is no report, or the first line that another one has
abbrev pub by_made : Content → Result Made ReportError → Result (Unit {0}) ReceiveError
by_made report (Err error) = Err (error_of error)
by_made report (Ok what) = by_difference (first_difference 1 (lines report) (lines what.report))

-- The report is the one that is made of the program and the report's own input, under its own seed.
unfoldable pub checked : List ℕ → Content → ℕ → ℕ → Result (Unit {0}) ReceiveError
checked p report steps conflicts =
    if is_its_program p report then by_made report (made p report.seed steps conflicts (its_run p report steps)) else Err WrongProgram

-- ---- what a call answers

-- the answer, or want of memory
abbrev pub IsBut : {T : Type 0} → Result T ReceiveError → Result T ReceiveError → Type 0
IsBut answer given = (given ≡ answer) ⊎ (given ≡ Err NoMemory)

-- a rule that is named is one of the thirteen
abbrev pub NamesRule : ReceiveError → Type 0
NamesRule (Program rule) = rule ≢ rules.NoMemory
NamesRule _ = Unit {0}
