-- The status of each refusal and its line on err.
use Rattle.std.specs.Prelude.{◌≡◌, ◌≢◌, ◌⊎◌, ℕ, List, [], ◌∷◌, ◌++◌, codes, Result, Ok, Err}
use Rattle.std.specs.Fmt.{decimal}
use Rattle.elf32.specs.declared.error.ElfError.{ElfError}
use Rattle.elf32.specs.declared.error.ElfError.TheVariants as rules
use Rattle.crash_tool.specs.declared.answer.Role.{Role}
use Rattle.crash_tool.specs.declared.answer.Role.TheVariants.{Program, Input, Report}
use Rattle.crash_tool.specs.declared.answer.Refusal.{Refusal}
use Rattle.crash_tool.specs.declared.answer.Refusal.TheVariants.{NoMemory, Usage, CannotRead, TooLong, NotAProgram, NoCrash, StillRunning, Spent, NotAReport, WrongProgram, Differs}
use Rattle.report_format.specs.declared.error.ReadError.{ReadError}
use Rattle.report_format.specs.declared.error.ReadError.TheVariants as read
use Rattle.report_maker.specs.declared.error.ReportError.{ReportError}
use Rattle.report_maker.specs.declared.error.ReportError.TheVariants as report
use Rattle.receiver_replay.specs.declared.error.ReceiveError.{ReceiveError}
use Rattle.receiver_replay.specs.declared.error.ReceiveError.TheVariants as receive
use Rattle.tool_words.specs.declared.command.WordsError.{WordsError}
use Rattle.tool_words.specs.declared.command.WordsError.TheVariants as words

-- what the tool has to say: a text, or a refusal
abbrev pub Answer : Type 0
Answer = Result (List ℕ) Refusal

-- ---- the refusal that an error means

abbrev pub of_words : WordsError → Refusal
of_words words.NoMemory = NoMemory
of_words words.Usage = Usage

-- the rule that a file breaks, or want of memory, which is no rule
abbrev pub IsOfRule : ElfError → Refusal → Type 0
IsOfRule rule refusal = ((rule ≢ rules.NoMemory) × (refusal ≡ NotAProgram rule)) ⊎ ((rule ≡ rules.NoMemory) × (refusal ≡ NoMemory))

abbrev pub of_report : ReportError → Refusal
of_report (report.Program rule) = NotAProgram rule
of_report report.StillRunning = StillRunning
of_report report.NoCrash = NoCrash
of_report (report.Spent first width) = Spent first width
of_report report.NoMemory = NoMemory

abbrev pub of_read : ReadError → Refusal
of_read (read.Line line) = NotAReport line
of_read read.NoMemory = NoMemory

abbrev pub of_receive : ReceiveError → Refusal
of_receive receive.WrongProgram = WrongProgram
of_receive (receive.Program rule) = NotAProgram rule
of_receive receive.StillRunning = StillRunning
of_receive receive.NoCrash = NoCrash
of_receive (receive.Spent first width) = Spent first width
of_receive (receive.Differs line) = Differs line
of_receive receive.NoMemory = NoMemory

-- ---- statuses and lines

abbrev pub status_of : Refusal → ℕ
status_of NoMemory = 1
status_of Usage = 2
status_of (CannotRead role) = 3
status_of (TooLong role) = 5
status_of (NotAProgram rule) = 6
status_of NoCrash = 7
status_of StillRunning = 8
status_of (Spent first width) = 9
status_of (NotAReport line) = 10
status_of WrongProgram = 11
status_of (Differs line) = 12

abbrev pub role_name : Role → List ℕ
role_name Program = codes "program"
role_name Input = codes "input"
role_name Report = codes "report"

-- a rule of ELF files by its number and its name; want of memory is no rule
unfoldable pub rule_name : ElfError → List ℕ
rule_name rules.Short = codes "E1 short"
rule_name rules.NotElf = codes "E2 not-elf"
rule_name rules.Class = codes "E3 class"
rule_name rules.Data = codes "E4 data"
rule_name rules.Kind = codes "E5 kind"
rule_name rules.Machine = codes "E6 machine"
rule_name rules.Flags = codes "E7 flags"
rule_name rules.Table = codes "E8 table"
rule_name rules.Dynamic = codes "E9 dynamic"
rule_name rules.Segment = codes "E10 segment"
rule_name rules.Overlap = codes "E11 overlap"
rule_name rules.TooBig = codes "E12 too-big"
rule_name rules.Entry = codes "E13 entry"
rule_name rules.NoMemory = []

unfoldable pub message_of : Refusal → List ℕ
message_of NoMemory = codes "no memory"
message_of Usage = codes "usage: crash_cli ACTION FIRST SECOND [--seed N] [--steps N] [--conflicts N]"
message_of (CannotRead role) = codes "cannot read " ++ role_name role
message_of (TooLong role) = role_name role ++ codes " too long"
message_of (NotAProgram rule) = codes "not a program: " ++ rule_name rule
message_of NoCrash = codes "no crash"
message_of StillRunning = codes "still running"
message_of (Spent first width) = codes "conflicts spent: first " ++ decimal first ++ codes " width " ++ decimal width
message_of (NotAReport line) = codes "not a report: line " ++ decimal line
message_of WrongProgram = codes "wrong program"
message_of (Differs line) = codes "differs: line " ++ decimal line

-- the line on err
abbrev pub line_of : Refusal → List ℕ
line_of refusal = message_of refusal ++ 10 ∷ []

-- the line on err where a write to out failed
abbrev pub write_line : List ℕ
write_line = codes "cannot write" ++ 10 ∷ []

-- a refusal that is given: one for a file's rule names one of the thirteen
abbrev pub IsGiven : Refusal → Type 0
IsGiven (NotAProgram rule) = rule ≢ rules.NoMemory
IsGiven _ = Unit {0}

-- a line that may stand on err at this status
abbrev pub IsLineOf : ℕ → List ℕ → Type 0
IsLineOf given line =
    ((given ≡ 4) × (line ≡ write_line)) ⊎ ((refusal : Refusal) × IsGiven refusal × (given ≡ status_of refusal) × (line ≡ line_of refusal))

-- the status of an answer, and what it puts on out and on err
abbrev pub status : Answer → ℕ
status (Ok bytes) = 0
status (Err refusal) = status_of refusal

abbrev pub out_of : Answer → List ℕ
out_of (Ok bytes) = bytes
out_of (Err refusal) = []

abbrev pub err_of : Answer → List ℕ
err_of (Ok bytes) = []
err_of (Err refusal) = line_of refusal
