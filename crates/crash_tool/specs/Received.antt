-- The answers to a receiver, who has a program and the text of a report.
use Rattle.std.specs.Prelude.{◌≡◌, ℕ, List, [], ◌∷◌, ◌++◌, codes, Result, Ok, Err}
use Rattle.rv_event.specs.declared.transcript.Transcript.{Transcript}
use Rattle.rv_machine.specs.declared.trace.Run.{Run}
use Rattle.report_format.specs.Text.{Content}
use Rattle.report_format.specs.Reading.{IsTextOf, FailsAt}
use Rattle.receiver_replay.specs.declared.error.ReceiveError.{ReceiveError}
use Rattle.receiver_replay.specs.Received.{its_run, replayed, checked}
use Rattle.receiver_replay.specs.Right.{IsRight}
use Rattle.crash_tool.specs.Refusals.{Answer, of_receive}
use Rattle.crash_tool.specs.declared.answer.Refusal.TheVariants.{NotAReport}
use Rattle.tool_words.specs.declared.words.Options.{Options}
use Rattle.crash_tool.specs.RunText.{run_text}

-- what bytes say as the text of a report, or the line at which they are none
abbrev pub IsReading : List ℕ → Result Content ℕ → Type 0
IsReading bytes (Ok report) = IsTextOf report bytes
IsReading bytes (Err line) = FailsAt line bytes

-- an answer by what bytes say as the text of a report
pub record IsByReading (answer_of : Result Content ℕ → Answer) (bytes : List ℕ) (answer : Answer) : Type 0 where
  pub reading : Result Content ℕ
  pub read : IsReading bytes reading
  pub same : answer ≡ answer_of reading

-- ---- replay

abbrev pub by_replay : Transcript → Result Run ReceiveError → Answer
by_replay t (Err error) = Err (of_receive error)
by_replay t (Ok run) = Ok (run_text t)

-- the text of the run on the report's input, for as many steps as the report says
abbrev pub replay_answer : List ℕ → Result Content ℕ → Answer
replay_answer p (Err line) = Err (NotAReport line)
replay_answer p (Ok report) = by_replay (its_run p report report.steps) (replayed p report)

-- ---- check

abbrev pub check_line : List ℕ
check_line = codes "check ok" ++ 10 ∷ []

abbrev pub by_check : Result (Unit {0}) ReceiveError → Answer
by_check (Err error) = Err (of_receive error)
by_check (Ok tt) = Ok check_line

-- one line where the report is the one that the run on its own input gives, under its own seed and the options' limits
abbrev pub check_answer : List ℕ → Options → Result Content ℕ → Answer
check_answer p o (Err line) = Err (NotAReport line)
check_answer p o (Ok report) = by_check (checked p report o.steps o.conflicts)

-- the bytes are the text of a report, and all that it says is right
abbrev pub IsAccepted : List ℕ → Options → List ℕ → Type 0
IsAccepted p o bytes = (report : Content) × IsTextOf report bytes × IsRight p report o.steps
