-- The answer that a program, the options, the input's length and the trace fix.
use Rattle.std.specs.Prelude.{ℕ, List, length, Result, Ok, Err, nat_lt, if◌then◌else◌}
use Rattle.rv_event.specs.declared.transcript.Transcript.{Transcript}
use Rattle.report_format.specs.Text.{text}
use Rattle.tool_words.specs.declared.words.Options.{Options}
use Rattle.crash_tool.specs.declared.answer.Role.TheVariants.{Program, Input}
use Rattle.crash_tool.specs.declared.answer.Refusal.{Refusal}
use Rattle.crash_tool.specs.declared.answer.Refusal.TheVariants.{TooLong}
use Rattle.crash_tool.specs.Refusals.{Answer}
use Rattle.report_maker.specs.Made.{Made}
use Rattle.crash_tool.specs.Made.{made}

-- the text of the report that was made, or why there is none
abbrev pub written : Result Made Refusal → Answer
written (Ok what) = Ok (text what.report)
written (Err refusal) = Err refusal

-- The outcome: of the input it is given the length and the trace alone.
unfoldable pub outcome : List ℕ → Options → ℕ → Transcript → Answer
outcome p o n t =
    if nat_lt 16777216 (length p) then Err (TooLong Program)
    else if nat_lt 65536 n then Err (TooLong Input)
    else written (made p o t)
