-- What is made of a program and a run under the options: a report and what its search took, or the refusal that stands for it.
use Rattle.std.specs.Prelude.{ℕ, List, Result, Ok, Err}
use Rattle.elf32.specs.Loads.{loaded_program}
use Rattle.rv_event.specs.declared.transcript.Transcript.{Transcript}
use Rattle.rv_machine.specs.Trace.{transcript_of}
use Rattle.report_maker.specs.declared.error.ReportError.{ReportError}
use Rattle.report_maker.specs.Made.{Made, made as made_under}
use Rattle.tool_words.specs.declared.words.Options.{Options}
use Rattle.crash_tool.specs.declared.answer.Refusal.{Refusal}
use Rattle.crash_tool.specs.Refusals.{of_report}

-- why there is none, as a refusal
abbrev pub or_refusal : Result Made ReportError → Result Made Refusal
or_refusal (Ok what) = Ok what
or_refusal (Err error) = Err (of_report error)

-- What is made: of the input the trace alone is given.
unfoldable pub made : List ℕ → Options → Transcript → Result Made Refusal
made p o t = or_refusal (made_under p o.seed o.steps o.conflicts t)

-- the trace of a program on an input, under the options
abbrev pub transcript_under : List ℕ → Options → List ℕ → Transcript
transcript_under p o x = transcript_of (loaded_program p) x o.steps
