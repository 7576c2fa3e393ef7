-- What is made of a program and a run: a report and what its search took, or why there is none.
use Rattle.std.specs.Prelude.{ℕ, List, Option, Some, None, Result, Ok, Err}
use Rattle.elf32.specs.declared.error.ElfError.{ElfError}
use Rattle.elf32.specs.Rules.{refusal}
use Rattle.elf32.specs.Loads.{loaded_program}
use Rattle.rv_event.specs.declared.event.End.{End}
use Rattle.rv_event.specs.declared.event.End.TheVariants as ends
use Rattle.rv_event.specs.declared.event.Trap.{Trap}
use Rattle.rv_event.specs.declared.transcript.Transcript.{Transcript}
use Rattle.report_format.specs.Text.{Content, content_of}
use Rattle.report_laws.specs.Made.{number_of_groups, number_of_conflicts, spent_of, report_of}
use Rattle.report_maker.specs.declared.error.ReportError.{ReportError}
use Rattle.report_maker.specs.declared.error.ReportError.TheVariants.{Program, StillRunning, NoCrash, Spent}
use Rattle.report_maker.specs.declared.maker.Made.{Made as RawMade}

-- a report, the number of groups of its bytes, and how many conflicts the searches counted
pub record Made : Type 0 where
  pub report : Content
  pub groups : ℕ
  pub conflicts : ℕ

-- the same as it lies in memory
abbrev pub made_value : RawMade → Made
made_value made = record { report = content_of made.report; groups = made.groups; conflicts = made.conflicts }

-- of a run that ended in a trap, by the first group of bytes that spends the conflicts
abbrev pub by_spent : List ℕ → ℕ → ℕ → Transcript → Trap → Option (ℕ × ℕ) → Result Made ReportError
by_spent p seed steps t trap (Some group) = Err (Spent group.0 group.1)
by_spent p seed steps t trap None = Ok (record {
  report = report_of p seed steps t trap;
  groups = number_of_groups (loaded_program p) t;
  conflicts = number_of_conflicts (loaded_program p) seed t;
})

abbrev pub by_end : List ℕ → ℕ → ℕ → ℕ → Transcript → End → Result Made ReportError
by_end p seed steps conflicts t ends.Limit = Err StillRunning
by_end p seed steps conflicts t (ends.Exit code) = Err NoCrash
by_end p seed steps conflicts t (ends.Trap trap) = by_spent p seed steps t trap (spent_of (loaded_program p) seed t conflicts)

-- of a program that breaks a rule, or of a run
abbrev pub by_rule : List ℕ → ℕ → ℕ → ℕ → Transcript → Option ElfError → Result Made ReportError
by_rule p seed steps conflicts t (Some rule) = Err (Program rule)
by_rule p seed steps conflicts t None = by_end p seed steps conflicts t t.end

-- What is made of a program and a trace, under a seed, a limit of steps and a budget of conflicts: of the input the trace alone
-- is given.
unfoldable pub made : List ℕ → ℕ → ℕ → ℕ → Transcript → Result Made ReportError
made p seed steps conflicts t = by_rule p seed steps conflicts t (refusal p)
