-- The summary of a demonstration.
use Rattle.std.specs.Prelude.{◌≡◌, ℕ, List, [], ◌∷◌, ◌++◌, codes, Result, Ok, Err}
use Rattle.std.specs.Fmt.{decimal}
use Rattle.rv_assemble.specs.declared.demo.DemoKind.{DemoKind}
use Rattle.rv_assemble.specs.declared.demo.DemoKind.TheVariants.{Single, Triple}
use Rattle.rv_assemble.specs.Parts.{IsFile}
use Rattle.rv_assemble.specs.Demo.{demo_code, demo_regions, demo_input}
use Rattle.report_format.specs.Text.{steps_line, revealed_line, joined}
use Rattle.tool_words.specs.declared.words.Options.{Options}
use Rattle.crash_tool.specs.declared.answer.Refusal.{Refusal}
use Rattle.crash_tool.specs.Refusals.{Answer}
use Rattle.report_maker.specs.Made.{Made}
use Rattle.crash_tool.specs.Made.{made, transcript_under}

abbrev pub kind_line : DemoKind → List ℕ
kind_line Single = codes "demo single"
kind_line Triple = codes "demo triple"

-- the demonstration, and the steps of its run
abbrev pub case_lines : DemoKind → ℕ → ℕ → List (List ℕ)
case_lines kind size steps = kind_line kind ∷ (codes "bytes " ++ decimal size) ∷ steps_line steps ∷ []

-- the numbers of groups and of conflicts, and the line of the bits that the report reveals
abbrev pub cost_lines : ℕ → ℕ → List ℕ → List (List ℕ)
cost_lines groups conflicts revealed = (codes "groups " ++ decimal groups) ∷ (codes "conflicts " ++ decimal conflicts) ∷ revealed ∷ []

unfoldable pub summary : DemoKind → ℕ → Made → List ℕ
summary kind size what =
    joined (case_lines kind size what.report.steps ++ cost_lines what.groups what.conflicts (revealed_line what.report.sets what.report.input))

-- the summary of what was made, or why there is none
abbrev pub summed : DemoKind → ℕ → Result Made Refusal → Answer
summed kind size (Ok what) = Ok (summary kind size what)
summed kind size (Err refusal) = Err refusal

-- the summary of what is made of a demonstration's file and its input
pub record IsDemoAnswer (kind : DemoKind) (size : ℕ) (o : Options) (answer : Answer) : Type 0 where
  pub program : List ℕ
  pub file : IsFile (demo_code kind size) (demo_regions size) program
  pub same : answer ≡ summed kind size (made program o (transcript_under program o (demo_input kind size)))
