-- From the parts of a demonstration's summary to the whole.
use Rattle.std.proofs.Common.{◌≡◌, ◌∙◌, ℕ, ◌⊎◌, List, ◌++◌, ◌∷◌, [], Result, Ok, Err, sym, ap, ap₂, inl, inr}
use Rattle.std.proofs.lemmas.Grind.{flat_map-append}
use Rattle.report_format.specs.Text.{revealed_line, joined}
use Rattle.rv_assemble.specs.declared.demo.DemoKind.{DemoKind}
use Rattle.rv_assemble.specs.Parts.{IsFile}
use Rattle.rv_assemble.specs.Demo.{demo_code, demo_regions, demo_input}
use Rattle.tool_words.specs.declared.words.Options.{Options}
use Rattle.crash_tool.specs.declared.answer.Refusal.{Refusal}
use Rattle.crash_tool.specs.declared.answer.Refusal.TheVariants.{NoMemory}
use Rattle.crash_tool.specs.Call.{IsBut}
use Rattle.report_maker.specs.Made.{Made}
use Rattle.crash_tool.specs.Made.{made, transcript_under}
use Rattle.crash_tool.specs.Demo.{case_lines, cost_lines, summary, summed, IsDemoAnswer}

-- the lines of the two parts are those of the summary
pub summary-parts : (kind : DemoKind) (size : ℕ) (what : Made) (bytes case cost revealed : List ℕ) → bytes ≡ case ++ cost → case ≡ joined (case_lines kind size what.report.steps)
    → cost ≡ joined (cost_lines what.groups what.conflicts revealed) → revealed ≡ revealed_line what.report.sets what.report.input → bytes ≡ summary kind size what
unfolding summary
summary-parts kind size what bytes case cost revealed is is_case is_cost is_revealed =
    is ∙ ap₂ (λ a b. a ++ b) is_case (is_cost ∙ ap (λ line. joined (cost_lines what.groups what.conflicts line)) is_revealed)
    ∙ sym (flat_map-append (λ line. line ++ 10 ∷ []) (case_lines kind size what.report.steps) (cost_lines what.groups what.conflicts (revealed_line what.report.sets what.report.input)))

module _ (kind : DemoKind) (size : ℕ) (o : Options) (file program input : List ℕ) (is_file : IsFile (demo_code kind size) (demo_regions size) file) (is_program : program ≡ file)
    (is_input : input ≡ demo_input kind size) where
  -- what is made of the case is what is made of the demonstration
  of-case : (what : Result Made Refusal) → made program o (transcript_under program o input) ≡ what → made file o (transcript_under file o (demo_input kind size)) ≡ what
  of-case what is = sym (ap₂ (λ p x. made p o (transcript_under p o x)) is_program is_input) ∙ is

  pub demo-summed : (what : Made) (text : List ℕ) → made program o (transcript_under program o input) ≡ Ok what → text ≡ summary kind size what → IsDemoAnswer kind size o (Ok text)
  demo-summed what text is told = record { program = file; file = is_file; same = ap Ok told ∙ sym (ap (summed kind size) (of-case (Ok what) is)) }

  pub demo-refused : (r : Refusal) → (made program o (transcript_under program o input) ≡ Err r) ⊎ (r ≡ NoMemory) → IsBut (IsDemoAnswer kind size o) (Err r)
  demo-refused r (inl is) = inl (record { program = file; file = is_file; same = sym (ap (summed kind size) (of-case (Err r) is)) })
  demo-refused r (inr is) = inr (ap Err is)
