-- From what is made to the answer.
use Rattle.std.proofs.Common.{◌≡◌, ◌≢◌, ◌∙◌, ◌≤◌, ◌⊎◌, ℕ, List, length, Option, Some, Ok, Err, refl, sym, ap, le-ltb, subst, inl, inr}
use Rattle.elf32.specs.declared.error.ElfError.{ElfError}
use Rattle.elf32.specs.declared.error.ElfError.TheVariants as rules
use Rattle.elf32.specs.Rules.{refusal}
use Rattle.rv_event.specs.declared.transcript.Transcript.{Transcript}
use Rattle.report_maker.specs.declared.error.ReportError.{ReportError}
use Rattle.report_maker.specs.declared.error.ReportError.TheVariants as report
use Rattle.report_maker.specs.Errors.{NamesRule}
use Rattle.report_maker.specs.Made.{Made, made as made_under}
use Rattle.tool_words.specs.declared.words.Options.{Options}
use Rattle.crash_tool.specs.declared.answer.Refusal.{Refusal}
use Rattle.crash_tool.specs.declared.answer.Refusal.TheVariants.{NoMemory, NotAProgram}
use Rattle.crash_tool.specs.Refusals.{Answer, IsOfRule, of_report}
use Rattle.crash_tool.specs.Call.{IsBut, IsOfFiles}
use Rattle.crash_tool.specs.Made.{or_refusal, made}
use Rattle.crash_tool.specs.Outcome.{outcome, written}

-- ---- a file that breaks a rule

-- want of memory, or a rule of files, is a refusal that comes of files
pub rule-of-files : (rule : ElfError) (r : Refusal) → IsOfRule rule r → IsOfFiles r
rule-of-files rule r (inl is) = subst IsOfFiles (sym is.1) is.0
rule-of-files rule r (inr is) = subst IsOfFiles (sym is.1) tt

-- a file that is refused, unless memory was wanting
pub by-refused : (of : Option ElfError → Answer) (p : List ℕ) (rule : ElfError) (r : Refusal) → IsOfRule rule r → (rule ≢ rules.NoMemory → refusal p ≡ Some rule)
    → ((e : ElfError) → of (Some e) ≡ Err (NotAProgram e)) → IsBut (λ answer. answer ≡ of (refusal p)) (Err r)
by-refused of p rule r (inl is) broken refuses = inl (ap Err is.1 ∙ sym (ap of (broken is.0) ∙ refuses rule))
by-refused of p rule r (inr is) broken refuses = inr (ap Err is.1)

-- ---- what is made

pub report-was-made : (p : List ℕ) (o : Options) (t : Transcript) (what : Made) → made_under p o.seed o.steps o.conflicts t ≡ Ok what → made p o t ≡ Ok what
unfolding made
report-was-made p o t what is = ap or_refusal is

pub report-was-refused : (p : List ℕ) (o : Options) (t : Transcript) (error : ReportError) (r : Refusal) → r ≡ of_report error
    → (made_under p o.seed o.steps o.conflicts t ≡ Err error) ⊎ (error ≡ report.NoMemory) → (made p o t ≡ Err r) ⊎ (r ≡ NoMemory)
unfolding made
report-was-refused p o t error r same (inl is) = inl (ap or_refusal is ∙ sym (ap Err same))
report-was-refused p o t error r same (inr wanted) = inr (same ∙ ap of_report wanted)

-- what is refused comes of files
pub report-of-files : (error : ReportError) (r : Refusal) → r ≡ of_report error → NamesRule error → IsOfFiles r
report-of-files (report.Program rule) r same names = subst IsOfFiles (sym same) names
report-of-files report.StillRunning r same names = subst IsOfFiles (sym same) tt
report-of-files report.NoCrash r same names = subst IsOfFiles (sym same) tt
report-of-files (report.Spent first width) r same names = subst IsOfFiles (sym same) tt
report-of-files report.NoMemory r same names = subst IsOfFiles (sym same) tt

-- ---- the outcome

-- within the limits the outcome is the text of what is made
pub outcome-within : (p : List ℕ) (o : Options) (n : ℕ) (t : Transcript) → length p ≤ 16777216 → n ≤ 65536 → outcome p o n t ≡ written (made p o t)
unfolding outcome
outcome-within p o n t short few = rw (le-ltb 16777216 (length p) short, le-ltb 65536 n few) refl

pub refused-outcome : (p : List ℕ) (o : Options) (n : ℕ) (t : Transcript) (r : Refusal) → length p ≤ 16777216 → n ≤ 65536 → (made p o t ≡ Err r) ⊎ (r ≡ NoMemory)
    → IsBut (λ answer. answer ≡ outcome p o n t) (Err r)
refused-outcome p o n t r short few (inl is) = inl (sym (outcome-within p o n t short few ∙ ap written is))
refused-outcome p o n t r short few (inr is) = inr (ap Err is)
