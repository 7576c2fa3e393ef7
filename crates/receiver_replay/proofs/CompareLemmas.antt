-- A report compared with the one that is made anew.
use Rattle.std.proofs.Common.{◌≡◌, ◌∙◌, ◌<◌, ◌⊎◌, Fits, w8, get_or, ℕ, true, false, List, length, Option, None, Ok, Err, refl, sym, ap, subst, inl, inr, arith, All}
use Rattle.std.specs.Prelude.{nat_eq}
use Rattle.std.proofs.lemmas.Bool.{and_parts, eqb-true}
use Rattle.std.proofs.lemmas.List.{get_or_default}
use Rattle.elf32.specs.Rules.{refusal}
use Rattle.elf32.specs.Loads.{loaded_program}
use Rattle.rv_event.specs.declared.event.End.TheVariants as ends
use Rattle.rv_event.specs.declared.event.Trap.{Trap}
use Rattle.rv_machine.specs.Trace.{transcript_of}
use Rattle.report_format.specs.Text.{Content, IsReport, lines}
use Rattle.report_laws.specs.Made.{report_of}
use Rattle.report_maker.specs.declared.error.ReportError.{ReportError}
use Rattle.report_maker.specs.declared.error.ReportError.TheVariants as report
use Rattle.report_maker.specs.Errors.{NamesRule as NamesItsRule}
use Rattle.report_maker.specs.Made.{Made, made}
use Rattle.report_maker.proofs.RunLemmas.{of-crash}
use Rattle.report_text_laws.proofs.Lines.{lines-tell}
use Rattle.receiver_replay.specs.declared.error.ReceiveError.{ReceiveError}
use Rattle.receiver_replay.specs.declared.error.ReceiveError.TheVariants.{WrongProgram}
use Rattle.receiver_replay.specs.Difference.{first_difference}
use Rattle.receiver_replay.specs.Errors.{error_of}
use Rattle.receiver_replay.specs.Received.{is_its_program, its_run, by_difference, by_made, checked, IsBut, NamesRule}
use Rattle.receiver_replay.specs.Right.{IsRight}
use Rattle.receiver_replay.proofs.DifferenceLemmas.{same_lines}

-- the numbers of a slice of bytes
pub are_bytes : (xs : List ℕ) → ((i : ℕ) → Fits w8 (get_or xs i 0)) → All (λ byte. byte < 256) xs
are_bytes xs fits k d l = let f : Fits w8 (get_or xs k 0) = fits k in let e : get_or xs k d ≡ get_or xs k 0 = get_or_default xs k d 0 l in omega arith

-- the file has the length that the report says
pub has_its_length : (p : List ℕ) (r : Content) → is_its_program p r ≡ true → length p ≡ r.length
has_its_length p r its = eqb-true (length p) r.length (and_parts (nat_eq (length p) r.length) _ its).0

-- a rule that is named is one of the thirteen
pub names_rule : (e : ReportError) → NamesItsRule e → NamesRule (error_of e)
names_rule (report.Program rule) names = names
names_rule report.StillRunning names = tt
names_rule report.NoCrash names = tt
names_rule (report.Spent first width) names = tt
names_rule report.NoMemory names = tt

module _ (p : List ℕ) (r : Content) (steps conflicts : ℕ) where
  -- another program
  pub another : is_its_program p r ≡ false → IsBut (checked p r steps conflicts) (Err WrongProgram)
  unfolding checked
  another other = inl (sym (rw other refl))

  module _ (its : is_its_program p r ≡ true) where
    by_what_is_made : checked p r steps conflicts ≡ by_made r (made p r.seed steps conflicts (its_run p r steps))
    unfolding checked
    by_what_is_made = rw its refl

    -- no report is made
    pub not_made : (e : ReportError) (error : ReceiveError) → error ≡ error_of e → (made p r.seed steps conflicts (its_run p r steps) ≡ Err e) ⊎ (e ≡ report.NoMemory)
        → IsBut (checked p r steps conflicts) (Err error)
    not_made e error same (inl is) = inl (ap Err same ∙ sym (by_what_is_made ∙ ap (by_made r) is))
    not_made e error same (inr wanted) = inr (ap Err (same ∙ ap error_of wanted))

    module _ (what : Made) (is : made p r.seed steps conflicts (its_run p r steps) ≡ Ok what) where
      pub compared : (line : Option ℕ) → line ≡ first_difference 1 (lines r) (lines what.report) → checked p r steps conflicts ≡ by_difference line
      compared line found = by_what_is_made ∙ ap (by_made r) is ∙ ap by_difference (sym found)

      -- a report without a difference is the one that the run gives
      pub right : All (λ b. b < 256) r.input → IsReport r → IsReport what.report → None ≡ first_difference 1 (lines r) (lines what.report)
          → ((x : List ℕ) (trap : Trap) → All (λ b. b < 256) x → refusal p ≡ None → (transcript_of (loaded_program p) x steps).end ≡ ends.Trap trap
          → IsRight p (report_of p r.seed steps (transcript_of (loaded_program p) x steps) trap) steps) → IsRight p r steps
      right low is-r is-what none law =
          let parts = of-crash p r.seed steps conflicts (its_run p r steps) what is in
          let same : r ≡ what.report = lines-tell r what.report is-r is-what (same_lines 1 (lines r) (lines what.report) (sym none)) in
          subst (λ c. IsRight p c steps) (sym (same ∙ parts.report)) (law r.input parts.trap low parts.unbroken parts.end)
