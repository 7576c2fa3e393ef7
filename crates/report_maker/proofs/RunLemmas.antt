-- From the parts of a run to what is made of it, and back.
use Rattle.std.proofs.Common.{◌≡◌, ◌≢◌, ◌∙◌, ◌≤◌, ◌⊎◌, ℕ, List, length, Option, Some, None, Result, Ok, Err, refl, sym, ap, arith, subst, inl, inr}
use Rattle.elf32.specs.declared.error.ElfError.{ElfError}
use Rattle.elf32.specs.declared.error.ElfError.TheVariants as rules
use Rattle.elf32.specs.declared.image.Image.{Image}
use Rattle.elf32.specs.Rules.{refusal}
use Rattle.elf32.specs.Loads.{Program, loaded_program, program_of}
use Rattle.elf32.proofs.Accepted.{same_program}
use Rattle.rv_event.specs.declared.event.Trap.{Trap}
use Rattle.rv_event.specs.declared.event.End.{End}
use Rattle.rv_event.specs.declared.event.End.TheVariants as ends
use Rattle.rv_event.specs.declared.transcript.Transcript.{Transcript}
use Rattle.rv_machine.specs.Trace.{transcript_of}
use Rattle.report_format.specs.Text.{content_of}
use Rattle.term_model.specs.Words.{AreBytes}
use Rattle.term_model.proofs.ByteLemmas.{bytes_within}
use Rattle.replay_law.specs.Crash.{IsCrash}
use Rattle.report_laws.specs.Made.{number_of_groups, number_of_conflicts, spent_of, report_of}
use Rattle.report_laws.proofs.ClassLemmas.{length_told}
use Rattle.report_laws.proofs.RangeLemmas.{crash}
use Rattle.report_maker.specs.declared.error.MakeError.{MakeError}
use Rattle.report_maker.specs.declared.error.MakeError.TheVariants as make
use Rattle.report_maker.specs.declared.error.ReportError.{ReportError}
use Rattle.report_maker.specs.declared.error.ReportError.TheVariants.{Spent, NoMemory}
use Rattle.report_maker.specs.declared.maker.Made.{Made as RawMade}
use Rattle.report_maker.specs.Errors.{of_make, IsOfRule}
use Rattle.report_maker.specs.Made.{Made, made_value, made, by_rule, by_end, by_spent}

-- a file that is refused, unless memory was wanting
pub made-refused : (p : List ℕ) (seed steps conflicts : ℕ) (t : Transcript) (rule : ElfError) (error : ReportError) → IsOfRule rule error → (rule ≢ rules.NoMemory → refusal p ≡ Some rule)
    → (made p seed steps conflicts t ≡ Err error) ⊎ (error ≡ NoMemory)
unfolding made
made-refused p seed steps conflicts t rule error (inl is) broken = inl (ap (by_rule p seed steps conflicts t) (broken is.0) ∙ sym (ap Err is.1))
made-refused p seed steps conflicts t rule error (inr is) broken = inr is.1

-- ---- runs

-- the trace of an image is the trace of the file that it was read from
pub trace-of-image : (p x : List ℕ) (limit : ℕ) (image : Image) (t : Transcript) → image.entry ≡ (loaded_program p).entry → image.segments ≡ (loaded_program p).segments
    → t ≡ transcript_of (program_of image) x limit → t ≡ transcript_of (loaded_program p) x limit
trace-of-image p x limit image t is_entry is_segments is = subst (λ program. t ≡ transcript_of program x limit) (same_program image p is_entry is_segments) is

pub length-of-run : (program : Program) (x : List ℕ) (limit : ℕ) (t : Transcript) → t ≡ transcript_of program x limit → length x ≤ 65536 → t.n ≤ 65536
length-of-run program x limit t is few = let told = length_told program limit x t is in omega (arith, told, few)

-- a run that ended in a trap is a crash
crash-of-run : (p x : List ℕ) (steps : ℕ) (t : Transcript) (trap : Trap) → AreBytes x → t ≡ transcript_of (loaded_program p) x steps → t.end ≡ ends.Trap trap → IsCrash (loaded_program p) steps x t
crash-of-run p x steps t trap bytes run is =
    subst (IsCrash (loaded_program p) steps x) (sym run) (crash (loaded_program p) steps x trap (bytes_within x bytes) (sym (ap (λ (u : Transcript). u.end) run) ∙ is))

-- what the maker needs to know of a run
pub crash-of : (p x : List ℕ) (steps : ℕ) (t : Transcript) (trap : Trap) → AreBytes x → t ≡ transcript_of (loaded_program p) x steps → t.end ≡ ends.Trap trap
    → (limit : ℕ) × (y : List ℕ) × IsCrash (loaded_program p) limit y t
crash-of p x steps t trap bytes run is = (steps, x, crash-of-run p x steps t trap bytes run is)

-- ---- what is made

module _ (p : List ℕ) (seed steps conflicts : ℕ) (t : Transcript) (kept : refusal p ≡ None) where
  -- it goes by the end of the run
  made-by-end : (end : End) → t.end ≡ end → made p seed steps conflicts t ≡ by_end p seed steps conflicts t end
  unfolding made
  made-by-end end is = ap (by_rule p seed steps conflicts t) kept ∙ ap (by_end p seed steps conflicts t) is

  -- of a crash, where no group spends the conflicts
  pub made-of-crash : (trap : Trap) → t.end ≡ ends.Trap trap → spent_of (loaded_program p) seed t conflicts ≡ None
      → made p seed steps conflicts t ≡ Ok (record { report = report_of p seed steps t trap; groups = number_of_groups (loaded_program p) t; conflicts = number_of_conflicts (loaded_program p) seed t })
  made-of-crash trap is unspent = made-by-end (ends.Trap trap) is ∙ ap (by_spent p seed steps t trap) unspent

  -- and where one does
  made-of-spent : (trap : Trap) (first width : ℕ) → t.end ≡ ends.Trap trap → spent_of (loaded_program p) seed t conflicts ≡ Some (first, width)
      → made p seed steps conflicts t ≡ Err (Spent first width)
  made-of-spent trap first width is spent = made-by-end (ends.Trap trap) is ∙ ap (by_spent p seed steps t trap) spent

module _ (p x : List ℕ) (seed steps conflicts : ℕ) (t : Transcript) (kept : refusal p ≡ None) (run : t ≡ transcript_of (loaded_program p) x steps) where
  pub made-of-end : (end : End) → t.end ≡ end → made p seed steps conflicts (transcript_of (loaded_program p) x steps) ≡ by_end p seed steps conflicts t end
  made-of-end end is = ap (made p seed steps conflicts) (sym run) ∙ made-by-end p seed steps conflicts t kept end is

  -- a report that was made
  pub made-of-report : (trap : Trap) (what : RawMade) → AreBytes x → t.end ≡ ends.Trap trap
      → ((limit : ℕ) (y : List ℕ) (other : Trap) → IsCrash (loaded_program p) limit y t → t.end ≡ ends.Trap other → content_of what.report ≡ report_of p seed limit t other)
      → what.groups ≡ number_of_groups (loaded_program p) t → what.conflicts ≡ number_of_conflicts (loaded_program p) seed t → spent_of (loaded_program p) seed t conflicts ≡ None
      → made p seed steps conflicts (transcript_of (loaded_program p) x steps) ≡ Ok (made_value what)
  made-of-report trap what bytes is report groups conflicts_are unspent =
      ap (made p seed steps conflicts) (sym run) ∙ made-of-crash p seed steps conflicts t kept trap is unspent
      ∙ (λ i. Ok (record { report = sym (report steps x trap (crash-of-run p x steps t trap bytes run is) is) i; groups = sym groups i; conflicts = sym conflicts_are i }))

  -- a report that was not made
  pub made-of-error : (trap : Trap) (e : MakeError) (error : ReportError) → t.end ≡ ends.Trap trap → error ≡ of_make e
      → ((first width : ℕ) → ◌≡◌ {A = Result RawMade MakeError} (Err e) (Err (make.Spent first width)) → spent_of (loaded_program p) seed t conflicts ≡ Some (first, width))
      → (made p seed steps conflicts (transcript_of (loaded_program p) x steps) ≡ Err error) ⊎ (error ≡ NoMemory)
  made-of-error trap (make.Spent first width) error is same spent =
      inl (ap (made p seed steps conflicts) (sym run) ∙ made-of-spent p seed steps conflicts t kept trap first width is (spent first width refl) ∙ sym (ap Err same))
  made-of-error trap make.NoMemory error is same spent = inr same

-- ---- back from what was made

pub record IsOfCrash (p : List ℕ) (seed steps conflicts : ℕ) (t : Transcript) (what : Made) : Type 0 where
  pub unbroken : refusal p ≡ None
  pub trap : Trap
  pub end : t.end ≡ ends.Trap trap
  pub unspent : spent_of (loaded_program p) seed t conflicts ≡ None
  pub report : what.report ≡ report_of p seed steps t trap

module _ (p : List ℕ) (seed steps conflicts : ℕ) (t : Transcript) (what : Made) where
  by-spent : (trap : Trap) (group : Option (ℕ × ℕ)) → refusal p ≡ None → t.end ≡ ends.Trap trap → spent_of (loaded_program p) seed t conflicts ≡ group
      → by_spent p seed steps t trap group ≡ Ok what → IsOfCrash p seed steps conflicts t what
  by-spent trap (Some group) unbroken end spent is = cc
  by-spent trap None unbroken end spent is = record {
    unbroken = unbroken;
    trap = trap;
    end = end;
    unspent = spent;
    report =
        let same : ◌≡◌ {A = Made} (record { report = report_of p seed steps t trap; groups = number_of_groups (loaded_program p) t; conflicts = number_of_conflicts (loaded_program p) seed t }) what = cc in
        ap (λ (m : Made). m.report) (sym same);
  }

  by-end : (end : End) → refusal p ≡ None → t.end ≡ end → by_end p seed steps conflicts t end ≡ Ok what → IsOfCrash p seed steps conflicts t what
  by-end ends.Limit unbroken end is = cc
  by-end (ends.Exit code) unbroken end is = cc
  by-end (ends.Trap trap) unbroken end is = by-spent trap (spent_of (loaded_program p) seed t conflicts) unbroken end refl is

  by-rule : (rule : Option ElfError) → refusal p ≡ rule → by_rule p seed steps conflicts t rule ≡ Ok what → IsOfCrash p seed steps conflicts t what
  by-rule (Some rule) broken is = cc
  by-rule None unbroken is = by-end t.end unbroken refl is

  -- a report was made of a program that breaks no rule, and of a crash of which no group spends the conflicts
  pub of-crash : made p seed steps conflicts t ≡ Ok what → IsOfCrash p seed steps conflicts t what
  unfolding made
  of-crash is = by-rule (refusal p) refl is
