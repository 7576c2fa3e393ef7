-- What make writes is the text of a report that is accepted.
use Rattle.std.proofs.Common.{◌≡◌, ◌∙◌, ◌≤◌, ◌<◌, ◌^◌, ℕ, Bool, true, false, List, length, nat_lt, Some, None, Result, Ok, Err, refl, sym, ap, subst, arith, le-ltb, All}
use Rattle.std.specs.Prelude.{if◌then◌else◌}
use Rattle.std.proofs.lemmas.Bool.Decides.{nat_tests}
use Rattle.elf32.specs.Rules.{refusal}
use Rattle.elf32.specs.Loads.{loaded_program}
use Rattle.rv_event.specs.declared.event.End.TheVariants as ends
use Rattle.rv_event.specs.declared.event.Trap.{Trap}
use Rattle.rv_event.specs.declared.transcript.Transcript.{Transcript}
use Rattle.rv_machine.specs.Trace.{transcript_of}
use Rattle.fault_io.specs.Files.{Files}
use Rattle.report_format.specs.Text.{Content, IsReport, text}
use Rattle.report_format.specs.Reading.{IsTextOf}
use Rattle.report_laws.specs.Made.{report_of}
use Rattle.report_maker.specs.declared.error.ReportError.{ReportError}
use Rattle.report_maker.specs.Made.{Made, made as made_under}
use Rattle.report_maker.proofs.RunLemmas.{of-crash}
use Rattle.receiver_replay.specs.Received.{checked}
use Rattle.tool_words.specs.declared.words.Options.{Options}
use Rattle.tool_words.specs.declared.words.Action.TheVariants.{Make, Check}
use Rattle.tool_words.specs.Words.{AreWithin, Task}
use Rattle.crash_tool.specs.declared.answer.Refusal.TheVariants.{TooLong}
use Rattle.crash_tool.specs.declared.answer.Role.TheVariants.{Program, Input, Report}
use Rattle.crash_tool.specs.Refusals.{Answer}
use Rattle.crash_tool.specs.Made.{or_refusal, made, transcript_under}
use Rattle.crash_tool.specs.Outcome.{outcome, written}
use Rattle.crash_tool.specs.Answers.{read_of, role_of, IsAnswerOf, IsOfSecond, IsOfProgram, IsDone}
use Rattle.crash_tool.specs.Received.{IsByReading, by_check, check_answer, check_line}
use Rattle.crash_tool.proofs.AnswerLemmas.{make-outcome}

-- ---- where a text was written

record IsWritten (p : List ℕ) (o : Options) (n : ℕ) (t : Transcript) (bytes : List ℕ) : Type 0 where
  short : length p ≤ 16777216
  few : n ≤ 65536
  what : Made
  made_is : made_under p o.seed o.steps o.conflicts t ≡ Ok what
  bytes_are : bytes ≡ text what.report

is_written : (p : List ℕ) (o : Options) (n : ℕ) (t : Transcript) (bytes : List ℕ) → outcome p o n t ≡ Ok bytes → IsWritten p o n t bytes
unfolding outcome made
is_written p o n t bytes is = by (nat_lt 16777216 (length p)) (nat_lt 65536 n) (made_under p o.seed o.steps o.conflicts t) refl refl refl is
  where
    by : (long many : Bool) (result : Result Made ReportError) → nat_lt 16777216 (length p) ≡ long → nat_lt 65536 n ≡ many → made_under p o.seed o.steps o.conflicts t ≡ result
        → ◌≡◌ {A = Answer} (if long then Err (TooLong Program) else if many then Err (TooLong Input) else written (or_refusal result)) (Ok bytes) → IsWritten p o n t bytes
    by true many result el em er is = cc
    by false true result el em er is = cc
    by false false (Err error) el em er is = cc
    by false false (Ok what) el em er is = record { short = grind (arith, nat_tests); few = grind (arith, nat_tests); what = what; made_is = er; bytes_are = cc }

-- ---- and it is accepted

module _ (in_range : (p x : List ℕ) (seed limit : ℕ) (trap : Trap) → All (λ byte. byte < 256) p → All (λ byte. byte < 256) x → refusal p ≡ None → length p ≤ 16777216 → length x ≤ 65536 → limit ≤ 10000000 → seed < 2 ^ 64
    → (transcript_of (loaded_program p) x limit).end ≡ ends.Trap trap → IsReport (report_of p seed limit (transcript_of (loaded_program p) x limit) trap))
    (accepted : (p x : List ℕ) (seed steps conflicts more_steps more_conflicts : ℕ) (what : Made) → All (λ byte. byte < 256) x → made_under p seed steps conflicts (transcript_of (loaded_program p) x steps) ≡ Ok what
    → steps ≤ more_steps → conflicts ≤ more_conflicts → checked p what.report more_steps more_conflicts ≡ Ok tt) where
  module _ (p x bytes : List ℕ) (o more : Options) (low_p : All (λ byte. byte < 256) p) (low : All (λ byte. byte < 256) x) (within : AreWithin o) (steps : o.steps ≤ more.steps) (conflicts : o.conflicts ≤ more.conflicts)
      (is : outcome p o (length x) (transcript_under p o x) ≡ Ok bytes) where
    writes : IsWritten p o (length x) (transcript_under p o x) bytes
    writes = is_written p o (length x) (transcript_under p o x) bytes is

    read : IsTextOf writes.what.report bytes
    read =
        let parts = of-crash p o.seed o.steps o.conflicts (transcript_under p o x) writes.what writes.made_is in record {
          report = subst IsReport (sym parts.report) (in_range p x o.seed o.steps parts.trap low_p low parts.unbroken writes.short writes.few within.steps within.seed parts.end);
          written = writes.bytes_are;
        }

    pub written_is_accepted : IsByReading (check_answer p more) bytes (Ok check_line)
    written_is_accepted = record {
      reading = Ok writes.what.report;
      read = read;
      same = sym (ap by_check (accepted p x o.seed o.steps o.conflicts more.steps more.conflicts writes.what low writes.made_is steps conflicts));
    }

  -- so it is over files that are held
  pub file_is_accepted : ((content : Content) → IsReport content → length (text content) ≤ 8388608) → (p x bytes : List ℕ) (make check : Task) (held later : Files)
      → All (λ byte. byte < 256) p → All (λ byte. byte < 256) x → AreWithin make.options → make.options.steps ≤ check.options.steps → make.options.conflicts ≤ check.options.conflicts
      → make.action ≡ Make → held make.program ≡ Some p → held make.second ≡ Some x → IsDone make held (Ok bytes)
      → check.action ≡ Check → later check.program ≡ Some p → later check.second ≡ Some bytes → IsDone check later (Ok check_line)
  file_is_accepted fits p x bytes make check held later low_p low within steps conflicts is_make is_p is_x done is_check same_p is_bytes =
      let is : outcome p make.options (length x) (transcript_under p make.options x) ≡ Ok bytes = sym (make-outcome make held p x (Ok bytes) done is_make is_p is_x) in
      let short : length p ≤ 16777216 = (writes p x bytes make.options check.options low_p low within steps conflicts is).short in
      let text_of = read p x bytes make.options check.options low_p low within steps conflicts is in
      let few : length bytes ≤ 8388608 = subst (λ (b : List ℕ). length b ≤ 8388608) (sym text_of.written) (fits _ text_of.report) in
      let first : read_of Program (later check.program) ≡ Ok p = ap (read_of Program) same_p ∙ rw (le-ltb 16777216 (length p) short) refl in
      let second : read_of (role_of check.action) (later check.second) ≡ Ok bytes =
      ap (λ action. read_of (role_of action) (later check.second)) is_check ∙ ap (read_of Report) is_bytes ∙ rw (le-ltb 8388608 (length bytes) few) refl in
      let answer : IsAnswerOf check.action p check.options bytes (Ok check_line) =
      subst (λ action. IsAnswerOf action p check.options bytes (Ok check_line)) (sym is_check)
      (written_is_accepted p x bytes make.options check.options low_p low within steps conflicts is) in
      subst (λ r. IsOfProgram check later r (Ok check_line)) (sym first) (subst (λ r. IsOfSecond check p r (Ok check_line)) (sym second) answer)
