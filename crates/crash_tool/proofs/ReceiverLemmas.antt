-- From a report that was read, and what became of it, to the answer.
use Rattle.std.proofs.Common.{◌≡◌, ◌≢◌, ◌∙◌, ℕ, Bool, true, false, nat_lt, List, length, Option, Some, None, option_map, Result, Ok, Err, refl, sym, ap, subst, inl, inr}
use Rattle.std.specs.Prelude.{if◌then◌else◌}
use Rattle.elf32.specs.declared.error.ElfError.{ElfError}
use Rattle.elf32.specs.declared.error.ElfError.TheVariants as rules
use Rattle.elf32.specs.declared.image.Image.{Image}
use Rattle.elf32.specs.Rules.{refusal}
use Rattle.elf32.specs.Loads.{IsImageOf, loaded_program, program_of}
use Rattle.rv_event.specs.declared.event.End.{End}
use Rattle.rv_event.specs.declared.event.End.TheVariants as ends
use Rattle.rv_event.specs.Same.{same_end}
use Rattle.rv_machine.specs.declared.trace.Run.{Run}
use Rattle.rv_machine.specs.Trace.{transcript_of}
use Rattle.report_format.specs.declared.error.ReadError.{ReadError}
use Rattle.report_format.specs.declared.error.ReadError.TheVariants.{Line, NoMemory as NotRead}
use Rattle.report_format.specs.Text.{Content}
use Rattle.report_format.specs.Reading.{IsTextOf, IsRefusal}
use Rattle.receiver_replay.specs.declared.error.ReceiveError.{ReceiveError}
use Rattle.receiver_replay.specs.declared.error.ReceiveError.TheVariants.{WrongProgram, Program, StillRunning, NoCrash, Spent, Differs, NoMemory}
use Rattle.receiver_replay.specs.Received.{is_its_program, program_refusal, unless_refused, by_steps, by_trap, its_run, replayed, NamesRule, IsBut as IsThisBut}
use Rattle.tool_words.specs.declared.words.Options.{Options}
use Rattle.crash_tool.specs.declared.answer.Refusal.{Refusal}
use Rattle.crash_tool.specs.declared.answer.Refusal.TheVariants.{NotAReport, NoMemory as WantOfMemory}
use Rattle.crash_tool.specs.Refusals.{Answer, IsOfRule, of_read, of_receive}
use Rattle.crash_tool.specs.RunText.{run_text}
use Rattle.crash_tool.specs.Made.{transcript_under}
use Rattle.crash_tool.specs.Answers.{run_answer}
use Rattle.crash_tool.specs.Call.{IsBut, IsOfFiles}
use Rattle.crash_tool.specs.Received.{IsByReading}
use Rattle.report_maker.proofs.RunLemmas.{trace-of-image}

-- ---- a report that is refused

-- bytes that are no report's text
pub not-a-report : (answer_of : Result Content ℕ → Answer) (bytes : List ℕ) (e : ReadError) (r : Refusal) → r ≡ of_read e → IsRefusal bytes e
    → ((line : ℕ) → answer_of (Err line) ≡ Err (NotAReport line)) → IsBut (IsByReading answer_of bytes) (Err r)
not-a-report answer_of bytes (Line line) r is fails refuses = inl (record { reading = Err line; read = fails; same = ap Err is ∙ sym (refuses line) })
not-a-report answer_of bytes NotRead r is fails refuses = inr (ap Err is)

pub read-of-files : (e : ReadError) (r : Refusal) → r ≡ of_read e → IsOfFiles r
read-of-files (Line line) r is = subst IsOfFiles (sym is) tt
read-of-files NotRead r is = subst IsOfFiles (sym is) tt

-- what a receiver is refused comes of files
pub receive-of-files : (e : ReceiveError) (r : Refusal) → r ≡ of_receive e → NamesRule e → IsOfFiles r
receive-of-files WrongProgram r is names = subst IsOfFiles (sym is) tt
receive-of-files (Program rule) r is names = subst IsOfFiles (sym is) names
receive-of-files StillRunning r is names = subst IsOfFiles (sym is) tt
receive-of-files NoCrash r is names = subst IsOfFiles (sym is) tt
receive-of-files (Spent first width) r is names = subst IsOfFiles (sym is) tt
receive-of-files (Differs line) r is names = subst IsOfFiles (sym is) tt
receive-of-files NoMemory r is names = subst IsOfFiles (sym is) tt

-- what becomes of a report that was read
module _ {T : Type 0} (by : Result T ReceiveError → Answer) (answer_of : Result Content ℕ → Answer) (bytes : List ℕ) (report : Content) (is_text : IsTextOf report bytes) (what : Result T ReceiveError)
    (goes : answer_of (Ok report) ≡ by what) where
  -- it passes
  pub passes : (t : T) (a : Answer) → IsThisBut what (Ok t) → a ≡ by (Ok t) → IsByReading answer_of bytes a
  passes t a (inl is) same = record { reading = Ok report; read = is_text; same = same ∙ ap by is ∙ sym goes }
  passes t a (inr is) same = cc

  pub passes-but : (t : T) (a : Answer) → IsThisBut what (Ok t) → IsBut (λ answer. answer ≡ by (Ok t)) a → IsBut (IsByReading answer_of bytes) a
  passes-but t a is (inl same) = inl (passes t a is same)
  passes-but t a is (inr wanted) = inr wanted

  -- it is refused
  pub refuses : (e : ReceiveError) (r : Refusal) → r ≡ of_receive e → IsThisBut what (Err e) → by (Err e) ≡ Err (of_receive e) → IsBut (IsByReading answer_of bytes) (Err r)
  refuses e r is (inl same) refused = inl (record { reading = Ok report; read = is_text; same = ap Err is ∙ sym refused ∙ ap by same ∙ sym goes })
  refuses e r is (inr memory) refused =
      let wanted : e ≡ NoMemory = cc in
      inr (ap Err (is ∙ ap of_receive wanted))

-- ---- runs

-- a file that was run is a program
pub is-unbroken : (p : List ℕ) (report : Content) (run : Run) → IsThisBut (replayed p report) (Ok run) → refusal p ≡ None
unfolding replayed
is-unbroken p report run (inl ran) = of_refusal (is_its_program p report) (refusal p) refl (sym ran)
  where
    of_refusal : (b : Bool) (rule : Option ElfError) → rule ≡ refusal p
        → unless_refused (if b then option_map Program rule else Some WrongProgram) (by_trap report (its_run p report report.steps)) ≡ Ok run → refusal p ≡ None
    of_refusal true None is ran = sym is
    of_refusal true (Some rule) is ran = cc
    of_refusal false rule is ran = cc
is-unbroken p report run (inr wanted) = cc

-- a run that is the report's is the program's run on its input
pub is-its-run : (p : List ℕ) (report : Content) (run : Run) → IsThisBut (replayed p report) (Ok run)
    → (run.end ≡ (its_run p report report.steps).end) × (run.steps ≡ length (its_run p report report.steps).events)
unfolding replayed
is-its-run p report run (inl ran) = unless (program_refusal p report) (sym ran)
  where
    end_or : Result Run ReceiveError → End
    end_or (Ok run) = run.end
    end_or (Err e) = (its_run p report report.steps).end

    steps_or : Result Run ReceiveError → ℕ
    steps_or (Ok run) = run.steps
    steps_or (Err e) = 0

    steps : (less : Bool) → (if less then Err (Differs 4) else Ok (record { steps = length (its_run p report report.steps).events; end = (its_run p report report.steps).end })) ≡ Ok run
        → (run.end ≡ (its_run p report report.steps).end) × (run.steps ≡ length (its_run p report report.steps).events)
    steps true is = cc
    steps false is = (sym (ap end_or is), sym (ap steps_or is))

    end : (same : Bool) → (if same then by_steps report (its_run p report report.steps) else Err (Differs 3)) ≡ Ok run
        → (run.end ≡ (its_run p report report.steps).end) × (run.steps ≡ length (its_run p report report.steps).events)
    end true is = steps (nat_lt (length (its_run p report report.steps).events) report.steps) is
    end false is = cc

    unless : (refused : Option ReceiveError) → unless_refused refused (by_trap report (its_run p report report.steps)) ≡ Ok run
        → (run.end ≡ (its_run p report report.steps).end) × (run.steps ≡ length (its_run p report report.steps).events)
    unless (Some e) is = cc
    unless None is = end (same_end (its_run p report report.steps).end (ends.Trap report.trap)) is
is-its-run p report run (inr wanted) = cc

-- the run of an image is that of the file that it was read from
pub run-of-image : (p x : List ℕ) (limit : ℕ) (image : Image) → IsImageOf p image → transcript_of (program_of image) x limit ≡ transcript_of (loaded_program p) x limit
run-of-image p x limit image is = trace-of-image p x limit image (transcript_of (program_of image) x limit) is.entry is.segments refl

pub run-told : (p : List ℕ) (o : Options) (x text : List ℕ) (image : Image) → IsImageOf p image → text ≡ run_text (transcript_of (program_of image) x o.steps)
    → Ok text ≡ run_answer (refusal p) (transcript_under p o x)
run-told p o x text image is told =
    ap Ok (told ∙ ap run_text (run-of-image p x o.steps image is)) ∙ sym (ap (λ rule. run_answer rule (transcript_under p o x)) is.unbroken)
