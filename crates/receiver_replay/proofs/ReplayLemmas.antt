-- A report's input run again.
use Rattle.std.proofs.Common.{◌≡◌, ◌≢◌, ◌∙◌, ◌≤◌, ◌<◌, ℕ, Bool, true, false, List, [], length, Option, Some, None, Ok, Err, refl, sym, ap, inl, nat_lt, arith}
use Rattle.std.proofs.lemmas.Bool.{lt-ltb, le-ltb}
use Rattle.elf32.specs.declared.image.Image.{Image}
use Rattle.elf32.specs.Loads.{Program, loaded_program, program_of, IsImageOf}
use Rattle.rv_event.specs.declared.event.End.{End}
use Rattle.rv_event.specs.declared.event.End.TheVariants as ends
use Rattle.rv_event.specs.declared.transcript.Transcript.{Transcript}
use Rattle.rv_event.specs.Same.{same_events, same_end, same_transcript}
use Rattle.rv_event.proofs.SameLemmas.{same_transcript-Decides}
use Rattle.rv_machine.specs.declared.trace.Run.{Run}
use Rattle.rv_machine.specs.State.{State, start}
use Rattle.rv_machine.specs.Trace.{trace_from, transcript_of}
use Rattle.report_format.specs.Text.{Content}
use Rattle.receiver_replay.specs.declared.error.ReceiveError.{ReceiveError}
use Rattle.receiver_replay.specs.declared.error.ReceiveError.TheVariants.{Differs}
use Rattle.receiver_replay.specs.Received.{program_refusal, unless_refused, its_run, by_trap, by_steps, replayed, IsBut}

-- a run from the start of the image is the program's run on the report's input
from_start : (p : List ℕ) (image : Image) (state : State) → IsImageOf p image → state ≡ start image.entry image.segments
    → state ≡ start (loaded_program p).entry (loaded_program p).segments
from_start p image state is at = at ∙ (λ i. start (is.entry i) (is.segments i))

pub its_events : (p : List ℕ) (r : Content) (image : Image) (state : State) → IsImageOf p image → state ≡ start image.entry image.segments
    → (trace_from r.steps r.input state).events ≡ (its_run p r r.steps).events
unfolding transcript_of
its_events p r image state is at = ap (λ s. (trace_from r.steps r.input s).events) (from_start p image state is at)

-- what a machine's run tells is what the program's transcript tells
record IsRun (p : List ℕ) (r : Content) (run : Run) : Type 0 where
  steps : run.steps ≡ length (its_run p r r.steps).events
  end : run.end ≡ (its_run p r r.steps).end

is_run : (p : List ℕ) (r : Content) (image : Image) (state : State) (run : Run) → IsImageOf p image → state ≡ start image.entry image.segments
    → run.steps ≡ length (trace_from r.steps r.input state).events → run.end ≡ (trace_from r.steps r.input state).end → IsRun p r run
unfolding transcript_of
is_run p r image state run is at steps end =
    let from = from_start p image state is at in
    record { steps = steps ∙ ap (λ s. length (trace_from r.steps r.input s).events) from; end = end ∙ ap (λ s. (trace_from r.steps r.input s).end) from }

abbrev told : End → Transcript
told end = record { n = 0; events = []; end = end }

-- the test of two ends, as that of two runs without events
end_same : (a b : End) → same_end a b ≡ true → a ≡ b
unfolding same_transcript same_events
end_same a b is = ap (λ t. t.end) ((same_transcript-Decides (told a) (told b)).0 is)

same_ends : (a b : End) → a ≡ b → same_end a b ≡ true
unfolding same_transcript same_events
same_ends a b is = (same_transcript-Decides (told a) (told b)).1 (ap told is)

other_end : (a b : End) → (a ≡ b → ⊥) → same_end a b ≡ false
other_end a b differ = by (same_end a b) (λ is. differ (end_same a b is))
  where
    by : (t : Bool) → (t ≡ true → ⊥) → t ≡ false
    by true not = absurd (not refl)
    by false not = refl

module _ (p : List ℕ) (r : Content) (image : Image) (state : State) (run : Run) (accepted : program_refusal p r ≡ None) (is : IsImageOf p image) (at : state ≡ start image.entry image.segments)
    (steps : run.steps ≡ length (trace_from r.steps r.input state).events) (end : run.end ≡ (trace_from r.steps r.input state).end) where
  it : IsRun p r run
  it = is_run p r image state run is at steps end

  run_again : replayed p r ≡ by_trap r (its_run p r r.steps)
  unfolding replayed
  run_again = ap (λ o. unless_refused o (by_trap r (its_run p r r.steps))) accepted

  pub another_end : (run.end ≡ ends.Trap r.trap → ⊥) → IsBut (replayed p r) (Err (Differs 3))
  another_end differ = inl (sym (run_again ∙ rw (other_end (its_run p r r.steps).end (ends.Trap r.trap) (λ e. differ (it.end ∙ e))) refl))

  pub fewer_steps : run.end ≡ ends.Trap r.trap → run.steps < r.steps → IsBut (replayed p r) (Err (Differs 4))
  fewer_steps same less =
      let e = same_ends (its_run p r r.steps).end (ends.Trap r.trap) (sym it.end ∙ same) in
      let l = lt-ltb (length (its_run p r r.steps).events) r.steps (omega (arith, it.steps, less)) in
      inl (sym (run_again ∙ rw (e, l) refl))

  pub same_run : run.end ≡ ends.Trap r.trap → r.steps ≤ run.steps → IsBut (replayed p r) (Ok run)
  same_run same enough =
      let e = same_ends (its_run p r r.steps).end (ends.Trap r.trap) (sym it.end ∙ same) in
      let l = le-ltb (length (its_run p r r.steps).events) r.steps (omega (arith, it.steps, enough)) in
      inl (sym (run_again ∙ (rw (e, l) (λ i. Ok (record { steps = sym it.steps i; end = sym it.end i })))))
