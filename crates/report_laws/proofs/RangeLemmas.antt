-- What the report of a run says is within the ranges of a report text.
use Rattle.std.proofs.Common.{◌≡◌, ◌≤◌, ◌<◌, ◌*◌, ◌^◌, ℕ, zero, suc, List, length, refl, sym, subst, arith, All}
use Rattle.std.specs.Prelude.{slice_index}
use Rattle.std.specs.Int.{w32, to_be_bytes}
use Rattle.std.proofs.lemmas.List.{length-append}
use Rattle.std.proofs.lemmas.List.Elements.{All-nil, All-append}
use Rattle.sha2.specs.Sha256.{digest_bytes, final_hash, initial_hash_256, sha256}
use Rattle.elf32.specs.Loads.{Program, loaded_program}
use Rattle.rv_event.specs.declared.event.End.{End}
use Rattle.rv_event.specs.declared.event.End.TheVariants as ends
use Rattle.rv_event.specs.declared.event.Trap.{Trap}
use Rattle.rv_event.specs.declared.transcript.Transcript.{Transcript}
use Rattle.rv_machine.specs.State.{State, start}
use Rattle.rv_machine.specs.Trace.{trace_from, transcript_of}
use Rattle.rv_machine.proofs.Traces.{trace_length}
use Rattle.term_model.proofs.ByteLemmas.{bytes_everywhere, bytes_within}
use Rattle.replay_law.specs.Crash.{IsProgram, IsTrapped, IsCrash}
use Rattle.input_laws.specs.Sets.{IsByteSet, IsChoice}
use Rattle.report_format.specs.Text.{IsReport}
use Rattle.text_lines.proofs.DigitLemmas.{word-bytes}
use Rattle.report_laws.specs.Made.{first_input, sets_of, report_of}
use Rattle.report_laws.proofs.ClassLemmas.{length_told, input_comes_first}

-- ---- the digest

digest_long : (h : List ℕ) (n : ℕ) → length (digest_bytes h n) ≡ 4 * n
unfolding digest_bytes
digest_long h zero = refl
digest_long h (suc n) = omega (arith, length-append (digest_bytes h n) (to_be_bytes w32 (slice_index h n)), digest_long h n)

digest_low : (h : List ℕ) (n : ℕ) → All (λ b. b < 256) (digest_bytes h n)
unfolding digest_bytes
digest_low h zero = All-nil (λ b. b < 256)
digest_low h (suc n) =
    All-append (λ b. b < 256) (digest_bytes h n) (to_be_bytes w32 (slice_index h n)) (digest_low h n)
    (bytes_within (to_be_bytes w32 (slice_index h n)) (word-bytes (slice_index h n)))

digest_is : (p : List ℕ) → (length (sha256 p) ≡ 32) × All (λ b. b < 256) (sha256 p)
unfolding sha256
digest_is p = (digest_long (final_hash initial_hash_256 p) 8, digest_low (final_hash initial_hash_256 p) 8)

-- ---- the program

pub entry_fits : (p : List ℕ) → All (λ b. b < 256) p → (loaded_program p).entry < 2 ^ 32
entry_fits p low =
    let first : slice_index p 24 < 256 = bytes_everywhere p low 24 in
    let second : slice_index p 25 < 256 = bytes_everywhere p low 25 in
    let third : slice_index p 26 < 256 = bytes_everywhere p low 26 in
    let fourth : slice_index p 27 < 256 = bytes_everywhere p low 27 in
    omega arith

pub segments_of_bytes : (program : Program) → IsProgram program → All (λ s. All (λ b. b < 256) s.bytes) program.segments
segments_of_bytes program is = λ k d l. bytes_within _ (is.bytes k d l)

-- ---- the run

trapped : (end : End) (trap : Trap) → end ≡ ends.Trap trap → IsTrapped end
trapped end trap is = subst IsTrapped (sym is) tt

-- an input whose run a trap ended
pub crash : (program : Program) (limit : ℕ) (x : List ℕ) (trap : Trap) → All (λ byte. byte < 256) x → (transcript_of program x limit).end ≡ ends.Trap trap → IsCrash program limit x (transcript_of program x limit)
crash program limit x trap low end = record {
  input = record { long = sym (length_told program limit x (transcript_of program x limit) refl); in_range = low };
  trace = refl;
  trapped = trapped (transcript_of program x limit).end trap end;
}

pub events_within : (program : Program) (x : List ℕ) (limit : ℕ) → length (transcript_of program x limit).events ≤ limit
unfolding transcript_of
events_within program x limit = trace_length limit x (start program.entry program.segments)

some_events : (limit : ℕ) (x : List ℕ) (s : State) → IsTrapped (trace_from limit x s).end → 0 < length (trace_from limit x s).events
unfolding trace_from
some_events zero x s trapped = absurd trapped
some_events (suc limit) x s trapped = omega arith

-- a run that a trap ended has an event
pub crash_has_events : (program : Program) (limit : ℕ) (x : List ℕ) (t : Transcript) → IsCrash program limit x t → 0 < length t.events
unfolding transcript_of
crash_has_events program limit x t crash =
    subst (λ (run : Transcript). 0 < length run.events) (sym crash.trace)
    (some_events limit x (start program.entry program.segments) (subst (λ (run : Transcript). IsTrapped run.end) crash.trace crash.trapped))

-- ---- the report

pub report_in_range : (p x : List ℕ) (seed limit : ℕ) (trap : Trap) → All (λ b. b < 256) x → length p ≤ 16777216 → length x ≤ 65536 → limit ≤ 10000000 → seed < 2 ^ 64
    → IsCrash (loaded_program p) limit x (transcript_of (loaded_program p) x limit) → (trap.pc < 2 ^ 32) × (trap.value < 2 ^ 32)
    → All IsByteSet (sets_of (loaded_program p) seed limit (transcript_of (loaded_program p) x limit))
    → IsChoice (sets_of (loaded_program p) seed limit (transcript_of (loaded_program p) x limit)) (first_input (loaded_program p) seed limit (transcript_of (loaded_program p) x limit))
    → IsReport (report_of p seed limit (transcript_of (loaded_program p) x limit) trap)
unfolding report_of
report_in_range p x seed limit trap low short few most fits crashed words alone own = record {
  program_length = short;
  digest_length = (digest_is p).0;
  digest_bytes = (digest_is p).1;
  trap_pc = words.0;
  trap_value = words.1;
  some_steps = crash_has_events (loaded_program p) limit x (transcript_of (loaded_program p) x limit) crashed;
  most_steps = omega (arith, most, events_within (loaded_program p) x limit);
  seed = fits;
  input_length = omega (arith, few, (input_comes_first (loaded_program p) seed limit x low).is_input.long);
  sets_of_bytes = alone;
  input_in_sets = own;
}
