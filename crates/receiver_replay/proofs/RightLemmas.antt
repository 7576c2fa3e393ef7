-- What a report says of a run is right.
use Rattle.std.proofs.Common.{◌≡◌, ◌∙◌, ◌≤◌, ◌<◌, ◌*◌, ◌^◌, ℕ, List, None, length, refl, sym, ap, subst, All}
use Rattle.elf32.specs.Rules.{refusal}
use Rattle.elf32.specs.Loads.{loaded_program}
use Rattle.rv_event.specs.declared.event.End.TheVariants as ends
use Rattle.rv_event.specs.declared.event.Trap.{Trap}
use Rattle.rv_event.specs.declared.transcript.Transcript.{Transcript}
use Rattle.rv_machine.specs.Trace.{transcript_of}
use Rattle.rv_machine.specs.Class.{in_class}
use Rattle.input_laws.specs.Inputs.{class_size}
use Rattle.input_laws.specs.Order.{IsFirst}
use Rattle.input_laws.specs.Sets.{IsChoice, revealed}
use Rattle.report_format.specs.Text.{Content}
use Rattle.report_laws.specs.Mask.{mask}
use Rattle.report_laws.specs.Made.{sets_of, first_input, report_of}
use Rattle.report_laws.proofs.ClassLemmas.{length_told, input_comes_first, input_has_trace}
use Rattle.receiver_replay.specs.Received.{its_run}
use Rattle.receiver_replay.specs.Right.{IsRight}

-- a report whose own run is known
right_by : (p : List ℕ) (r : Content) (limit : ℕ) (t : Transcript) → refusal p ≡ None → its_run p r limit ≡ t → t.end ≡ ends.Trap r.trap → length t.events ≡ r.steps
    → IsFirst (length r.input) (mask r.seed (length r.input)) (in_class (loaded_program p) limit t) r.input → r.sets ≡ sets_of (loaded_program p) r.seed limit t
    → ((y : List ℕ) → IsChoice r.sets y → transcript_of (loaded_program p) y limit ≡ t)
    → 256 ^ length r.input ≤ class_size (in_class (loaded_program p) limit t) (length r.input) * 2 ^ revealed r.sets → IsRight p r limit
right_by p r limit t unbroken run end steps first sets choices bound = record {
  unbroken = unbroken;
  trap = ap (λ u. u.end) run ∙ end;
  steps = ap (λ u. length u.events) run ∙ steps;
  first = subst (λ u. IsFirst (length r.input) (mask r.seed (length r.input)) (in_class (loaded_program p) limit u) r.input) (sym run) first;
  sets = sets ∙ ap (sets_of (loaded_program p) r.seed limit) (sym run);
  choices = λ y choice. choices y choice ∙ sym run;
  bound = subst (λ u. 256 ^ length r.input ≤ class_size (in_class (loaded_program p) limit u) (length r.input) * 2 ^ revealed r.sets) (sym run) bound;
}

-- the report of a run
pub right_of_run : (p x : List ℕ) (seed limit : ℕ) (trap : Trap) → All (λ byte. byte < 256) x → refusal p ≡ None → (transcript_of (loaded_program p) x limit).end ≡ ends.Trap trap
    → ((y : List ℕ) → IsChoice (sets_of (loaded_program p) seed limit (transcript_of (loaded_program p) x limit)) y → transcript_of (loaded_program p) y limit ≡ transcript_of (loaded_program p) x limit)
    → 256 ^ (transcript_of (loaded_program p) x limit).n
    ≤ class_size (in_class (loaded_program p) limit (transcript_of (loaded_program p) x limit)) (transcript_of (loaded_program p) x limit).n * 2 ^ revealed (sets_of (loaded_program p) seed limit (transcript_of (loaded_program p) x limit))
    → IsRight p (report_of p seed limit (transcript_of (loaded_program p) x limit) trap) limit
unfolding report_of
right_of_run p x seed limit trap low unbroken end choices bound =
    let t : Transcript = transcript_of (loaded_program p) x limit in
    let comes = input_comes_first (loaded_program p) seed limit x low in
    let long : length x ≡ length (first_input (loaded_program p) seed limit t) = sym comes.is_input.long in
    right_by p (report_of p seed limit t trap) limit t unbroken (input_has_trace (loaded_program p) seed limit x low) end refl
    (subst (λ k. IsFirst k (mask seed k) (in_class (loaded_program p) limit t) (first_input (loaded_program p) seed limit t)) long comes) refl choices
    (subst (λ k. 256 ^ k ≤ class_size (in_class (loaded_program p) limit t) k * 2 ^ revealed (sets_of (loaded_program p) seed limit t)) (length_told (loaded_program p) limit x t refl ∙ long) bound)
