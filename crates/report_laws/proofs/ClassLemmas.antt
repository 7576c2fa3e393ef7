-- The report's input and sets, and the class of the trace.
use Rattle.std.proofs.Common.{◌≡◌, ◌∙◌, ◌<◌, ℕ, true, List, [], length, refl, sym, ap, subst, All}
use Rattle.std.specs.Prelude.{unwrap_or}
use Rattle.elf32.specs.Loads.{Program}
use Rattle.rv_event.specs.declared.transcript.Transcript.{Transcript}
use Rattle.rv_event.proofs.SameLemmas.{same_transcript-Decides}
use Rattle.rv_machine.specs.Trace.{transcript_of}
use Rattle.rv_machine.specs.Class.{in_class}
use Rattle.input_laws.specs.Order.{IsFirst, first}
use Rattle.input_laws.proofs.Exists.{first_exists}
use Rattle.input_laws.proofs.InOrder.{first_from_first_member}
use Rattle.report_laws.specs.Mask.{mask}
use Rattle.report_laws.specs.Made.{first_input}
use Rattle.report_laws.proofs.MaskLemmas.{mask_is_input}

-- a trace tells the length of its input
pub length_told : (program : Program) (limit : ℕ) (x : List ℕ) (t : Transcript) → t ≡ transcript_of program x limit → t.n ≡ length x
unfolding transcript_of
length_told program limit x t is = ap (λ u. u.n) is

-- the inputs of a class are those with the trace
pub member_has_trace : (program : Program) (limit : ℕ) (t : Transcript) (y : List ℕ) → in_class program limit t y ≡ true → transcript_of program y limit ≡ t
unfolding in_class
member_has_trace program limit t y h = (same_transcript-Decides (transcript_of program y limit) t).0 h

pub traced_is_member : (program : Program) (limit : ℕ) (t : Transcript) (y : List ℕ) → transcript_of program y limit ≡ t → in_class program limit t y ≡ true
unfolding in_class
traced_is_member program limit t y e = (same_transcript-Decides (transcript_of program y limit) t).1 e

-- with the trace's length taken from an input that has it
pub first_of_length : (program : Program) (seed limit : ℕ) (x : List ℕ) (t : Transcript) → All (λ byte. byte < 256) x → transcript_of program x limit ≡ t → t.n ≡ length x
    → IsFirst (length x) (mask seed (length x)) (in_class program limit t) (first_input program seed limit t)
first_of_length program seed limit x t in_range is n =
    let there = first_exists (length x) (mask seed (length x)) (in_class program limit t) x (record { long = refl; in_range = in_range }) (traced_is_member program limit t x is) in
    let masked = mask_is_input seed (length x) in
    let found = first_from_first_member (mask seed (length x)) (in_class program limit t) there.0 masked.in_range (subst (λ k. IsFirst k (mask seed (length x)) (in_class program limit t) there.0) (sym masked.long) there.1) in
    let same : first_input program seed limit t ≡ there.0 = ap (λ k. unwrap_or (first (mask seed k) (in_class program limit t)) []) n ∙ ap (λ o. unwrap_or o []) found in
    subst (IsFirst (length x) (mask seed (length x)) (in_class program limit t)) (sym same) there.1

pub input_comes_first : (program : Program) (seed limit : ℕ) (x : List ℕ) → All (λ byte. byte < 256) x
    → IsFirst (length x) (mask seed (length x)) (in_class program limit (transcript_of program x limit)) (first_input program seed limit (transcript_of program x limit))
input_comes_first program seed limit x in_range = first_of_length program seed limit x (transcript_of program x limit) in_range refl (length_told program limit x (transcript_of program x limit) refl)

pub input_has_trace : (program : Program) (seed limit : ℕ) (x : List ℕ) → All (λ byte. byte < 256) x
    → transcript_of program (first_input program seed limit (transcript_of program x limit)) limit ≡ transcript_of program x limit
input_has_trace program seed limit x in_range =
    member_has_trace program limit (transcript_of program x limit) (first_input program seed limit (transcript_of program x limit)) (input_comes_first program seed limit x in_range).is_member
