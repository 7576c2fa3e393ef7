-- Runs that crash.
use Rattle.std.proofs.Common.{◌≡◌, ◌≤◌, ℕ, List, length, sym, ap, arith, subst}
use Rattle.elf32.specs.declared.image.Image.{Image}
use Rattle.elf32.specs.Loads.{Program, loaded_program, program_of}
use Rattle.elf32.proofs.Accepted.{same_program}
use Rattle.rv_event.specs.declared.event.End.{End}
use Rattle.rv_event.specs.declared.event.End.TheVariants as ends
use Rattle.rv_event.specs.declared.event.Trap.{Trap}
use Rattle.rv_event.specs.declared.transcript.Transcript.{Transcript}
use Rattle.rv_machine.specs.Trace.{transcript_of}
use Rattle.term_model.specs.Words.{AreBytes}
use Rattle.term_model.proofs.ByteLemmas.{bytes_within}
use Rattle.replay_law.specs.Crash.{IsTrapped, IsCrash}

-- a trace has its input's length
length-told : (program : Program) (x : List ℕ) (limit : ℕ) (t : Transcript) → t ≡ transcript_of program x limit → t.n ≡ length x
unfolding transcript_of
length-told program x limit t is = ap (λ u. u.n) is

pub length-of-run : (program : Program) (x : List ℕ) (limit : ℕ) (t : Transcript) → t ≡ transcript_of program x limit → length x ≤ 65536 → t.n ≤ 65536
length-of-run program x limit t is few = let told = length-told program x limit t is in omega (arith, told, few)

trapped : (e : End) (trap : Trap) → e ≡ ends.Trap trap → IsTrapped e
trapped (ends.Trap t) trap is = tt
trapped (ends.Exit code) trap is = cc
trapped ends.Limit trap is = cc

crash : (p x : List ℕ) (limit : ℕ) (t : Transcript) (trap : Trap) → AreBytes x → t ≡ transcript_of (loaded_program p) x limit → t.end ≡ ends.Trap trap → IsCrash (loaded_program p) limit x t
crash p x limit t trap bytes is end =
    record { input = record { long = sym (length-told (loaded_program p) x limit t is); in_range = bytes_within x bytes }; trace = is; trapped = trapped t.end trap end }

-- a run of a file's image on an input, ended by a trap, is a crash of the file's program
pub crash-of-image : (p x : List ℕ) (limit : ℕ) (image : Image) (t : Transcript) (trap : Trap) → AreBytes x → image.entry ≡ (loaded_program p).entry → image.segments ≡ (loaded_program p).segments
    → t ≡ transcript_of (program_of image) x limit → t.end ≡ ends.Trap trap → (limit : ℕ) × (x : List ℕ) × IsCrash (loaded_program p) limit x t
crash-of-image p x limit image t trap bytes is_entry is_segments is end =
    (limit, x, crash p x limit t trap bytes (subst (λ program. t ≡ transcript_of program x limit) (same_program image p is_entry is_segments) is) end)
