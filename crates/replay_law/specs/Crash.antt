-- Programs, inputs, and runs that crash; and what each condition of such a run is like.
use Rattle.std.specs.Prelude.{◌≡◌, ℕ, ◌%◌, List, [], ◌∷◌, true, All}
use Rattle.elf32.specs.Loads.{Program}
use Rattle.rv_event.specs.declared.event.End.{End}
use Rattle.rv_event.specs.declared.event.End.TheVariants as ends
use Rattle.rv_event.specs.declared.transcript.Transcript.{Transcript}
use Rattle.term_model.specs.Tree.{Tree}
use Rattle.term_model.specs.Words.{HasWords, AreBytes}
use Rattle.term_model.specs.Places.{ReadsBelow, ReadsNothing}
use Rattle.term_model.specs.Truth.{is_truth}
use Rattle.rv_machine.specs.Trace.{transcript_of}
use Rattle.input_laws.specs.Inputs.{IsInput}

-- a program that a file gives: its entry is a multiple of 4, and its segments hold bytes
pub record IsProgram (program : Program) : Type 0 where
  pub aligned : program.entry % 4 ≡ 0
  pub bytes : All (λ s. AreBytes s.bytes) program.segments

-- the run was ended by a trap
abbrev pub IsTrapped : End → Type 0
IsTrapped (ends.Trap t) = Unit {0}
IsTrapped (ends.Exit code) = ⊥
IsTrapped ends.Limit = ⊥

-- what the run of a program on an input x tells, for at most `limit` steps, where a trap ended it
pub record IsCrash (program : Program) (limit : ℕ) (x : List ℕ) (run : Transcript) : Type 0 where
  pub input : IsInput run.n x
  pub trace : run ≡ transcript_of program x limit
  pub trapped : IsTrapped run.end

-- a truth term whose constants are words, and which reads some place, and only places below n
pub record IsProper (n : ℕ) (t : Tree) : Type 0 where
  pub truth : is_truth t ≡ true
  pub words : HasWords t
  pub reads : ReadsNothing t → ⊥
  pub within : ReadsBelow n t

-- each of the conditions is such a term
abbrev pub AreProper : ℕ → List Tree → Type 0
AreProper n [] = Unit {0}
AreProper n (t ∷ ts) = IsProper n t × AreProper n ts
