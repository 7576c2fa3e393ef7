-- The conditions of a trace: they hold of the class, and each is proper.
use Rattle.std.proofs.Common.{◌≡◌, ℕ, true, List, [], ◌∷◌, sym}
use Rattle.std.specs.Prelude.{◌↔◌, All, IsTrue}
use Rattle.std.proofs.lemmas.List.Elements.{All-nil, All-cons}
use Rattle.elf32.specs.Loads.{Program}
use Rattle.rv_event.specs.declared.transcript.Transcript.{Transcript}
use Rattle.rv_machine.specs.Class.{in_class}
use Rattle.term_model.specs.Tree.{Tree}
use Rattle.term_model.specs.Places.{ReadsBelow}
use Rattle.term_model.specs.Truth.{is_truth}
use Rattle.term_model.specs.Words.{HasWords}
use Rattle.term_model.specs.Conditions.{Hold}
use Rattle.replay_law.specs.Crash.{IsProgram, IsCrash, AreProper}
use Rattle.trace_conditions.specs.Conditions.{conditions_of}
use Rattle.input_laws.specs.Inputs.{IsInput}
use Rattle.group_laws.specs.Parts.{IsByConditions}
use Rattle.report_laws.proofs.ClassLemmas.{traced_is_member}

-- the law of the conditions
abbrev pub ClassLaw : Type 0
ClassLaw = (program : Program) (limit : ℕ) (x y : List ℕ) (run : Transcript) → IsProgram program → IsCrash program limit x run → IsInput run.n y → Hold (conditions_of program run) y ↔ IsTrue (in_class program limit run y)

-- an input is in the class exactly where the conditions hold
pub class_by_conditions : ClassLaw → (program : Program) (limit : ℕ) (x : List ℕ) (t : Transcript) → IsProgram program → IsCrash program limit x t → IsByConditions t.n (in_class program limit t) (conditions_of program t)
class_by_conditions law program limit x t is made y a =
    let both : Hold (conditions_of program t) y ↔ IsTrue (in_class program limit t y) = law program limit x y t is made a in
    (both.1, both.0)

-- they hold of the traced input
pub traced_holds : ClassLaw → (program : Program) (limit : ℕ) (x : List ℕ) (t : Transcript) → IsProgram program → IsCrash program limit x t → Hold (conditions_of program t) x
traced_holds law program limit x t is made =
    (class_by_conditions law program limit x t is made x made.input).0 (traced_is_member program limit t x (sym made.trace))

-- the law that conditions are proper
abbrev pub ProperLaw : Type 0
ProperLaw = (program : Program) (limit : ℕ) (x : List ℕ) (run : Transcript) → IsProgram program → IsCrash program limit x run → AreProper run.n (conditions_of program run)

-- proper conditions are truth terms
pub all_truth : (n : ℕ) (ts : List Tree) → AreProper n ts → All (λ t. is_truth t ≡ true) ts
all_truth n [] p = All-nil (λ (t : Tree). is_truth t ≡ true)
all_truth n (t ∷ ts) p = All-cons (λ (t : Tree). is_truth t ≡ true) t ts p.0.truth (all_truth n ts p.1)

-- whose constants are words
pub all_words : (n : ℕ) (ts : List Tree) → AreProper n ts → All HasWords ts
all_words n [] p = All-nil HasWords
all_words n (t ∷ ts) p = All-cons HasWords t ts p.0.words (all_words n ts p.1)

-- and which read places below n
pub all_below : (n : ℕ) (ts : List Tree) → AreProper n ts → All (ReadsBelow n) ts
all_below n [] p = All-nil (ReadsBelow n)
all_below n (t ∷ ts) p = All-cons (ReadsBelow n) t ts p.0.within (all_below n ts p.1)
