-- Lines that are taken, and what is known after them.
use Rattle.std.proofs.Common.{◌≡◌, ◌+◌, ◌^◌, ◌<◌, ◌≤◌, ℕ, List, length, arith, sym, subst}
use Rattle.report_format.specs.Stages.{Takes, Refuses, IsProgramLine, IsTrapLine, IsNamedLine, IsDataLine, IsSetLine}
use Rattle.report_format.specs.Reading.{FailsAt, IsRefusal}
use Rattle.report_format.specs.declared.lines.Lines.{Lines}
use Rattle.report_format.specs.declared.error.ReadError.{ReadError}
use Rattle.report_format.specs.declared.error.ReadError.TheVariants.{Line, NoMemory}
use Rattle.text_lines.specs.Lines.{Unbroken, ComesNo}
use Rattle.text_lines.proofs.LineLemmas.{none_other}
use Rattle.report_format.proofs.LineLemmas.{unbroken-program, unbroken-trap, unbroken-named, unbroken-data, unbroken-set}

-- the line that was taken is this one
pub takes-as : (line other : List ℕ) (old new : Lines) → line ≡ other → Takes line old new → Takes other old new
takes-as line other old new same takes = subst (λ l. Takes l old new) same takes

-- a line that isn't of the form is refused
pub refused : (form : List ℕ → Type 0) (line : List ℕ) (old new : Lines) → Takes line old new → Unbroken line → ((l : List ℕ) → form l → Unbroken l) → (form line → ⊥)
    → Refuses form old (Line new.count)
refused form line old new takes plain whole other = (takes.counted, none_other form line old.rest.now new.rest.now takes.parts plain whole other)

-- where no line comes next, none of the form does
pub weaker : (form : List ℕ → Type 0) (at : Lines) (e : ReadError) → Refuses (λ _. Unit {0}) at e → Refuses form at e
weaker form at NoMemory r = tt
weaker form at (Line n) r = (r.0, λ l more is e. r.1 l more tt e)

-- a refused line is where the text fails, if no report goes on with a line of the form
pub refusal-at : (text : List ℕ) (form : List ℕ → Type 0) (at : Lines) (e : ReadError) → Refuses form at e → (ComesNo form at.rest.now → FailsAt (at.count + 1) text) → IsRefusal text e
refusal-at text form at NoMemory r fails = tt
refusal-at text form at (Line n) r fails = subst (λ k. FailsAt k text) (sym r.0) (fails r.1)

pub whole-program : (l : List ℕ) → IsProgramLine l → Unbroken l
whole-program l is = subst Unbroken (sym is.is) (unbroken-program is.bytes is.digest (omega (arith, is.few)) is.low)

pub whole-trap : (l : List ℕ) → IsTrapLine l → Unbroken l
whole-trap l is = subst Unbroken (sym is.is) (unbroken-trap is.trap)

pub whole-named : (name : List ℕ) (least most : ℕ) (l : List ℕ) → Unbroken name → most < 2 ^ 64 → IsNamedLine name least most l → Unbroken l
whole-named name least most l plain small is = subst Unbroken (sym is.is) (unbroken-named name is.number plain (omega (arith, is.at_most)))

pub whole-data : (count : ℕ) (l : List ℕ) → IsDataLine count l → Unbroken l
whole-data count l is = subst Unbroken (sym is.is) (unbroken-data is.piece is.low)

pub whole-set : (input : List ℕ) (least : ℕ) (l : List ℕ) → length input ≤ 65536 → IsSetLine input least l → Unbroken l
whole-set input least l few is = subst Unbroken (sym is.is) (unbroken-set is.place is.set (omega (arith, is.told.within)))
