-- Only an ECALL looks at the input.
use Rattle.std.proofs.Common.{◌≡◌, ℕ, zero, suc, List, ◌∷◌, length, Option, Some, None, refl, sym, ap, ◌∙◌, arith, All, IsTrue}
use Rattle.memory_map.specs.Cells.{execute, first_without, word_at}
use Rattle.elf32.specs.Loads.{Program}
use Rattle.rv_decode.specs.Table.{decoded}
use Rattle.rv_decode.specs.declared.instr.Instr.{Instr}
use Rattle.rv_decode.specs.declared.instr.Instr.TheVariants.{Lui, Auipc, Jal, Jalr, Branch, Load, Store, AluImm, AluReg, Fence, Ecall, Ebreak}
use Rattle.rv_event.specs.declared.event.Event.{Event}
use Rattle.rv_event.proofs.SameLemmas.{same_transcript-Decides}
use Rattle.rv_machine.specs.State.{State, Next, Goes, Ends, start}
use Rattle.rv_machine.specs.Effects.{effect, executed, after_fetch, step}
use Rattle.rv_machine.specs.Trace.{Trace, trace_from, onward, with_event, trace_of_program, transcript_of}
use Rattle.rv_machine.specs.Class.{in_class}
use Rattle.machine_laws.specs.Calls.{IsNoCall}

effect_blind : (x y : List ℕ) (s : State) (word : ℕ) (i : Instr) → IsNoCall (effect x s word i).event → effect y s word i ≡ effect x s word i
unfolding effect
effect_blind x y s word (Lui rd imm) h = refl
effect_blind x y s word (Auipc rd imm) h = refl
effect_blind x y s word (Jal rd offset) h = refl
effect_blind x y s word (Jalr rd rs1 imm) h = refl
effect_blind x y s word (Branch c rs1 rs2 offset) h = refl
effect_blind x y s word (Load width rd rs1 imm) h = refl
effect_blind x y s word (Store width rs1 rs2 imm) h = refl
effect_blind x y s word (AluImm op rd rs1 imm) h = refl
effect_blind x y s word (AluReg op rd rs1 rs2) h = refl
effect_blind x y s word (Fence bits) h = refl
effect_blind x y s word Ecall h = absurd (h refl)
effect_blind x y s word Ebreak h = refl

executed_blind : (x y : List ℕ) (s : State) (word : ℕ) (o : Option Instr) → IsNoCall (executed x s word o).event → executed y s word o ≡ executed x s word o
executed_blind x y s word None h = refl
executed_blind x y s word (Some i) h = effect_blind x y s word i h

fetch_blind : (x y : List ℕ) (s : State) (o : Option ℕ) → IsNoCall (after_fetch x s o).event → after_fetch y s o ≡ after_fetch x s o
fetch_blind x y s (Some fault) h = refl
fetch_blind x y s None h = executed_blind x y s (word_at s.memory s.pc) (decoded (word_at s.memory s.pc)) h

-- a step that is no call is the same on every input
pub step_blind : (x y : List ℕ) (s : State) → IsNoCall (step x s).event → step y s ≡ step x s
unfolding step
step_blind x y s h = fetch_blind x y s (first_without execute s.memory s.pc 4) h

head_holds : (e : Event) (es : List Event) → All IsNoCall (e ∷ es) → IsNoCall e
head_holds e es h = h 0 e (omega arith)

tail_holds : (e : Event) (es : List Event) → All IsNoCall (e ∷ es) → All IsNoCall es
tail_holds e es h = λ k d l. h (suc k) d (omega arith)

onward_blind : (f g : State → Trace) (next : Next) → ((s : State) → All IsNoCall (f s).events → g s ≡ f s) → All IsNoCall (onward f next).events → onward g next ≡ onward f next
onward_blind f g (Goes s) same h = same s h
onward_blind f g (Ends e) same h = refl

-- a run without calls is the same on every input
pub trace_blind : (n : ℕ) (x y : List ℕ) (s : State) → All IsNoCall (trace_from n x s).events → trace_from n y s ≡ trace_from n x s
unfolding trace_from
trace_blind zero x y s h = refl
trace_blind (suc n) x y s h =
    ap (λ o. with_event o.event (onward (trace_from n y) o.next)) (step_blind x y s (head_holds (step x s).event (onward (trace_from n x) (step x s).next).events h))
    ∙ ap (with_event (step x s).event) (onward_blind (trace_from n x) (trace_from n y) (step x s).next (λ t k. trace_blind n x y t k) (tail_holds (step x s).event (onward (trace_from n x) (step x s).next).events h))

-- and so is what it tells
pub transcript_blind : (program : Program) (limit : ℕ) (x y : List ℕ) → length x ≡ length y → All IsNoCall (transcript_of program x limit).events → transcript_of program y limit ≡ transcript_of program x limit
unfolding transcript_of
transcript_blind program limit x y l h =
    let run : trace_of_program program y limit ≡ trace_of_program program x limit = trace_blind limit x y (start program.entry program.segments) h in
    (λ i. record { n = sym l i; events = (run i).events; end = (run i).end })

pub class_blind : (program : Program) (limit : ℕ) (x y : List ℕ) → length x ≡ length y → All IsNoCall (transcript_of program x limit).events → IsTrue (in_class program limit (transcript_of program x limit) y)
unfolding in_class
class_blind program limit x y l h = (same_transcript-Decides (transcript_of program y limit) (transcript_of program x limit)).1 (transcript_blind program limit x y l h)
