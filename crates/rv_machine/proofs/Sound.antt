-- What a step keeps of the input place, and that no step ends by the limit.
use Rattle.std.proofs.Common.{◌≡◌, ℕ, nat_lt, ◌+◌, ◌-◌, ◌%◌, ◌^◌, ◌≤◌, ◌==◌, List, length, Bool, true, false, cond, Option, Some, None, refl, sym, ap, ◌∙◌, subst, arith}
use Rattle.memory_map.specs.Cells.{first_without, execute, word_at}
use Rattle.rv_decode.specs.Table.{decoded}
use Rattle.rv_decode.specs.declared.instr.Instr.{Instr}
use Rattle.rv_decode.specs.declared.instr.Instr.TheVariants.{Lui, Auipc, Jal, Jalr, Branch, Load, Store, AluImm, AluReg, Fence, Ecall, Ebreak}
use Rattle.rv_decode.specs.declared.instr.Width.{Width}
use Rattle.rv_word.specs.Word.{bits}
use Rattle.rv_event.specs.declared.event.End.{End}
use Rattle.rv_event.specs.declared.event.TrapKind.TheVariants as traps
use Rattle.rv_event.specs.declared.event.End.TheVariants as ends
use Rattle.call_replies.specs.declared.Reply.{Reply}
use Rattle.call_replies.specs.declared.Reply.TheVariants.{Answers, Moves, Breaks, Exits}
use Rattle.call_replies.specs.Calls.{reply_to}
use Rattle.call_replies.specs.Replies.{moved}
use Rattle.call_replies.proofs.Replies.{moves_at_most}
use Rattle.rv_machine.specs.State.{State, Next, Goes, Ends, reg, write_reg, at, following, trap}
use Rattle.rv_machine.specs.Effects.{jump, exit, taken, after_load, after_store, after_call, effect, executed, after_fetch, step}
use Rattle.rv_machine.specs.Progress.{Progress, Follows, EndsRun}
use Rattle.rv_machine.specs.Trace.{has_ended}

-- a step that goes on has read no more than the input has, and an end is no limit
abbrev Within : List ℕ → Next → Type 0
Within x (Goes s) = s.place ≤ length x
Within x (Ends e) = has_ended e ≡ true

jump_ok : (x : List ℕ) (pc target : ℕ) (after : State) → after.place ≤ length x → Within x (jump pc target after)
jump_ok x pc target after h = elim (target % 4 == 0) as (λ t. Within x (cond t (Goes (at target after)) (trap pc traps.MisalignedJump target))) [ true ↦ h | false ↦ refl ]

branch_ok : (x : List ℕ) (s : State) (t : Bool) (target : ℕ) → s.place ≤ length x → Within x (cond t (jump s.pc target s) (Goes (at (following s.pc) s)))
branch_ok x s true target h = jump_ok x s.pc target s h
branch_ok x s false target h = h

load_ok : (x : List ℕ) (s : State) (width : Width) (rd a : ℕ) (o : Option ℕ) → s.place ≤ length x → Within x (after_load s width rd a o)
load_ok x s width rd a None h = h
load_ok x s width rd a (Some fault) h = refl

store_ok : (x : List ℕ) (s : State) (width : Width) (value a : ℕ) (o : Option ℕ) → s.place ≤ length x → Within x (after_store s width value a o)
store_ok x s width value a None h = h
store_ok x s width value a (Some fault) h = refl

exit_ok : (x : List ℕ) (pc code : ℕ) → Within x (exit pc code)
exit_ok x pc code = elim (nat_lt code 128) as (λ t. Within x (cond t (Ends (ends.Exit code)) (trap pc traps.Abort code))) [ true ↦ refl | false ↦ refl ]

call_ok : (x : List ℕ) (s : State) (reply : Reply) → s.place ≤ length x → moved reply ≤ length x - s.place → Within x (after_call x s reply)
call_ok x s (Answers v) h m = h
call_ok x s (Moves k) h m = omega arith
call_ok x s (Breaks heap a) h m = h
call_ok x s (Exits code) h m = exit_ok x s.pc code

effect_ok : (x : List ℕ) (s : State) (w : ℕ) (i : Instr) → s.place ≤ length x → Within x (effect x s w i).next
unfolding effect
effect_ok x s w (Lui rd imm) h = h
effect_ok x s w (Auipc rd imm) h = h
effect_ok x s w (Jal rd offset) h = jump_ok x s.pc _ (write_reg rd (following s.pc) s) h
effect_ok x s w (Jalr rd rs1 imm) h = jump_ok x s.pc _ (write_reg rd (following s.pc) s) h
effect_ok x s w (Branch c rs1 rs2 offset) h = branch_ok x s (taken c (reg s rs1) (reg s rs2)) ((s.pc + bits offset) % 2 ^ 32) h
effect_ok x s w (Load width rd rs1 imm) h = load_ok x s width rd _ _ h
effect_ok x s w (Store width rs1 rs2 imm) h = store_ok x s width _ _ _ h
effect_ok x s w (AluImm op rd rs1 imm) h = h
effect_ok x s w (AluReg op rd rs1 rs2) h = h
effect_ok x s w (Fence word) h = h
effect_ok x s w Ecall h = call_ok x s (reply_to s.memory s.heap (length x - s.place) (reg s 17) (reg s 10) (reg s 11) (reg s 12)) h (moves_at_most s.memory s.heap (length x - s.place) (reg s 17) (reg s 10) (reg s 11) (reg s 12))
effect_ok x s w Ebreak h = refl

executed_ok : (x : List ℕ) (s : State) (w : ℕ) (o : Option Instr) → s.place ≤ length x → Within x (executed x s w o).next
executed_ok x s w None h = refl
executed_ok x s w (Some i) h = effect_ok x s w i h

fetch_ok : (x : List ℕ) (s : State) (o : Option ℕ) → s.place ≤ length x → Within x (after_fetch x s o).next
fetch_ok x s (Some fault) h = refl
fetch_ok x s None h = executed_ok x s (word_at s.memory s.pc) (decoded (word_at s.memory s.pc)) h

step_ok : (x : List ℕ) (s : State) → s.place ≤ length x → Within x (step x s).next
unfolding step
step_ok x s h = fetch_ok x s (first_without execute s.memory s.pc 4) h

place_after : (x : List ℕ) (old after : Progress) (next : Next) (end : Option End) → Follows old next end after → Within x next → old.state.place ≤ length x → after.state.place ≤ length x
place_after x old after (Goes t) None f w h = subst (λ (s : State). s.place ≤ length x) (sym f.0) w
place_after x old after (Ends e) (Some g) f w h = subst (λ (p : Progress). p.state.place ≤ length x) (sym f.1) h
place_after x old after (Goes t) (Some g) f w h = absurd f
place_after x old after (Ends e) None f w h = absurd f

-- the input place stays within the input
pub step_place : (x : List ℕ) (old after : Progress) (end : Option End) → Follows old (step x old.state).next end after → old.state.place ≤ length x → after.state.place ≤ length x
step_place x old after end f h = place_after x old after _ end f (step_ok x old.state h) h

over_after : (x : List ℕ) (old after : Progress) (next : Next) (end : Option End) → Follows old next end after → Within x next → old.over ≡ false → EndsRun end after.over
over_after x old after (Goes t) None f w h = f.1 ∙ h
over_after x old after (Ends e) (Some g) f w h = (ap (λ p. p.over) f.1, sym (ap has_ended f.0) ∙ w)
over_after x old after (Goes t) (Some g) f w h = absurd f
over_after x old after (Ends e) None f w h = absurd f

-- the run is over where there is an end, which is never the limit
pub step_over : (x : List ℕ) (old after : Progress) (end : Option End) → Follows old (step x old.state).next end after → old.state.place ≤ length x → old.over ≡ false → EndsRun end after.over
step_over x old after end f h on = over_after x old after _ end f (step_ok x old.state h) on
