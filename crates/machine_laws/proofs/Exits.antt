-- A run that ends by an exit ends with a code below 128.
use Rattle.std.proofs.Common.{◌≡◌, ℕ, zero, suc, ◌%◌, ◌^◌, ◌+◌, ◌-◌, ◌<◌, ◌==◌, nat_lt, List, length, Bool, true, false, cond, Option, Some, None, refl, subst, arith}
use Rattle.std.proofs.lemmas.Bool.Decides.{nat_tests}
use Rattle.elf32.specs.Loads.{Program}
use Rattle.memory_map.specs.Cells.{first_without, read, write, execute, word_at}
use Rattle.rv_word.specs.Word.{bits}
use Rattle.rv_decode.specs.Table.{decoded}
use Rattle.rv_decode.specs.declared.instr.Width.{Width}
use Rattle.rv_decode.specs.declared.instr.Instr.{Instr}
use Rattle.rv_decode.specs.declared.instr.Instr.TheVariants.{Lui, Auipc, Jal, Jalr, Branch, Load, Store, AluImm, AluReg, Fence, Ecall, Ebreak}
use Rattle.rv_event.specs.declared.event.End.{End}
use Rattle.rv_event.specs.declared.event.End.TheVariants as ends
use Rattle.rv_event.specs.declared.event.TrapKind.TheVariants as traps
use Rattle.call_replies.specs.declared.Reply.{Reply}
use Rattle.call_replies.specs.declared.Reply.TheVariants.{Answers, Moves, Breaks, Exits}
use Rattle.call_replies.specs.Calls.{reply_to}
use Rattle.rv_machine.specs.State.{State, Next, Goes, Ends, reg, write_reg, at, following, trap, start}
use Rattle.rv_machine.specs.Effects.{jump, exit, taken, size_of, address_of, even, after_load, after_store, after_call, effect, executed, after_fetch, step}
use Rattle.rv_machine.specs.Trace.{onward, trace_from, transcript_of}

-- an end that is no exit with a code of 128 or more
abbrev IsLow : End → Type 0
IsLow (ends.Trap t) = Unit {0}
IsLow (ends.Exit code) = code < 128
IsLow ends.Limit = Unit {0}

abbrev GivesLow : Next → Type 0
GivesLow (Goes s) = Unit {0}
GivesLow (Ends e) = IsLow e

exit_case : (pc code : ℕ) (t : Bool) → nat_lt code 128 ≡ t → GivesLow (cond t (Ends (ends.Exit code)) (trap pc traps.Abort code))
exit_case pc code true e = grind (arith, nat_tests)
exit_case pc code false e = tt

jump_case : (pc target : ℕ) (after : State) (t : Bool) → GivesLow (cond t (Goes (at target after)) (trap pc traps.MisalignedJump target))
jump_case pc target after true = tt
jump_case pc target after false = tt

jump_low : (pc target : ℕ) (after : State) → GivesLow (jump pc target after)
jump_low pc target after = jump_case pc target after (target % 4 == 0)

branch_low : (s : State) (t : Bool) (target : ℕ) → GivesLow (cond t (jump s.pc target s) (Goes (at (following s.pc) s)))
branch_low s true target = jump_low s.pc target s
branch_low s false target = tt

load_low : (s : State) (width : Width) (rd a : ℕ) (o : Option ℕ) → GivesLow (after_load s width rd a o)
load_low s width rd a None = tt
load_low s width rd a (Some fault) = tt

store_low : (s : State) (width : Width) (value a : ℕ) (o : Option ℕ) → GivesLow (after_store s width value a o)
store_low s width value a None = tt
store_low s width value a (Some fault) = tt

call_low : (x : List ℕ) (s : State) (reply : Reply) → GivesLow (after_call x s reply)
call_low x s (Answers v) = tt
call_low x s (Moves k) = tt
call_low x s (Breaks heap a) = tt
call_low x s (Exits code) = exit_case s.pc code (nat_lt code 128) refl

effect_low : (x : List ℕ) (s : State) (w : ℕ) (i : Instr) → GivesLow (effect x s w i).next
unfolding effect
effect_low x s w (Lui rd imm) = tt
effect_low x s w (Auipc rd imm) = tt
effect_low x s w (Jal rd offset) = jump_low s.pc ((s.pc + bits offset) % 2 ^ 32) (write_reg rd (following s.pc) s)
effect_low x s w (Jalr rd rs1 imm) = jump_low s.pc (even (address_of s rs1 (bits imm))) (write_reg rd (following s.pc) s)
effect_low x s w (Branch c rs1 rs2 offset) = branch_low s (taken c (reg s rs1) (reg s rs2)) ((s.pc + bits offset) % 2 ^ 32)
effect_low x s w (Load width rd rs1 imm) = load_low s width rd (address_of s rs1 (bits imm)) (first_without read s.memory (address_of s rs1 (bits imm)) (size_of width))
effect_low x s w (Store width rs1 rs2 imm) = store_low s width (reg s rs2) (address_of s rs1 (bits imm)) (first_without write s.memory (address_of s rs1 (bits imm)) (size_of width))
effect_low x s w (AluImm op rd rs1 imm) = tt
effect_low x s w (AluReg op rd rs1 rs2) = tt
effect_low x s w (Fence word) = tt
effect_low x s w Ecall = call_low x s (reply_to s.memory s.heap (length x - s.place) (reg s 17) (reg s 10) (reg s 11) (reg s 12))
effect_low x s w Ebreak = tt

executed_low : (x : List ℕ) (s : State) (w : ℕ) (o : Option Instr) → GivesLow (executed x s w o).next
executed_low x s w None = tt
executed_low x s w (Some i) = effect_low x s w i

fetch_low : (x : List ℕ) (s : State) (o : Option ℕ) → GivesLow (after_fetch x s o).next
fetch_low x s (Some fault) = tt
fetch_low x s None = executed_low x s (word_at s.memory s.pc) (decoded (word_at s.memory s.pc))

step_low : (x : List ℕ) (s : State) → GivesLow (step x s).next
unfolding step
step_low x s = fetch_low x s (first_without execute s.memory s.pc 4)

onward_low : (n : ℕ) (x : List ℕ) (next : Next) → ((s : State) → IsLow (trace_from n x s).end) → GivesLow next → IsLow (onward (trace_from n x) next).end
onward_low n x (Goes s) further h = further s
onward_low n x (Ends e) further h = h

trace_low : (n : ℕ) (x : List ℕ) (s : State) → IsLow (trace_from n x s).end
unfolding trace_from
trace_low zero x s = tt
trace_low (suc n) x s = onward_low n x (step x s).next (trace_low n x) (step_low x s)

low_code : (e : End) (code : ℕ) → IsLow e → e ≡ ends.Exit code → code < 128
low_code e code l h = subst IsLow h l

pub exit_of_run : (x : List ℕ) (s : State) (limit code : ℕ) → (trace_from limit x s).end ≡ ends.Exit code → code < 128
exit_of_run x s limit code h = low_code (trace_from limit x s).end code (trace_low limit x s) h

pub exit_of_program : (program : Program) (x : List ℕ) (limit code : ℕ) → (transcript_of program x limit).end ≡ ends.Exit code → code < 128
unfolding transcript_of
exit_of_program program x limit code h = exit_of_run x (start program.entry program.segments) limit code h
