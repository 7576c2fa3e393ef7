-- The trap that ends a run has a word for its program counter and for its value.
use Rattle.std.proofs.Common.{◌≡◌, ℕ, zero, suc, ◌+◌, ◌-◌, ◌%◌, ◌^◌, ◌<◌, ◌==◌, ◌||◌, nat_lt, List, length, min, Bool, true, false, cond, Option, Some, None, IfSome, subst, arith, All}
use Rattle.elf32.specs.Loads.{Program}
use Rattle.memory_map.specs.Cells.{Map, can, first_without, next_address, read, write, execute, word_at}
use Rattle.std.specs.FinMap.{get}
use Rattle.memory_map.specs.declared.heap.Heap.{Heap}
use Rattle.memory_map.specs.Heaps.{may_break}
use Rattle.rv_decode.specs.Table.{decoded}
use Rattle.rv_decode.specs.declared.instr.Width.{Width}
use Rattle.rv_decode.specs.declared.instr.Instr.{Instr}
use Rattle.rv_decode.specs.declared.instr.Instr.TheVariants.{Lui, Auipc, Jal, Jalr, Branch, Load, Store, AluImm, AluReg, Fence, Ecall, Ebreak}
use Rattle.rv_event.specs.declared.event.End.{End}
use Rattle.rv_event.specs.declared.event.End.TheVariants as ends
use Rattle.rv_event.specs.declared.event.Trap.{Trap}
use Rattle.rv_event.specs.declared.event.TrapKind.TheVariants as traps
use Rattle.rv_machine.specs.State.{State, Next, Goes, Ends, reg, write_reg, at, following, trap, start}
use Rattle.rv_word.specs.Word.{bits}
use Rattle.call_replies.specs.declared.Reply.{Reply}
use Rattle.call_replies.specs.declared.Reply.TheVariants.{Answers, Moves, Breaks, Exits}
use Rattle.call_replies.specs.Calls.{bad_descriptor, no_such_call, if_none, read_reply, write_reply, break_reply, reply_to}
use Rattle.rv_machine.specs.Effects.{jump, taken, size_of, address_of, even, after_load, after_store, after_call, effect, executed, after_fetch, step}
use Rattle.rv_machine.specs.Trace.{onward, trace_from, transcript_of}
use Rattle.machine_laws.specs.Kept.{IsState, Keeps}
use Rattle.machine_laws.proofs.Bytes.{Bytes, word_fits}
use Rattle.machine_laws.proofs.Starts.{start_kept}
use Rattle.machine_laws.proofs.Steps.{step_kept}

-- an end that is no trap, or one of words
abbrev OfWords : End → Type 0
OfWords (ends.Trap t) = (t.pc < 2 ^ 32) × (t.value < 2 ^ 32)
OfWords (ends.Exit code) = Unit {0}
OfWords ends.Limit = Unit {0}

abbrev GivesWords : Next → Type 0
GivesWords (Goes s) = Unit {0}
GivesWords (Ends e) = OfWords e

-- ---- jumps, loads and stores

jump_case : (pc target : ℕ) (after : State) (t : Bool) → pc < 2 ^ 32 → target < 2 ^ 32 → GivesWords (cond t (Goes (at target after)) (trap pc traps.MisalignedJump target))
jump_case pc target after true l h = tt
jump_case pc target after false l h = (l, h)

jump_words : (pc target : ℕ) (after : State) → pc < 2 ^ 32 → target < 2 ^ 32 → GivesWords (jump pc target after)
jump_words pc target after l h = jump_case pc target after (target % 4 == 0) l h

branch_words : (s : State) (t : Bool) (target : ℕ) → s.pc < 2 ^ 32 → target < 2 ^ 32 → GivesWords (cond t (jump s.pc target s) (Goes (at (following s.pc) s)))
branch_words s true target l h = jump_words s.pc target s l h
branch_words s false target l h = tt

-- the first of some addresses that lacks a right is a word
first_word : (right : ℕ) (m : Map) (a n : ℕ) → a < 2 ^ 32 → IfSome (first_without right m a n) (λ fault. fault < 2 ^ 32)
unfolding first_without
first_word right m a zero l = tt
first_word right m a (suc n) l = by (can right (get m a)) (first_word right m (next_address a) n (omega arith))
  where
    by : (t : Bool) → IfSome (first_without right m (next_address a) n) (λ fault. fault < 2 ^ 32) → IfSome (cond t (first_without right m (next_address a) n) (Some a)) (λ fault. fault < 2 ^ 32)
    by true further = further
    by false further = l

load_words : (s : State) (width : Width) (rd a : ℕ) (o : Option ℕ) → s.pc < 2 ^ 32 → IfSome o (λ fault. fault < 2 ^ 32) → GivesWords (after_load s width rd a o)
load_words s width rd a None l h = tt
load_words s width rd a (Some fault) l h = (l, h)

store_words : (s : State) (width : Width) (value a : ℕ) (o : Option ℕ) → s.pc < 2 ^ 32 → IfSome o (λ fault. fault < 2 ^ 32) → GivesWords (after_store s width value a o)
store_words s width value a None l h = tt
store_words s width value a (Some fault) l h = (l, h)

-- ---- calls

-- an exit has a word for its code
abbrev ExitsByWord : Reply → Type 0
ExitsByWord (Exits code) = code < 2 ^ 32
ExitsByWord _ = Unit {0}

if_none_word : (o : Option ℕ) (reply : Reply) → ExitsByWord reply → ExitsByWord (if_none o reply)
if_none_word None reply h = h
if_none_word (Some address) reply h = tt

either_word : (t : Bool) (a b : Reply) → ExitsByWord a → ExitsByWord b → ExitsByWord (cond t a b)
either_word true a b h l = h
either_word false a b h l = l

read_word : (m : Map) (left a0 a1 a2 : ℕ) → ExitsByWord (read_reply m left a0 a1 a2)
read_word m left a0 a1 a2 = either_word (a0 == 0) _ (Answers bad_descriptor) (if_none_word (first_without write m a1 (min a2 left)) (Moves (min a2 left)) tt) tt

write_word : (m : Map) (a0 a1 a2 : ℕ) → ExitsByWord (write_reply m a0 a1 a2)
write_word m a0 a1 a2 = either_word ((a0 == 1) || (a0 == 2)) _ (Answers bad_descriptor) (if_none_word (first_without read m a1 a2) (Answers a2) tt) tt

break_word : (heap : Option Heap) (a0 : ℕ) → ExitsByWord (break_reply heap a0)
break_word None a0 = tt
break_word (Some heap) a0 = either_word (may_break heap a0) (Breaks heap a0) (Answers heap.brk) tt tt

reply_word : (m : Map) (heap : Option Heap) (left a7 a0 a1 a2 : ℕ) → a0 < 2 ^ 32 → ExitsByWord (reply_to m heap left a7 a0 a1 a2)
unfolding reply_to
reply_word m heap left a7 a0 a1 a2 l =
    either_word (a7 == 63) (read_reply m left a0 a1 a2) _ (read_word m left a0 a1 a2)
    (either_word (a7 == 64) (write_reply m a0 a1 a2) _ (write_word m a0 a1 a2)
    (either_word ((a7 == 93) || (a7 == 94)) (Exits a0) _ l
    (either_word (a7 == 214) (break_reply heap a0) (Answers no_such_call) (break_word heap a0) tt)))

exit_case : (pc code : ℕ) (t : Bool) → pc < 2 ^ 32 → code < 2 ^ 32 → GivesWords (cond t (Ends (ends.Exit code)) (trap pc traps.Abort code))
exit_case pc code true l h = tt
exit_case pc code false l h = (l, h)

call_words : (x : List ℕ) (s : State) (reply : Reply) → s.pc < 2 ^ 32 → ExitsByWord reply → GivesWords (after_call x s reply)
call_words x s (Answers v) l h = tt
call_words x s (Moves k) l h = tt
call_words x s (Breaks heap a) l h = tt
call_words x s (Exits code) l h = exit_case s.pc code (nat_lt code 128) l h

-- ---- instructions

address_word : (s : State) (rs1 imm : ℕ) → address_of s rs1 imm < 2 ^ 32
address_word s rs1 imm = omega arith

effect_words : (x : List ℕ) (s : State) (w : ℕ) (i : Instr) → IsState x s → GivesWords (effect x s w i).next
unfolding effect
effect_words x s w (Lui rd imm) h = tt
effect_words x s w (Auipc rd imm) h = tt
effect_words x s w (Jal rd offset) h = jump_words s.pc ((s.pc + bits offset) % 2 ^ 32) (write_reg rd (following s.pc) s) h.pc (omega arith)
effect_words x s w (Jalr rd rs1 imm) h =
    let l : address_of s rs1 (bits imm) < 2 ^ 32 = address_word s rs1 (bits imm) in
    jump_words s.pc (even (address_of s rs1 (bits imm))) (write_reg rd (following s.pc) s) h.pc (omega arith)
effect_words x s w (Branch c rs1 rs2 offset) h = branch_words s (taken c (reg s rs1) (reg s rs2)) ((s.pc + bits offset) % 2 ^ 32) h.pc (omega arith)
effect_words x s w (Load width rd rs1 imm) h =
    load_words s width rd (address_of s rs1 (bits imm)) _ h.pc (first_word read s.memory (address_of s rs1 (bits imm)) (size_of width) (address_word s rs1 (bits imm)))
effect_words x s w (Store width rs1 rs2 imm) h =
    store_words s width (reg s rs2) (address_of s rs1 (bits imm)) _ h.pc (first_word write s.memory (address_of s rs1 (bits imm)) (size_of width) (address_word s rs1 (bits imm)))
effect_words x s w (AluImm op rd rs1 imm) h = tt
effect_words x s w (AluReg op rd rs1 rs2) h = tt
effect_words x s w (Fence word) h = tt
effect_words x s w Ecall h = call_words x s _ h.pc (reply_word s.memory s.heap (length x - s.place) (reg s 17) (reg s 10) (reg s 11) (reg s 12) (h.words 10))
effect_words x s w Ebreak h = (h.pc, omega arith)

executed_words : (x : List ℕ) (s : State) (w : ℕ) (o : Option Instr) → w < 2 ^ 32 → IsState x s → GivesWords (executed x s w o).next
executed_words x s w None l h = (h.pc, l)
executed_words x s w (Some i) l h = effect_words x s w i h

fetch_words : (x : List ℕ) (s : State) (o : Option ℕ) → IsState x s → GivesWords (after_fetch x s o).next
fetch_words x s (Some fault) h = (h.pc, h.pc)
fetch_words x s None h = executed_words x s (word_at s.memory s.pc) (decoded (word_at s.memory s.pc)) (word_fits s.memory s.pc h.memory) h

step_words : (x : List ℕ) (s : State) → IsState x s → GivesWords (step x s).next
unfolding step
step_words x s h = fetch_words x s (first_without execute s.memory s.pc 4) h

-- ---- runs

onward_words : (n : ℕ) (x : List ℕ) (next : Next) → ((s : State) → IsState x s → OfWords (trace_from n x s).end) → GivesWords next → Keeps (IsState x) next → OfWords (onward (trace_from n x) next).end
onward_words n x (Goes s) further g kept = further s kept
onward_words n x (Ends e) further g kept = g

trace_words : (n : ℕ) (x : List ℕ) (s : State) → Bytes x → IsState x s → OfWords (trace_from n x s).end
unfolding trace_from
trace_words zero x s b h = tt
trace_words (suc n) x s b h = onward_words n x (step x s).next (λ t kept. trace_words n x t b kept) (step_words x s h) (step_kept x s b h)

-- the trap that ends a program's run
pub trap_of_program : (program : Program) (x : List ℕ) (limit : ℕ) (t : Trap) → program.entry < 2 ^ 32 → program.entry % 4 ≡ 0 → All (λ s. All (λ b. b < 256) s.bytes) program.segments → Bytes x
    → (transcript_of program x limit).end ≡ ends.Trap t → (t.pc < 2 ^ 32) × (t.value < 2 ^ 32)
unfolding transcript_of
trap_of_program program x limit t entry aligned segments b end =
    subst OfWords end (trace_words limit x (start program.entry program.segments) b (start_kept x program.entry program.segments entry aligned segments))
