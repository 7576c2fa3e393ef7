-- A step keeps what holds of each state.
use Rattle.std.proofs.Common.{◌≡◌, ℕ, zero, suc, ◌+◌, ◌-◌, ◌%◌, ◌^◌, ◌<◌, ◌≤◌, ◌==◌, ◌||◌, List, [], ◌∷◌, length, get_or, set, min, Bool, true, false, cond, Option, Some, None, IfSome, nat_lt, refl, ◌∙◌, arith, length-set}
use Rattle.std.proofs.lemmas.Bool.Decides.{nat_tests}
use Rattle.memory_map.specs.Cells.{Map, first_without, read, write, execute, word_at, placed}
use Rattle.memory_map.specs.declared.heap.Heap.{Heap}
use Rattle.memory_map.specs.Heaps.{may_break, with_break}
use Rattle.rv_word.specs.Word.{alu, bits}
use Rattle.rv_word.proofs.Words.{bits_below}
use Rattle.rv_decode.specs.Table.{decoded}
use Rattle.rv_decode.specs.declared.instr.Width.{Width}
use Rattle.rv_decode.specs.declared.instr.Instr.{Instr}
use Rattle.rv_decode.specs.declared.instr.Instr.TheVariants.{Lui, Auipc, Jal, Jalr, Branch, Load, Store, AluImm, AluReg, Fence, Ecall, Ebreak}
use Rattle.rv_event.specs.declared.event.TrapKind.TheVariants as traps
use Rattle.rv_event.specs.declared.event.End.TheVariants as ends
use Rattle.call_replies.specs.declared.Reply.{Reply}
use Rattle.call_replies.specs.declared.Reply.TheVariants.{Answers, Moves, Breaks, Exits}
use Rattle.call_replies.specs.Replies.{moved}
use Rattle.call_replies.proofs.Replies.{IsWord, moves_at_most, puts_a_word}
use Rattle.rv_machine.specs.State.{State, Goes, Ends, reg, write_reg, at, following, trap}
use Rattle.rv_machine.specs.Effects.{goes_on, jump, exit, taken, loaded, stored, input_bytes, address_of, even, after_load, after_store, after_call, effect, executed, after_fetch, step}
use Rattle.machine_laws.specs.Kept.{IsState, Keeps, HoldsBytes}
use Rattle.machine_laws.proofs.Words.{alu_fits}
use Rattle.machine_laws.proofs.Bytes.{Bytes, break_bytes, placed_bytes, loaded_fits, stored_fits, input_fits}

-- ---- registers

set_words : (rs : List ℕ) (d v r : ℕ) → ((k : ℕ) → get_or rs k 0 < 2 ^ 32) → v < 2 ^ 32 → get_or (set rs d v) r 0 < 2 ^ 32
set_words [] d v r h l = h r
set_words (y ∷ ys) zero v zero h l = l
set_words (y ∷ ys) zero v (suc r) h l = h (suc r)
set_words (y ∷ ys) (suc d) v zero h l = h 0
set_words (y ∷ ys) (suc d) v (suc r) h l = set_words ys d v r (λ k. h (suc k)) l

set_zero : (rs : List ℕ) (d v : ℕ) → (d == 0) ≡ false → get_or (set rs d v) 0 0 ≡ get_or rs 0 0
set_zero [] d v h = refl
set_zero (y ∷ ys) zero v h = cc
set_zero (y ∷ ys) (suc d) v h = refl

written_kept : (x : List ℕ) (rd v : ℕ) (s : State) (t : Bool) → (rd == 0) ≡ t → v < 2 ^ 32 → IsState x s → IsState x (record s { registers = cond t s.registers (set s.registers rd v) })
written_kept x rd v s true e l h = h
written_kept x rd v s false e l h = record {
  count = length-set s.registers rd v ∙ h.count;
  words = λ r. set_words s.registers rd v r h.words l;
  zero_register = set_zero s.registers rd v e ∙ h.zero_register;
  pc = h.pc;
  aligned = h.aligned;
  memory = h.memory;
  heap = h.heap;
  place = h.place;
}

register_kept : (x : List ℕ) (rd v : ℕ) (s : State) → v < 2 ^ 32 → IsState x s → IsState x (write_reg rd v s)
register_kept x rd v s l h = written_kept x rd v s (rd == 0) refl l h

-- ---- the program counter

at_kept : (x : List ℕ) (t : ℕ) (s : State) → t < 2 ^ 32 → t % 4 ≡ 0 → IsState x s → IsState x (at t s)
at_kept x t s l a h = record { count = h.count; words = h.words; zero_register = h.zero_register; pc = l; aligned = a; memory = h.memory; heap = h.heap; place = h.place }

next_fits : (pc : ℕ) → following pc < 2 ^ 32
next_fits pc = omega arith

next_aligned : (pc : ℕ) → pc % 4 ≡ 0 → following pc % 4 ≡ 0
next_aligned pc h = omega arith

mod_fits : (n : ℕ) → n % 2 ^ 32 < 2 ^ 32
mod_fits n = omega arith

even_fits : (n : ℕ) → n < 2 ^ 32 → even n < 2 ^ 32
even_fits n h = omega arith

-- a state after another, at the instruction that follows
onward_kept : (x : List ℕ) (s after : State) → IsState x s → IsState x after → IsState x (at (following s.pc) after)
onward_kept x s after h k = at_kept x (following s.pc) after (next_fits s.pc) (next_aligned s.pc h.aligned) k

goes_kept : (x : List ℕ) (s : State) (rd v : ℕ) → v < 2 ^ 32 → IsState x s → Keeps (IsState x) (goes_on s rd v)
goes_kept x s rd v l h = onward_kept x s (write_reg rd v s) h (register_kept x rd v s l h)

aligned_target : (target : ℕ) → (target % 4 == 0) ≡ true → target % 4 ≡ 0
aligned_target target e = grind (arith, nat_tests)

jump_case : (x : List ℕ) (pc target : ℕ) (after : State) (t : Bool) → (target % 4 == 0) ≡ t → target < 2 ^ 32 → IsState x after → Keeps (IsState x) (cond t (Goes (at target after)) (trap pc traps.MisalignedJump target))
jump_case x pc target after true e l h = at_kept x target after l (aligned_target target e) h
jump_case x pc target after false e l h = refl

jump_kept : (x : List ℕ) (pc target : ℕ) (after : State) → target < 2 ^ 32 → IsState x after → Keeps (IsState x) (jump pc target after)
jump_kept x pc target after l h = jump_case x pc target after (target % 4 == 0) refl l h

branch_kept : (x : List ℕ) (s : State) (t : Bool) (target : ℕ) → target < 2 ^ 32 → IsState x s → Keeps (IsState x) (cond t (jump s.pc target s) (Goes (at (following s.pc) s)))
branch_kept x s true target l h = jump_kept x s.pc target s l h
branch_kept x s false target l h = onward_kept x s s h h

-- ---- memory

load_kept : (x : List ℕ) (s : State) (width : Width) (rd a : ℕ) (o : Option ℕ) → IsState x s → Keeps (IsState x) (after_load s width rd a o)
load_kept x s width rd a None h = goes_kept x s rd (loaded s.memory width a) (loaded_fits s.memory width a h.memory) h
load_kept x s width rd a (Some fault) h = refl

with_memory : (x : List ℕ) (s : State) (m : Map) (p : ℕ) → HoldsBytes m → p ≤ length x → IsState x s → IsState x (record s { memory = m; place = p })
with_memory x s m p b l h = record { count = h.count; words = h.words; zero_register = h.zero_register; pc = h.pc; aligned = h.aligned; memory = b; heap = h.heap; place = l }

store_kept : (x : List ℕ) (s : State) (width : Width) (value a : ℕ) (o : Option ℕ) → IsState x s → Keeps (IsState x) (after_store s width value a o)
store_kept x s width value a None h =
    onward_kept x s (record s { memory = placed s.memory a (stored width value) }) h
    (with_memory x s (placed s.memory a (stored width value)) s.place (placed_bytes (stored width value) s.memory a (stored_fits width value) h.memory) h.place h)
store_kept x s width value a (Some fault) h = refl

-- ---- calls

moved_kept : (x : List ℕ) (s : State) (k : ℕ) → Bytes x → k ≤ length x - s.place → IsState x s → IsState x (record s { memory = placed s.memory (reg s 11) (input_bytes x s.place k); place = s.place + k })
moved_kept x s k b l h =
    let within : s.place ≤ length x = h.place in
    with_memory x s (placed s.memory (reg s 11) (input_bytes x s.place k)) (s.place + k) (placed_bytes (input_bytes x s.place k) s.memory (reg s 11) (input_fits k s.place x b) h.memory) (omega arith) h

with_heap : (x : List ℕ) (s : State) (m : Map) (heap : Heap) → HoldsBytes m → heap.brk < 2 ^ 32 → IsState x s → IsState x (record s { memory = m; heap = Some heap })
with_heap x s m heap b l h = record { count = h.count; words = h.words; zero_register = h.zero_register; pc = h.pc; aligned = h.aligned; memory = b; heap = l; place = h.place }

exit_kept : (x : List ℕ) (pc code : ℕ) → Keeps (IsState x) (exit pc code)
exit_kept x pc code = elim (nat_lt code 128) as (λ t. Keeps (IsState x) (cond t (Ends (ends.Exit code)) (trap pc traps.Abort code))) [ true ↦ refl | false ↦ refl ]

call_kept : (x : List ℕ) (s : State) (reply : Reply) → Bytes x → IsWord reply → moved reply ≤ length x - s.place → IsState x s → Keeps (IsState x) (after_call x s reply)
call_kept x s (Answers v) b r m h = goes_kept x s 10 v r h
call_kept x s (Moves k) b r m h = goes_kept x (record s { memory = placed s.memory (reg s 11) (input_bytes x s.place k); place = s.place + k }) 10 k r (moved_kept x s k b m h)
call_kept x s (Breaks heap a) b r m h =
    goes_kept x (record s { memory = with_break s.memory heap.brk a; heap = Some (record { start = heap.start; brk = a }) }) 10 a r
    (with_heap x s (with_break s.memory heap.brk a) (record { start = heap.start; brk = a }) (break_bytes s.memory heap.brk a h.memory) r h)
call_kept x s (Exits code) b r m h = exit_kept x s.pc code

-- ---- instructions

effect_kept : (x : List ℕ) (s : State) (w : ℕ) (i : Instr) → Bytes x → IsState x s → Keeps (IsState x) (effect x s w i).next
unfolding effect
effect_kept x s w (Lui rd imm) b h = goes_kept x s rd (bits imm) (bits_below imm) h
effect_kept x s w (Auipc rd imm) b h = goes_kept x s rd ((s.pc + bits imm) % 2 ^ 32) (mod_fits (s.pc + bits imm)) h
effect_kept x s w (Jal rd offset) b h = jump_kept x s.pc ((s.pc + bits offset) % 2 ^ 32) (write_reg rd (following s.pc) s) (mod_fits (s.pc + bits offset)) (register_kept x rd (following s.pc) s (next_fits s.pc) h)
effect_kept x s w (Jalr rd rs1 imm) b h = jump_kept x s.pc (even (address_of s rs1 (bits imm))) (write_reg rd (following s.pc) s) (even_fits (address_of s rs1 (bits imm)) (mod_fits (reg s rs1 + bits imm))) (register_kept x rd (following s.pc) s (next_fits s.pc) h)
effect_kept x s w (Branch c rs1 rs2 offset) b h = branch_kept x s (taken c (reg s rs1) (reg s rs2)) ((s.pc + bits offset) % 2 ^ 32) (mod_fits (s.pc + bits offset)) h
effect_kept x s w (Load width rd rs1 imm) b h = load_kept x s width rd (address_of s rs1 (bits imm)) _ h
effect_kept x s w (Store width rs1 rs2 imm) b h = store_kept x s width (reg s rs2) (address_of s rs1 (bits imm)) _ h
effect_kept x s w (AluImm op rd rs1 imm) b h = goes_kept x s rd (alu op (reg s rs1) (bits imm)) (alu_fits op _ _ (h.words rs1) (bits_below imm)) h
effect_kept x s w (AluReg op rd rs1 rs2) b h = goes_kept x s rd (alu op (reg s rs1) (reg s rs2)) (alu_fits op _ _ (h.words rs1) (h.words rs2)) h
effect_kept x s w (Fence word) b h = onward_kept x s s h h
effect_kept x s w Ecall b h =
    call_kept x s _ b (puts_a_word s.memory s.heap (length x - s.place) (reg s 17) (reg s 10) (reg s 11) (reg s 12) h.heap (h.words 10) (h.words 12))
    (moves_at_most s.memory s.heap (length x - s.place) (reg s 17) (reg s 10) (reg s 11) (reg s 12)) h
effect_kept x s w Ebreak b h = refl

executed_kept : (x : List ℕ) (s : State) (w : ℕ) (o : Option Instr) → Bytes x → IsState x s → Keeps (IsState x) (executed x s w o).next
executed_kept x s w None b h = refl
executed_kept x s w (Some i) b h = effect_kept x s w i b h

fetch_kept : (x : List ℕ) (s : State) (o : Option ℕ) → Bytes x → IsState x s → Keeps (IsState x) (after_fetch x s o).next
fetch_kept x s (Some fault) b h = refl
fetch_kept x s None b h = executed_kept x s (word_at s.memory s.pc) (decoded (word_at s.memory s.pc)) b h

-- a step keeps what holds of each state
pub step_kept : (x : List ℕ) (s : State) → Bytes x → IsState x s → Keeps (IsState x) (step x s).next
unfolding step
step_kept x s b h = fetch_kept x s (first_without execute s.memory s.pc 4) b h
