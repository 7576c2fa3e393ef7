-- The program counter stays a multiple of 4.
use Rattle.std.proofs.Common.{◌≡◌, ℕ, ◌+◌, ◌%◌, ◌^◌, List, Option, Some, None, Bool, true, false, if◌then◌else◌, refl, arith, ◌==◌, length, ◌-◌}
use Rattle.std.proofs.lemmas.Bool.{eqb-true}
use Rattle.rv_word.specs.Word.{bits}
use Rattle.rv_event.specs.declared.event.TrapKind.TheVariants as traps
use Rattle.rv_decode.specs.Table.{decoded}
use Rattle.rv_decode.specs.declared.instr.Instr.{Instr}
use Rattle.rv_decode.specs.declared.instr.Instr.TheVariants.{Lui, Auipc, Jal, Jalr, Branch, Load, Store, AluImm, AluReg, Fence, Ecall, Ebreak}
use Rattle.rv_decode.specs.declared.instr.Width.{Width}
use Rattle.memory_map.specs.Cells.{execute, read, write, first_without, word_at}
use Rattle.call_replies.specs.declared.Reply.{Reply}
use Rattle.call_replies.specs.declared.Reply.TheVariants.{Answers, Moves, Breaks, Exits}
use Rattle.call_replies.specs.Calls.{reply_to}
use Rattle.rv_machine.specs.State.{State, Goes, reg, write_reg, at, following, trap}
use Rattle.rv_machine.specs.Effects.{even, jump, taken, size_of, after_load, after_store, after_call, address_of, executed, after_fetch, step, effect}
use Rattle.replay_law.proofs.Stepping.{OnGoes, exit_goes}

-- the program counter is a multiple of 4
abbrev pub IsAligned : State → Type 0
IsAligned s = s.pc % 4 ≡ 0

-- so is the address of the next instruction
following_aligned : (pc : ℕ) → pc % 4 ≡ 0 → following pc % 4 ≡ 0
following_aligned pc e = omega arith

-- a jump, by the test of its target
jump_if : (b : Bool) (pc t : ℕ) (a : State) → (b ≡ true → t % 4 ≡ 0) → OnGoes IsAligned (if b then Goes (at t a) else trap pc traps.MisalignedJump t)
jump_if true pc t a f = f refl
jump_if false pc t a f = tt

-- a jump
jump_aligned : (pc t : ℕ) (a : State) → OnGoes IsAligned (jump pc t a)
jump_aligned pc t a = jump_if (t % 4 == 0) pc t a (λ e. eqb-true (t % 4) 0 e)

-- a branch
branch_aligned : (b : Bool) (pc t : ℕ) (s : State) → pc % 4 ≡ 0 → OnGoes IsAligned (if b then jump pc t s else Goes (at (following pc) s))
branch_aligned true pc t s e = jump_aligned pc t s
branch_aligned false pc t s e = following_aligned pc e

-- a load
load_aligned : (s : State) (width : Width) (rd a : ℕ) (o : Option ℕ) → s.pc % 4 ≡ 0 → OnGoes IsAligned (after_load s width rd a o)
load_aligned s width rd a None e = following_aligned s.pc e
load_aligned s width rd a (Some fault) e = tt

-- a store
store_aligned : (s : State) (width : Width) (v a : ℕ) (o : Option ℕ) → s.pc % 4 ≡ 0 → OnGoes IsAligned (after_store s width v a o)
store_aligned s width v a None e = following_aligned s.pc e
store_aligned s width v a (Some fault) e = tt

-- a call
call_aligned : (x : List ℕ) (s : State) (r : Reply) → s.pc % 4 ≡ 0 → OnGoes IsAligned (after_call x s r)
call_aligned x s (Answers v) e = following_aligned s.pc e
call_aligned x s (Moves k) e = following_aligned s.pc e
call_aligned x s (Breaks h a) e = following_aligned s.pc e
call_aligned x s (Exits code) e = exit_goes IsAligned s.pc code

-- an instruction, or an illegal word
row_aligned : (x : List ℕ) (s : State) (word : ℕ) (o : Option Instr) → s.pc % 4 ≡ 0 → OnGoes IsAligned (executed x s word o).next
unfolding effect
row_aligned x s word None e = tt
row_aligned x s word (Some (Lui rd imm)) e = following_aligned s.pc e
row_aligned x s word (Some (Auipc rd imm)) e = following_aligned s.pc e
row_aligned x s word (Some (Jal rd offset)) e = jump_aligned s.pc ((s.pc + bits offset) % 2 ^ 32) (write_reg rd (following s.pc) s)
row_aligned x s word (Some (Jalr rd rs1 imm)) e = jump_aligned s.pc (even (address_of s rs1 (bits imm))) (write_reg rd (following s.pc) s)
row_aligned x s word (Some (Branch c rs1 rs2 offset)) e = branch_aligned (taken c (reg s rs1) (reg s rs2)) s.pc ((s.pc + bits offset) % 2 ^ 32) s e
row_aligned x s word (Some (Load width rd rs1 imm)) e = load_aligned s width rd (address_of s rs1 (bits imm)) (first_without read s.memory (address_of s rs1 (bits imm)) (size_of width)) e
row_aligned x s word (Some (Store width rs1 rs2 imm)) e = store_aligned s width (reg s rs2) (address_of s rs1 (bits imm)) (first_without write s.memory (address_of s rs1 (bits imm)) (size_of width)) e
row_aligned x s word (Some (AluImm op rd rs1 imm)) e = following_aligned s.pc e
row_aligned x s word (Some (AluReg op rd rs1 rs2)) e = following_aligned s.pc e
row_aligned x s word (Some (Fence bits')) e = following_aligned s.pc e
row_aligned x s word (Some Ecall) e = call_aligned x s (reply_to s.memory s.heap (length x - s.place) (reg s 17) (reg s 10) (reg s 11) (reg s 12)) e
row_aligned x s word (Some Ebreak) e = tt

-- a step, by its fetch
fetch_aligned : (x : List ℕ) (s : State) (o : Option ℕ) → s.pc % 4 ≡ 0 → OnGoes IsAligned (after_fetch x s o).next
fetch_aligned x s None e = row_aligned x s (word_at s.memory s.pc) (decoded (word_at s.memory s.pc)) e
fetch_aligned x s (Some fault) e = tt

-- a step
pub step_aligned : (x : List ℕ) (s : State) → s.pc % 4 ≡ 0 → OnGoes IsAligned (step x s).next
unfolding step
step_aligned x s e = fetch_aligned x s (first_without execute s.memory s.pc 4) e

-- the program counter of an event
executed_pc : (x : List ℕ) (s : State) (word : ℕ) (o : Option Instr) → (executed x s word o).event.pc ≡ s.pc
unfolding effect
executed_pc x s word None = refl
executed_pc x s word (Some (Lui rd imm)) = refl
executed_pc x s word (Some (Auipc rd imm)) = refl
executed_pc x s word (Some (Jal rd offset)) = refl
executed_pc x s word (Some (Jalr rd rs1 imm)) = refl
executed_pc x s word (Some (Branch c rs1 rs2 offset)) = refl
executed_pc x s word (Some (Load width rd rs1 imm)) = refl
executed_pc x s word (Some (Store width rs1 rs2 imm)) = refl
executed_pc x s word (Some (AluImm op rd rs1 imm)) = refl
executed_pc x s word (Some (AluReg op rd rs1 rs2)) = refl
executed_pc x s word (Some (Fence bits')) = refl
executed_pc x s word (Some Ecall) = refl
executed_pc x s word (Some Ebreak) = refl

-- the program counter of the event of a step, by its fetch
fetch_pc : (x : List ℕ) (s : State) (o : Option ℕ) → (after_fetch x s o).event.pc ≡ s.pc
fetch_pc x s None = executed_pc x s (word_at s.memory s.pc) (decoded (word_at s.memory s.pc))
fetch_pc x s (Some fault) = refl

-- the program counter of the event of a step
pub step_pc : (x : List ℕ) (s : State) → (step x s).event.pc ≡ s.pc
unfolding step
step_pc x s = fetch_pc x s (first_without execute s.memory s.pc 4)
