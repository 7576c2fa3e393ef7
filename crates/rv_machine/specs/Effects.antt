-- One step of the machine, in the order of the RISC-V unprivileged ISA's chapters "RV32I", "Zifencei" and "M".
use Rattle.std.specs.Prelude.{ℕ, zero, suc, ◌+◌, ◌-◌, ◌/◌, ◌%◌, ◌^◌, ◌==◌, nat_lt, int_lt, List, [], ◌∷◌, length, Bool, not, Option, Some, None, slice_index, if◌then◌else◌}
use Rattle.std.specs.Int.{cast_unsigned, w32}
use Rattle.rv_word.specs.Word.{alu, bits, signed}
use Rattle.rv_decode.specs.Fields.{sign_extended}
use Rattle.rv_decode.specs.Table.{decoded}
use Rattle.rv_decode.specs.declared.instr.Instr.{Instr}
use Rattle.rv_decode.specs.declared.instr.Instr.TheVariants.{Lui, Auipc, Jal, Jalr, Branch, Load, Store, AluImm, AluReg, Fence, Ecall, Ebreak}
use Rattle.rv_decode.specs.declared.instr.Cond.{Cond}
use Rattle.rv_decode.specs.declared.instr.Cond.TheVariants as conds
use Rattle.rv_decode.specs.declared.instr.Width.{Width}
use Rattle.rv_decode.specs.declared.instr.Width.TheVariants as widths
use Rattle.rv_event.specs.declared.event.EventKind.TheVariants as kinds
use Rattle.rv_event.specs.declared.event.TrapKind.TheVariants as traps
use Rattle.rv_event.specs.declared.event.End.TheVariants as ends
use Rattle.memory_map.specs.Cells.{Map, execute, read, write, first_without, byte_at, half_at, word_at, placed}
use Rattle.memory_map.specs.Heaps.{with_break}
use Rattle.call_replies.specs.declared.Reply.{Reply}
use Rattle.call_replies.specs.declared.Reply.TheVariants.{Answers, Moves, Breaks, Exits}
use Rattle.call_replies.specs.Calls.{reply_to}
use Rattle.rv_machine.specs.State.{State, Next, Goes, Ends, StepResult, reg, write_reg, at, following, no_call, event_of, trap}

-- an instruction that writes a register and goes on to the next
abbrev pub goes_on : State → ℕ → ℕ → Next
goes_on s rd value = Goes (at (following s.pc) (write_reg rd value s))

-- ---- jumps and branches ("Control Transfer Instructions")

-- whether a branch is taken
abbrev pub taken : Cond → ℕ → ℕ → Bool
taken conds.Eq a b = a == b
taken conds.Ne a b = not (a == b)
taken conds.Lt a b = int_lt (signed a) (signed b)
taken conds.Ge a b = not (int_lt (signed a) (signed b))
taken conds.Ltu a b = nat_lt a b
taken conds.Geu a b = not (nat_lt a b)

-- a jump to a target, which has to be a multiple of 4
abbrev pub jump : ℕ → ℕ → State → Next
jump pc target after = if target % 4 == 0 then Goes (at target after) else trap pc traps.MisalignedJump target

-- a number with bit 0 cleared
abbrev pub even : ℕ → ℕ
even n = n - n % 2

-- ---- loads and stores ("Load and Store Instructions")

-- how many bytes a load or a store moves
abbrev pub size_of : Width → ℕ
size_of widths.B = 1
size_of widths.Bu = 1
size_of widths.H = 2
size_of widths.Hu = 2
size_of widths.W = 4

-- what a load of bytes that may be read gives
abbrev pub loaded : Map → Width → ℕ → ℕ
loaded m widths.B a = cast_unsigned w32 (sign_extended 8 (byte_at m a))
loaded m widths.Bu a = byte_at m a
loaded m widths.H a = cast_unsigned w32 (sign_extended 16 (half_at m a))
loaded m widths.Hu a = half_at m a
loaded m widths.W a = word_at m a

-- the bytes of a word that a store moves, lowest first
abbrev pub stored : Width → ℕ → List ℕ
stored widths.B v = v % 256 ∷ []
stored widths.Bu v = v % 256 ∷ []
stored widths.H v = v % 256 ∷ v / 256 % 256 ∷ []
stored widths.Hu v = v % 256 ∷ v / 256 % 256 ∷ []
stored widths.W v = v % 256 ∷ v / 256 % 256 ∷ v / 65536 % 256 ∷ v / 16777216 % 256 ∷ []

-- the data address
abbrev pub address_of : State → ℕ → ℕ → ℕ
address_of s rs1 imm = (reg s rs1 + imm) % 2 ^ 32

-- a load, by the first of its addresses that may not be read
abbrev pub after_load : State → Width → ℕ → ℕ → Option ℕ → Next
after_load s width rd address None = goes_on s rd (loaded s.memory width address)
after_load s width rd address (Some fault) = trap s.pc traps.LoadFault fault

-- a store, by the first of its addresses that may not be written: then nothing is stored
abbrev pub after_store : State → Width → ℕ → ℕ → Option ℕ → Next
after_store s width value address None = Goes (at (following s.pc) (record s { memory = placed s.memory address (stored width value) }))
after_store s width value address (Some fault) = trap s.pc traps.StoreFault fault

-- ---- calls

-- so many bytes of the input from a place on
unfoldable pub input_bytes : List ℕ → ℕ → ℕ → List ℕ
input_bytes input place zero = []
input_bytes input place (suc count) = slice_index input place ∷ input_bytes input (suc place) count

-- an exit with a code: from 128 on it is an abort
abbrev pub exit : ℕ → ℕ → Next
exit pc code = if nat_lt code 128 then Ends (ends.Exit code) else trap pc traps.Abort code

-- a call, by its reply
abbrev pub after_call : List ℕ → State → Reply → Next
after_call input s (Answers v) = goes_on s 10 v
after_call input s (Moves k) = goes_on (record s { memory = placed s.memory (reg s 11) (input_bytes input s.place k); place = s.place + k }) 10 k
after_call input s (Breaks heap a) = goes_on (record s { memory = with_break s.memory heap.brk a; heap = Some (record { start = heap.start; brk = a }) }) 10 a
after_call input s (Exits code) = exit s.pc code

-- ---- the instructions

-- an event without data address or call
abbrev pub plain : State → ℕ → Next → StepResult
plain s word next = record { event = event_of s word 0 no_call kinds.Plain; next = next }

-- the row of each instruction
unfoldable pub effect : List ℕ → State → ℕ → Instr → StepResult
effect x s word (Lui rd imm) = plain s word (goes_on s rd (bits imm))
effect x s word (Auipc rd imm) = plain s word (goes_on s rd ((s.pc + bits imm) % 2 ^ 32))
effect x s word (Jal rd offset) = plain s word (jump s.pc ((s.pc + bits offset) % 2 ^ 32) (write_reg rd (following s.pc) s))
effect x s word (Jalr rd rs1 imm) = plain s word (jump s.pc (even (address_of s rs1 (bits imm))) (write_reg rd (following s.pc) s))
effect x s word (Branch cond rs1 rs2 offset) =
    plain s word (if taken cond (reg s rs1) (reg s rs2) then jump s.pc ((s.pc + bits offset) % 2 ^ 32) s else Goes (at (following s.pc) s))
effect x s word (Load width rd rs1 imm) =
    record {
      event = event_of s word (address_of s rs1 (bits imm)) no_call kinds.Load;
      next = after_load s width rd (address_of s rs1 (bits imm)) (first_without read s.memory (address_of s rs1 (bits imm)) (size_of width));
    }
effect x s word (Store width rs1 rs2 imm) =
    record {
      event = event_of s word (address_of s rs1 (bits imm)) no_call kinds.Store;
      next = after_store s width (reg s rs2) (address_of s rs1 (bits imm)) (first_without write s.memory (address_of s rs1 (bits imm)) (size_of width));
    }
effect x s word (AluImm op rd rs1 imm) = plain s word (goes_on s rd (alu op (reg s rs1) (bits imm)))
effect x s word (AluReg op rd rs1 rs2) = plain s word (goes_on s rd (alu op (reg s rs1) (reg s rs2)))
effect x s word (Fence bits') = plain s word (Goes (at (following s.pc) s))
effect x s word Ecall =
    record {
      event = event_of s word 0 (reg s 17 ∷ reg s 10 ∷ reg s 11 ∷ reg s 12 ∷ []) kinds.Call;
      next = after_call x s (reply_to s.memory s.heap (length x - s.place) (reg s 17) (reg s 10) (reg s 11) (reg s 12));
    }
effect x s word Ebreak = plain s word (trap s.pc traps.Breakpoint 0)

-- a fetched word: an instruction, or a trap where none has it
abbrev pub executed : List ℕ → State → ℕ → Option Instr → StepResult
executed x s word None = plain s word (trap s.pc traps.Illegal word)
executed x s word (Some i) = effect x s word i

-- a step, by the first of the four addresses of the word that may not be executed
abbrev pub after_fetch : List ℕ → State → Option ℕ → StepResult
after_fetch x s (Some fault) = record { event = event_of s 0 0 no_call kinds.NoFetch; next = trap s.pc traps.FetchFault s.pc }
after_fetch x s None = executed x s (word_at s.memory s.pc) (decoded (word_at s.memory s.pc))

-- one step on an input
unfoldable pub step : List ℕ → State → StepResult
step x s = after_fetch x s (first_without execute s.memory s.pc 4)
