-- Registers and bytes of memory as terms over the input, and what each event makes of them.
-- Addresses, counts and the values of calls are those that the event tells: none is a term.
use Rattle.std.specs.Prelude.{ℕ, zero, suc, ◌+◌, ◌-◌, ◌%◌, ◌^◌, ◌==◌, ◌||◌, List, [], ◌∷◌, map, Option, Some, None, slice_index, slice_index_or, slice_set, if◌then◌else◌}
use Rattle.rv_word.specs.declared.AluOp.TheVariants.{Add, Sll, Sra}
use Rattle.rv_word.specs.Word.{bits}
use Rattle.rv_event.specs.declared.event.Event.{Event}
use Rattle.rv_decode.specs.Table.{decoded}
use Rattle.rv_decode.specs.declared.instr.Instr.{Instr}
use Rattle.rv_decode.specs.declared.instr.Instr.TheVariants.{Lui, Auipc, Jal, Jalr, Branch, Load, Store, AluImm, AluReg, Fence, Ecall, Ebreak}
use Rattle.rv_decode.specs.declared.instr.Width.{Width}
use Rattle.rv_decode.specs.declared.instr.Width.TheVariants as widths
use Rattle.term_model.specs.declared.Op.TheVariants.{Alu, Pair, Half}
use Rattle.term_model.specs.Tree.{Tree, Const, Input}
use Rattle.elf32.specs.declared.segments.Segment.{Segment}
use Rattle.memory_map.specs.Cells.{Map, next_address, byte_at, start_map}
use Rattle.memory_map.specs.declared.heap.Heap.{Heap}
use Rattle.memory_map.specs.Heaps.{with_break, start_heap, is_in_span}
use Rattle.call_replies.specs.declared.Reply.{Reply}
use Rattle.call_replies.specs.declared.Reply.TheVariants.{Answers, Moves, Breaks, Exits}
use Rattle.call_replies.specs.Calls.{reply_to}
use Rattle.rv_machine.specs.State.{following, start_registers}
use Rattle.replay_law.specs.Making.{Making}
use Rattle.replay_law.specs.Forms.{byte_term}

-- the terms of the registers x0 to x31 and of the byte at each address, how many bytes of the input have been read, which addresses
-- memory has with which rights (the bytes of these cells are not read), and the heap
pub record SymbolicState : Type 0 where
  pub registers : List Tree
  pub bytes : ℕ → Tree
  pub place : ℕ
  pub cells : Map
  pub heap : Option Heap

-- ---- registers

-- the term of a register
abbrev pub reg_term : SymbolicState → ℕ → Tree
reg_term s r = slice_index_or s.registers r (Const 0)

-- registers with another term in one of them: a write to x0 has no effect
abbrev pub written_term : ℕ → Tree → List Tree → List Tree
written_term rd t registers = if rd == 0 then registers else slice_set registers rd t

-- the terms with another one in a register
abbrev pub put_reg : ℕ → Tree → SymbolicState → SymbolicState
put_reg rd t s = record s { registers = written_term rd t s.registers }

-- a register and an immediate: a data address, or the target of JALR
abbrev pub sum_term : Making → SymbolicState → ℕ → ℕ → Tree
sum_term made s rs1 imm = made (Alu Add) (reg_term s rs1) (Const imm)

-- ---- memory

-- bytes with another term at one address
abbrev pub with_tree : (ℕ → Tree) → ℕ → Tree → ℕ → Tree
with_tree bytes address t q = if q == address then t else bytes q

-- bytes with terms at the addresses from one up
unfoldable pub put_trees : (ℕ → Tree) → ℕ → List Tree → ℕ → Tree
put_trees bytes address [] = bytes
put_trees bytes address (t ∷ ts) = put_trees (with_tree bytes address t) (next_address address) ts

-- bytes as the break moves: those that enter memory are zero; those that leave it have no cell, and are zero as well
abbrev pub zero_between : (ℕ → Tree) → ℕ → ℕ → ℕ → Tree
zero_between bytes old new q = if is_in_span old (new - old) q || is_in_span new (old - new) q then Const 0 else bytes q

-- so many bytes of the input from a place on
unfoldable pub input_terms : ℕ → ℕ → List Tree
input_terms place zero = []
input_terms place (suc count) = Input place ∷ input_terms (suc place) count

-- a term whose sign stands n bits below bit 31, extended
abbrev pub extended_term : Making → ℕ → Tree → Tree
extended_term made n t = made (Alu Sra) (made (Alu Sll) t (Const n)) (Const n)

-- the half word at an address
abbrev pub half_term : Making → (ℕ → Tree) → ℕ → Tree
half_term made bytes a = made Pair (bytes a) (bytes (next_address a))

-- what a load gives
abbrev pub loaded_term : Making → (ℕ → Tree) → Width → ℕ → Tree
loaded_term made bytes widths.B a = extended_term made 24 (bytes a)
loaded_term made bytes widths.Bu a = bytes a
loaded_term made bytes widths.H a = extended_term made 16 (half_term made bytes a)
loaded_term made bytes widths.Hu a = half_term made bytes a
loaded_term made bytes widths.W a = made Half (half_term made bytes a) (half_term made bytes (next_address (next_address a)))

-- the bytes that a store puts, lowest first
abbrev pub stored_terms : Making → Width → Tree → List Tree
stored_terms made widths.B t = byte_term made 0 t ∷ []
stored_terms made widths.Bu t = byte_term made 0 t ∷ []
stored_terms made widths.H t = byte_term made 0 t ∷ byte_term made 1 t ∷ []
stored_terms made widths.Hu t = byte_term made 0 t ∷ byte_term made 1 t ∷ []
stored_terms made widths.W t = byte_term made 0 t ∷ byte_term made 1 t ∷ byte_term made 2 t ∷ byte_term made 3 t ∷ []

-- ---- events

-- a value of a call: a7, a0, a1 and a2, in this order
abbrev pub call_value : Event → ℕ → ℕ
call_value e k = slice_index e.call k

-- what a call leaves: its answer is a constant, the bytes that a read moves are bytes of the input, and those that the break moves
-- past are zero
abbrev pub after_reply : SymbolicState → Event → Reply → SymbolicState
after_reply s e (Answers v) = put_reg 10 (Const v) s
after_reply s e (Moves k) = put_reg 10 (Const k) (record s { bytes = put_trees s.bytes (call_value e 2) (input_terms s.place k); place = s.place + k })
after_reply s e (Breaks h a) = put_reg 10 (Const a) (record s { bytes = zero_between s.bytes h.brk a; cells = with_break s.cells h.brk a; heap = Some (record { start = h.start; brk = a }) })
after_reply s e (Exits code) = s

-- what an instruction leaves, by its event; n is the input's length
abbrev pub after_row : Making → ℕ → SymbolicState → Event → Instr → SymbolicState
after_row made n s e (Lui rd imm) = put_reg rd (Const (bits imm)) s
after_row made n s e (Auipc rd imm) = put_reg rd (Const ((e.pc + bits imm) % 2 ^ 32)) s
after_row made n s e (Jal rd offset) = put_reg rd (Const (following e.pc)) s
after_row made n s e (Jalr rd rs1 imm) = put_reg rd (Const (following e.pc)) s
after_row made n s e (Branch cond rs1 rs2 offset) = s
after_row made n s e (Load width rd rs1 imm) = put_reg rd (loaded_term made s.bytes width e.addr) s
after_row made n s e (Store width rs1 rs2 imm) = record s { bytes = put_trees s.bytes e.addr (stored_terms made width (reg_term s rs2)) }
after_row made n s e (AluImm op rd rs1 imm) = put_reg rd (made (Alu op) (reg_term s rs1) (Const (bits imm))) s
after_row made n s e (AluReg op rd rs1 rs2) = put_reg rd (made (Alu op) (reg_term s rs1) (reg_term s rs2)) s
after_row made n s e (Fence word) = s
after_row made n s e Ecall = after_reply s e (reply_to s.cells s.heap (n - s.place) (call_value e 0) (call_value e 1) (call_value e 2) (call_value e 3))
after_row made n s e Ebreak = s

-- an illegal word leaves the terms as they are
abbrev pub after_instr : Making → ℕ → SymbolicState → Event → Option Instr → SymbolicState
after_instr made n s e None = s
after_instr made n s e (Some i) = after_row made n s e i

-- the terms after an event
unfoldable pub terms_after : Making → ℕ → SymbolicState → Event → SymbolicState
terms_after made n s e = after_instr made n s e (decoded e.word)

-- at the start of a program all terms are constants
abbrev pub start_terms : List Segment → SymbolicState
start_terms segments =
    record { registers = map Const start_registers; bytes = λ a. Const (byte_at (start_map segments) a); place = 0; cells = start_map segments; heap = start_heap segments }
