-- The conditions of a run: along its events, what has to be the same of another input for the run to be the same.
use Rattle.std.specs.Prelude.{ℕ, ◌+◌, ◌%◌, ◌^◌, ◌==◌, List, [], ◌∷◌, ◌++◌, Option, Some, None, if◌then◌else◌}
use Rattle.elf32.specs.Loads.{Program}
use Rattle.rv_word.specs.Word.{bits, byte_of}
use Rattle.rv_event.specs.declared.event.Event.{Event}
use Rattle.rv_event.specs.declared.event.EventKind.{EventKind}
use Rattle.rv_event.specs.declared.event.EventKind.TheVariants as kinds
use Rattle.rv_event.specs.declared.event.End.{End}
use Rattle.rv_event.specs.declared.event.End.TheVariants as ends
use Rattle.rv_event.specs.declared.transcript.Transcript.{Transcript}
use Rattle.rv_decode.specs.Table.{decoded}
use Rattle.rv_decode.specs.declared.instr.Instr.{Instr}
use Rattle.rv_decode.specs.declared.instr.Instr.TheVariants.{Lui, Auipc, Jal, Jalr, Branch, Load, Store, AluImm, AluReg, Fence, Ecall, Ebreak}
use Rattle.term_model.specs.declared.Op.TheVariants.{Eq}
use Rattle.term_model.specs.Tree.{Tree, Const}
use Rattle.memory_map.specs.Cells.{next_address}
use Rattle.rv_machine.specs.State.{following}
use Rattle.replay_law.specs.Making.{Making}
use Rattle.replay_law.specs.Forms.{pin, target, branch_conditions, with_conditions}
use Rattle.replay_law.specs.Terms.{SymbolicState, reg_term, sum_term, call_value, terms_after, start_terms}

-- the byte at an address is byte k of the word that was fetched
abbrev pub fetched_byte : Making → SymbolicState → ℕ → ℕ → ℕ → Tree
fetched_byte made s address word k = made Eq (s.bytes address) (Const (byte_of k word))

-- the four bytes from an address up are those of the word that was fetched
abbrev pub fetch_conditions : Making → SymbolicState → ℕ → ℕ → List Tree
fetch_conditions made s a word =
    fetched_byte made s a word 0 ∷ fetched_byte made s (next_address a) word 1
    ∷ fetched_byte made s (next_address (next_address a)) word 2 ∷ fetched_byte made s (next_address (next_address (next_address a))) word 3 ∷ []

-- The conditions of an instruction, by its event and by what is shown of it: the program counter of the next event, or the
-- value of the trap where it is the last.
abbrev pub row_conditions : Making → SymbolicState → Event → ℕ → Instr → List Tree
row_conditions made s e shown (Lui rd imm) = []
row_conditions made s e shown (Auipc rd imm) = []
row_conditions made s e shown (Jal rd offset) = []
-- the target is the one shown
row_conditions made s e shown (Jalr rd rs1 imm) = target made (sum_term made s rs1 (bits imm)) shown
-- the branch has the outcome shown; one to the next instruction has no outcome
row_conditions made s e shown (Branch cond rs1 rs2 offset) =
    if (e.pc + bits offset) % 2 ^ 32 == following e.pc then []
    else branch_conditions made cond (reg_term s rs1) (reg_term s rs2) (shown == (e.pc + bits offset) % 2 ^ 32)
-- the data address is the event's
row_conditions made s e shown (Load width rd rs1 imm) = pin made (sum_term made s rs1 (bits imm)) e.addr
row_conditions made s e shown (Store width rs1 rs2 imm) = pin made (sum_term made s rs1 (bits imm)) e.addr
row_conditions made s e shown (AluImm op rd rs1 imm) = []
row_conditions made s e shown (AluReg op rd rs1 rs2) = []
row_conditions made s e shown (Fence word) = []
-- a7, a0, a1 and a2 are the event's
row_conditions made s e shown Ecall =
    pin made (reg_term s 17) (call_value e 0) ++ (pin made (reg_term s 10) (call_value e 1) ++ (pin made (reg_term s 11) (call_value e 2) ++ pin made (reg_term s 12) (call_value e 3)))
row_conditions made s e shown Ebreak = []

-- an illegal word has no conditions of its own
abbrev pub instr_conditions : Making → SymbolicState → Event → ℕ → Option Instr → List Tree
instr_conditions made s e shown None = []
instr_conditions made s e shown (Some i) = row_conditions made s e shown i

-- the conditions of a kind of event: none where the fetch failed, else those of the word and of its instruction
abbrev pub conditions_by : Making → SymbolicState → Event → ℕ → EventKind → List Tree
conditions_by made s e shown kinds.NoFetch = []
conditions_by made s e shown kind = fetch_conditions made s e.pc e.word ++ instr_conditions made s e shown (decoded e.word)

-- the conditions of one event
unfoldable pub event_conditions : Making → SymbolicState → Event → ℕ → List Tree
event_conditions made s e shown = conditions_by made s e shown e.kind

-- what is shown after an event: the next event's program counter, or the trap's value
abbrev pub shown_next : List Event → End → ℕ
shown_next (e ∷ es) end = e.pc
shown_next [] (ends.Trap t) = t.value
shown_next [] (ends.Exit code) = 0
shown_next [] ends.Limit = 0

-- the conditions along the events, from the terms before the first
unfoldable pub follow : Making → ℕ → SymbolicState → List Event → End → List Tree
follow made n s [] end = []
follow made n s (e ∷ es) end = event_conditions made s e (shown_next es end) ++ follow made n (terms_after made n s e) es end

-- The conditions of a run of a program, from the program and what the run tells alone: no input is among the arguments.
unfoldable pub conditions : Making → Program → Transcript → List Tree
conditions made program run =
    with_conditions [] (follow made run.n (start_terms program.segments) run.events run.end)
