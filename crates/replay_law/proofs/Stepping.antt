-- A step of a plain state that agrees with terms leaves one that agrees with the terms after its event.
use Rattle.std.proofs.Common.{◌≡◌, ℕ, ◌+◌, ◌-◌, ◌%◌, ◌^◌, ◌<◌, List, length, map, min, Option, Some, None, IfSome, nat_lt, Bool, true, false, if◌then◌else◌, refl, sym, ap, ◌∙◌, arith, subst, ◌==◌, ◌||◌}
use Rattle.std.specs.FinMap.{get}
use Rattle.rv_word.specs.Word.{alu, bits}
use Rattle.rv_word.proofs.Words.{bits_below}
use Rattle.rv_event.specs.declared.event.TrapKind.TheVariants as traps
use Rattle.rv_event.specs.declared.event.End.TheVariants as ends
use Rattle.rv_event.specs.declared.event.Event.{Event}
use Rattle.rv_decode.specs.Table.{decoded}
use Rattle.rv_decode.specs.declared.instr.Instr.{Instr}
use Rattle.rv_decode.specs.declared.instr.Instr.TheVariants.{Lui, Auipc, Jal, Jalr, Branch, Load, Store, AluImm, AluReg, Fence, Ecall, Ebreak}
use Rattle.rv_decode.specs.declared.instr.Width.{Width}
use Rattle.term_model.specs.declared.Op.TheVariants.{Alu}
use Rattle.term_model.specs.Tree.{Tree, Const}
use Rattle.term_model.specs.Value.{val}
use Rattle.term_model.specs.Words.{AreBytes}
use Rattle.term_model.proofs.ByteLemmas.{bytes_everywhere}
use Rattle.memory_map.specs.Cells.{Map, execute, read, write, first_without, word_at, placed}
use Rattle.memory_map.specs.declared.heap.Heap.{Heap}
use Rattle.memory_map.specs.Heaps.{may_break, with_break}
use Rattle.call_replies.specs.declared.Reply.{Reply}
use Rattle.call_replies.specs.declared.Reply.TheVariants.{Answers, Moves, Breaks, Exits}
use Rattle.call_replies.specs.Calls.{reply_to}
use Rattle.call_replies.proofs.Replies.{IsWord, puts_a_word}
use Rattle.rv_machine.specs.State.{State, Next, Goes, Ends, reg, write_reg, at, following, trap}
use Rattle.rv_machine.specs.Effects.{even, jump, exit, taken, size_of, stored, input_bytes, after_load, after_store, after_call, address_of, effect, executed, after_fetch, step}
use Rattle.input_laws.specs.Inputs.{IsInput}
use Rattle.replay_law.specs.Making.{Making, IsMaker}
use Rattle.replay_law.specs.Terms.{SymbolicState, reg_term, put_reg, put_trees, zero_between, input_terms, loaded_term, stored_terms, call_value, after_reply, after_row, after_instr, terms_after}
use Rattle.replay_law.proofs.Agreeing.{reg_value, written_value, written_keeps, placed_valued, break_valued, put_keeps, zero_keeps, Each, same_rights, reply_same}
use Rattle.replay_law.proofs.Moved.{IsByte, loaded_made, loaded_value, stored_value, stored_bytes, input_values, input_are_bytes}
use Rattle.replay_law.proofs.Agreement.{Agrees, AreMade}

-- a plain state agrees with terms that are made
pub record Stands (IsMade : Tree → Type 0) (terms : SymbolicState) (y : List ℕ) (s : State) : Type 0 where
  pub agrees : Agrees terms y s
  pub made : AreMade IsMade terms

-- what holds of the state after a step, if there is one
abbrev pub OnGoes : (State → Type 0) → Next → Type 0
OnGoes P (Goes s) = P s
OnGoes P (Ends e) = Unit {0}

-- what holds of the state at a jump's target
jump_goes : (P : State → Type 0) (pc target : ℕ) (s : State) → P (at target s) → OnGoes P (jump pc target s)
jump_goes P pc target s p = either (target % 4 == 0)
  where
    either : (b : Bool) → OnGoes P (if b then Goes (at target s) else trap pc traps.MisalignedJump target)
    either true = p
    either false = tt

-- what holds of either of two steps, by a test
branch_goes : (P : State → Type 0) (b : Bool) (m n : Next) → OnGoes P m → OnGoes P n → OnGoes P (if b then m else n)
branch_goes P true m n p q = p
branch_goes P false m n p q = q

-- the terms of memory are made bytes
pub bytes_of : {IsMade : Tree → Type 0} {terms : SymbolicState} → AreMade IsMade terms → (a : ℕ) → IsByte IsMade (terms.bytes a)
bytes_of h a = (h.bytes a, h.small a)

-- another program counter
stay : {IsMade : Tree → Type 0} {terms : SymbolicState} {y : List ℕ} {s : State} → Stands IsMade terms y s → (pc : ℕ) → Stands IsMade terms y (at pc s)
stay h pc = record { agrees = record { registers = h.agrees.registers; memory = h.agrees.memory; heap = h.agrees.heap; place = h.agrees.place }; made = h.made }

-- another value in a register, and its term
put : {IsMade : Tree → Type 0} {terms : SymbolicState} {y : List ℕ} {s : State} → Stands IsMade terms y s → (pc rd v : ℕ) (t : Tree) → v ≡ val t y → IsMade t → Stands IsMade (put_reg rd t terms) y (at pc (write_reg rd v s))
put {IsMade} {terms} {y} {s} h pc rd v t e it = record {
  agrees = record { registers = written_value h.agrees rd v t e; memory = h.agrees.memory; heap = h.agrees.heap; place = h.agrees.place };
  made = record { registers = λ r. written_keeps IsMade terms.registers rd r t it (h.made.registers r); bytes = h.made.bytes; small = h.made.small; break = h.made.break };
}

-- terms put into memory
moved : {IsMade : Tree → Type 0} {terms : SymbolicState} {y : List ℕ} {s : State} → Stands IsMade terms y s → (a place p : ℕ) (bs : List ℕ) (ts : List Tree) → p ≡ place → bs ≡ map (λ u. val u y) ts → Each (IsByte IsMade) ts → Stands IsMade (record { registers = terms.registers; bytes = put_trees terms.bytes a ts; place = place; cells = terms.cells; heap = terms.heap }) y (record { registers = s.registers; pc = s.pc; memory = placed s.memory a bs; heap = s.heap; place = p })
moved {IsMade} {terms} {y} {s} h a place p bs ts f e each = record {
  agrees = record {
    registers = h.agrees.registers;
    memory = λ q. ap (λ cs. get (placed s.memory a cs) q) e ∙ (placed_valued terms.cells terms.bytes y s.memory a ts (record { at = h.agrees.memory })).at q;
    heap = h.agrees.heap;
    place = f;
  };
  made = record {
    registers = h.made.registers;
    bytes = λ q. (put_keeps (IsByte IsMade) terms.bytes a ts (bytes_of h.made) each q).0;
    small = λ q. (put_keeps (IsByte IsMade) terms.bytes a ts (bytes_of h.made) each q).1;
    break = h.made.break;
  };
}

-- the break moved
broken : {made : Making} {IsMade : Tree → Type 0} → IsMaker made IsMade → {terms : SymbolicState} {y : List ℕ} {s : State} → Stands IsMade terms y s → (b : Heap) (a : ℕ) → a < 2 ^ 32 → Stands IsMade (record terms { bytes = zero_between terms.bytes b.brk a; cells = with_break terms.cells b.brk a; heap = Some (record { start = b.start; brk = a }) }) y (record s { memory = with_break s.memory b.brk a; heap = Some (record { start = b.start; brk = a }) })
broken {made} {IsMade} m {terms} {y} {s} h b a lt =
    let zero : IsByte IsMade (Const 0) = (m.constant 0 (omega arith), λ z bs. omega arith) in
    let each = zero_keeps (IsByte IsMade) terms.bytes b.brk a zero (bytes_of h.made) in
    record {
      agrees = record {
        registers = h.agrees.registers;
        memory = λ q. (break_valued terms.cells terms.bytes y s.memory b.brk a (record { at = h.agrees.memory })).at q;
        heap = refl;
        place = h.agrees.place;
      };
      made = record { registers = h.made.registers; bytes = λ q. (each q).0; small = λ q. (each q).1; break = lt };
    }

-- a load
load_goes : {made : Making} {IsMade : Tree → Type 0} → IsMaker made IsMade → {terms : SymbolicState} {y : List ℕ} {s : State} → AreBytes y → Stands IsMade terms y s → (width : Width) (rd a : ℕ) (o : Option ℕ) → first_without read s.memory a (size_of width) ≡ o → OnGoes (Stands IsMade (put_reg rd (loaded_term made terms.bytes width a) terms) y) (after_load s width rd a o)
load_goes m {terms} {y} {s} bs h width rd a None ok = put h _ rd _ _ (loaded_value m bs h.agrees (bytes_of h.made) width a ok) (loaded_made m terms.bytes (bytes_of h.made) width a)
load_goes m bs h width rd a (Some fault) ok = tt

-- a store
store_goes : {made : Making} {IsMade : Tree → Type 0} → IsMaker made IsMade → {terms : SymbolicState} {y : List ℕ} {s : State} → AreBytes y → Stands IsMade terms y s → (width : Width) (rs2 a : ℕ) (o : Option ℕ) → OnGoes (Stands IsMade (record terms { bytes = put_trees terms.bytes a (stored_terms made width (reg_term terms rs2)) }) y) (after_store s width (reg s rs2) a o)
store_goes m {terms} {y} {s} bs h width rs2 a None =
    stay (moved h a terms.place s.place _ _ h.agrees.place (ap (stored width) (reg_value h.agrees rs2) ∙ stored_value m y bs width (reg_term terms rs2) (h.made.registers rs2)) (stored_bytes m width (reg_term terms rs2) (h.made.registers rs2))) _
store_goes m bs h width rs2 a (Some fault) = tt

-- an exit doesn't go on
pub exit_goes : (P : State → Type 0) (pc code : ℕ) → OnGoes P (exit pc code)
exit_goes P pc code = either (nat_lt code 128)
  where
    either : (b : Bool) → OnGoes P (if b then Ends (ends.Exit code) else trap pc traps.Abort code)
    either true = tt
    either false = tt

-- a call, by its reply
reply_goes : {made : Making} {IsMade : Tree → Type 0} → IsMaker made IsMade → {terms : SymbolicState} {y : List ℕ} {s : State} → Stands IsMade terms y s → (e : Event) → call_value e 2 ≡ reg s 11 → (r : Reply) → IsWord r → OnGoes (Stands IsMade (after_reply terms e r) y) (after_call y s r)
reply_goes m h e a1 (Answers v) w = put h _ 10 v (Const v) refl (m.constant v w)
reply_goes {IsMade = IsMade} m {terms} {y} {s} h e a1 (Moves k) w =
    put (subst (λ (a : ℕ). Stands IsMade (record { registers = terms.registers; bytes = put_trees terms.bytes (call_value e 2) (input_terms terms.place k); place = terms.place + k; cells = terms.cells; heap = terms.heap }) y (record { registers = s.registers; pc = s.pc; memory = placed s.memory a (input_bytes y s.place k); heap = s.heap; place = s.place + k })) a1
    (moved h (call_value e 2) (terms.place + k) (s.place + k) (input_bytes y s.place k) (input_terms terms.place k) (ap (λ p. p + k) h.agrees.place) (ap (λ p. input_bytes y p k) h.agrees.place ∙ input_values y k terms.place) (input_are_bytes m k terms.place)))
    _ 10 k (Const k) refl (m.constant k w)
reply_goes m h e a1 (Breaks b a) w = put (broken m h b a w) _ 10 a (Const a) refl (m.constant a w)
reply_goes {IsMade = IsMade} m {terms} {y} {s} h e a1 (Exits code) w = exit_goes (Stands IsMade terms y) s.pc code

-- a jump that writes a register
jump_put : {IsMade : Tree → Type 0} {terms : SymbolicState} {y : List ℕ} {s : State} → Stands IsMade terms y s → (pc target rd v : ℕ) (t : Tree) → v ≡ val t y → IsMade t → OnGoes (Stands IsMade (put_reg rd t terms) y) (jump pc target (write_reg rd v s))
jump_put {IsMade} {terms} {y} {s} h pc target rd v t e it =
    jump_goes (Stands IsMade (put_reg rd t terms) y) pc target (write_reg rd v s) (put h target rd v t e it)

-- a branch
branch_stay : {IsMade : Tree → Type 0} {terms : SymbolicState} {y : List ℕ} {s : State} → Stands IsMade terms y s → (b : Bool) (pc target : ℕ) → OnGoes (Stands IsMade terms y) (if b then jump pc target s else Goes (at (following pc) s))
branch_stay {IsMade} {terms} {y} {s} h true pc target = jump_goes (Stands IsMade terms y) pc target s (stay h target)
branch_stay h false pc target = stay h _

-- a call, by a reply that is that of the terms
call_goes : {made : Making} {IsMade : Tree → Type 0} → IsMaker made IsMade → {terms : SymbolicState} {y : List ℕ} {s : State} → Stands IsMade terms y s → (e : Event) → call_value e 2 ≡ reg s 11 → (r q : Reply) → r ≡ q → IsWord r → OnGoes (Stands IsMade (after_reply terms e q) y) (after_call y s r)
call_goes {IsMade = IsMade} m {terms} {y} {s} h e a1 r q same w = subst (λ (p : Reply). OnGoes (Stands IsMade (after_reply terms e p) y) (after_call y s r)) same (reply_goes m h e a1 r w)

-- the row of each instruction
row_goes : {made : Making} {IsMade : Tree → Type 0} → IsMaker made IsMade → {terms : SymbolicState} {y : List ℕ} {s : State} → (n : ℕ) → IsInput n y → Stands IsMade terms y s → (word : ℕ) (i : Instr) → OnGoes (Stands IsMade (after_row made n terms (effect y s word i).event i) y) (effect y s word i).next
unfolding effect
row_goes m n inp h word (Lui rd imm) = put h _ rd _ (Const (bits imm)) refl (m.constant (bits imm) (bits_below imm))
row_goes m {s = s} n inp h word (Auipc rd imm) = put h _ rd _ (Const ((s.pc + bits imm) % 2 ^ 32)) refl (m.constant _ (omega arith))
row_goes m {s = s} n inp h word (Jal rd offset) = jump_put h s.pc ((s.pc + bits offset) % 2 ^ 32) rd (following s.pc) (Const (following s.pc)) refl (m.constant _ (omega arith))
row_goes m {s = s} n inp h word (Jalr rd rs1 imm) = jump_put h s.pc (even (address_of s rs1 (bits imm))) rd (following s.pc) (Const (following s.pc)) refl (m.constant _ (omega arith))
row_goes m {s = s} n inp h word (Branch c rs1 rs2 offset) = branch_stay h (taken c (reg s rs1) (reg s rs2)) s.pc ((s.pc + bits offset) % 2 ^ 32)
row_goes m {y = y} {s = s} n inp h word (Load width rd rs1 imm) = load_goes m (bytes_everywhere y inp.in_range) h width rd (address_of s rs1 (bits imm)) (first_without read s.memory (address_of s rs1 (bits imm)) (size_of width)) refl
row_goes m {y = y} {s = s} n inp h word (Store width rs1 rs2 imm) = store_goes m (bytes_everywhere y inp.in_range) h width rs2 (address_of s rs1 (bits imm)) (first_without write s.memory (address_of s rs1 (bits imm)) (size_of width))
row_goes {made} m {terms = terms} {y = y} {s = s} n inp h word (AluImm op rd rs1 imm) =
    put h _ rd _ (made (Alu op) (reg_term terms rs1) (Const (bits imm)))
    (ap (λ v. alu op v (bits imm)) (reg_value h.agrees rs1) ∙ sym (m.keeps (Alu op) (reg_term terms rs1) (Const (bits imm)) y (h.made.registers rs1) (m.constant _ (bits_below imm)) tt (bytes_everywhere y inp.in_range)))
    (m.gives (Alu op) (reg_term terms rs1) (Const (bits imm)) (h.made.registers rs1) (m.constant _ (bits_below imm)) tt)
row_goes {made} m {terms = terms} {y = y} {s = s} n inp h word (AluReg op rd rs1 rs2) =
    put h _ rd _ (made (Alu op) (reg_term terms rs1) (reg_term terms rs2))
    ((λ i. alu op (reg_value h.agrees rs1 i) (reg_value h.agrees rs2 i)) ∙ sym (m.keeps (Alu op) (reg_term terms rs1) (reg_term terms rs2) y (h.made.registers rs1) (h.made.registers rs2) tt (bytes_everywhere y inp.in_range)))
    (m.gives (Alu op) (reg_term terms rs1) (reg_term terms rs2) (h.made.registers rs1) (h.made.registers rs2) tt)
row_goes m n inp h word (Fence bits') = stay h _
row_goes m {terms} {y} {s} n inp h word Ecall =
    let v : reg s 10 < 2 ^ 32 = subst (λ (v : ℕ). v < 2 ^ 32) (sym (reg_value h.agrees 10)) (m.words (reg_term terms 10) y (h.made.registers 10) (bytes_everywhere y inp.in_range)) in
    let w : reg s 12 < 2 ^ 32 = subst (λ (v : ℕ). v < 2 ^ 32) (sym (reg_value h.agrees 12)) (m.words (reg_term terms 12) y (h.made.registers 12) (bytes_everywhere y inp.in_range)) in
    call_goes m h (effect y s word Ecall).event refl
    (reply_to s.memory s.heap (length y - s.place) (reg s 17) (reg s 10) (reg s 11) (reg s 12))
    (reply_to terms.cells terms.heap (n - terms.place) (reg s 17) (reg s 10) (reg s 11) (reg s 12))
    (reply_same (same_rights h.agrees) s.heap (length y - s.place) (reg s 17) (reg s 10) (reg s 11) (reg s 12) ∙ (λ i. reply_to terms.cells (h.agrees.heap i) (inp.long i - h.agrees.place i) (reg s 17) (reg s 10) (reg s 11) (reg s 12)))
    (puts_a_word s.memory s.heap (length y - s.place) (reg s 17) (reg s 10) (reg s 11) (reg s 12) (subst (λ (o : Option Heap). IfSome o (λ x. x.brk < 2 ^ 32)) (sym h.agrees.heap) h.made.break) v w)
row_goes m n inp h word Ebreak = tt

-- a word that may be illegal
executed_goes : {made : Making} {IsMade : Tree → Type 0} → IsMaker made IsMade → {terms : SymbolicState} {y : List ℕ} {s : State} → (n : ℕ) → IsInput n y → Stands IsMade terms y s → (word : ℕ) (o : Option Instr) → OnGoes (Stands IsMade (after_instr made n terms (executed y s word o).event o) y) (executed y s word o).next
executed_goes m n inp h word None = tt
executed_goes m n inp h word (Some i) = row_goes m n inp h word i

-- the word of an event
pub word_kept : (y : List ℕ) (s : State) (word : ℕ) (o : Option Instr) → (executed y s word o).event.word ≡ word
unfolding effect
word_kept y s word None = refl
word_kept y s word (Some (Lui rd imm)) = refl
word_kept y s word (Some (Auipc rd imm)) = refl
word_kept y s word (Some (Jal rd offset)) = refl
word_kept y s word (Some (Jalr rd rs1 imm)) = refl
word_kept y s word (Some (Branch c rs1 rs2 offset)) = refl
word_kept y s word (Some (Load width rd rs1 imm)) = refl
word_kept y s word (Some (Store width rs1 rs2 imm)) = refl
word_kept y s word (Some (AluImm op rd rs1 imm)) = refl
word_kept y s word (Some (AluReg op rd rs1 rs2)) = refl
word_kept y s word (Some (Fence bits')) = refl
word_kept y s word (Some Ecall) = refl
word_kept y s word (Some Ebreak) = refl

-- a step, by its fetch
fetch_goes : {made : Making} {IsMade : Tree → Type 0} → IsMaker made IsMade → {terms : SymbolicState} {y : List ℕ} {s : State} → (n : ℕ) → IsInput n y → Stands IsMade terms y s → (o : Option ℕ) → OnGoes (Stands IsMade (terms_after made n terms (after_fetch y s o).event) y) (after_fetch y s o).next
unfolding terms_after
fetch_goes {made} {IsMade} m {terms} {y} {s} n inp h None =
    let word = word_at s.memory s.pc in
    let e = (executed y s word (decoded word)).event in
    subst (λ (w : ℕ). OnGoes (Stands IsMade (after_instr made n terms e (decoded w)) y) (executed y s word (decoded word)).next)
    (sym (word_kept y s word (decoded word))) (executed_goes m n inp h word (decoded word))
fetch_goes m n inp h (Some fault) = tt

-- one step
pub step_goes : {made : Making} {IsMade : Tree → Type 0} → IsMaker made IsMade → {terms : SymbolicState} {y : List ℕ} {s : State} → (n : ℕ) → IsInput n y → Stands IsMade terms y s → OnGoes (Stands IsMade (terms_after made n terms (step y s).event) y) (step y s).next
unfolding step
step_goes m {terms} {y} {s} n inp h = fetch_goes m n inp h (first_without execute s.memory s.pc 4)
