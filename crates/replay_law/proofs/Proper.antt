-- Each condition is a truth term that reads the input.
use Rattle.std.proofs.Common.{◌≡◌, ℕ, zero, suc, ◌+◌, ◌-◌, ◌%◌, ◌^◌, ◌<◌, ◌≤◌, List, [], ◌∷◌, ◌++◌, min, Option, Some, None, Bool, true, false, if◌then◌else◌, refl, sym, ap, ◌∙◌, arith, subst, ◌==◌, ◌||◌, inl, inr}
use Rattle.std.specs.List.{list_any}
use Rattle.std.proofs.Math.ListN.{get_or-map}
use Rattle.std.proofs.lemmas.Bool.{or_parts, false≢true}
use Rattle.rv_event.specs.declared.event.Event.{Event}
use Rattle.rv_event.specs.declared.event.EventKind.{EventKind}
use Rattle.rv_event.specs.declared.event.EventKind.TheVariants as kinds
use Rattle.rv_word.specs.declared.AluOp.TheVariants.{Add, And, Slt, Sltu, Sll, Sra}
use Rattle.rv_word.specs.Word.{bits}
use Rattle.rv_word.proofs.Words.{bits_below}
use Rattle.rv_decode.specs.Table.{decoded}
use Rattle.rv_decode.specs.declared.instr.Cond.{Cond}
use Rattle.rv_decode.specs.declared.instr.Cond.TheVariants as conds
use Rattle.rv_decode.specs.declared.instr.Instr.{Instr}
use Rattle.rv_decode.specs.declared.instr.Instr.TheVariants.{Lui, Auipc, Jal, Jalr, Branch, Load, Store, AluImm, AluReg, Fence, Ecall, Ebreak}
use Rattle.rv_decode.specs.declared.instr.Width.{Width}
use Rattle.rv_decode.specs.declared.instr.Width.TheVariants as widths
use Rattle.term_model.specs.declared.Op.TheVariants.{Alu, Eq, Byte, Pair, Half}
use Rattle.term_model.specs.Tree.{Tree, Const, Apply}
use Rattle.term_model.specs.Value.{val, byte_of}
use Rattle.term_model.specs.Same.{same_tree}
use Rattle.term_model.specs.Truth.{is_truth}
use Rattle.memory_map.specs.Cells.{Map, next_address, first_without, read, write}
use Rattle.elf32.specs.declared.segments.Segment.{Segment}
use Rattle.memory_map.specs.declared.heap.Heap.{Heap}
use Rattle.memory_map.specs.Heaps.{may_break, with_break}
use Rattle.call_replies.specs.declared.Reply.{Reply}
use Rattle.call_replies.specs.declared.Reply.TheVariants.{Answers, Moves, Breaks, Exits}
use Rattle.call_replies.specs.Calls.{reply_to}
use Rattle.call_replies.specs.Replies.{moved}
use Rattle.call_replies.proofs.Replies.{moves_at_most}
use Rattle.rv_machine.specs.State.{following, start_registers}
use Rattle.replay_law.specs.Making.{Making, IsMaker, IsConstant, IsTruthOrConstant, IsCarefulMaker}
use Rattle.replay_law.specs.Forms.{byte_term, equal, bytes_are, difference, pin, target_bytes, target, fails, branch_conditions, with_condition, with_conditions}
use Rattle.replay_law.specs.Terms.{SymbolicState, reg_term, put_reg, put_trees, zero_between, input_terms, extended_term, half_term, loaded_term, stored_terms, sum_term, call_value, after_reply, after_row, after_instr, terms_after, start_terms}
use Rattle.replay_law.specs.Follow.{fetched_byte, fetch_conditions, row_conditions, instr_conditions, conditions_by, event_conditions}
use Rattle.replay_law.proofs.Held.{byte_made, byte_below}
use Rattle.replay_law.proofs.Agreeing.{Each, written_keeps, put_keeps, zero_keeps}
use Rattle.replay_law.proofs.Agreement.{AreMade}
use Rattle.term_model.specs.Places.{ReadsBelow}
use Rattle.term_model.specs.Conditions.{Hold}
use Rattle.term_model.proofs.HoldLemmas.{first_holds, others_hold}
use Rattle.replay_law.specs.Crash.{IsProper, AreProper}

-- what each condition is, before repeats and the constant 1 are left out
pub record IsNew (IsMade : Tree → Type 0) (n : ℕ) (t : Tree) : Type 0 where
  pub made : IsMade t
  pub truth : IsTruthOrConstant t
  pub within : ReadsBelow n t

-- terms that read only places below n, with the input place among them or at the end
pub record ReadWithin (n : ℕ) (terms : SymbolicState) : Type 0 where
  pub registers : (r : ℕ) → ReadsBelow n (reg_term terms r)
  pub bytes : (a : ℕ) → ReadsBelow n (terms.bytes a)
  pub place : terms.place ≤ n

-- what holds of each of two lists holds of both together
pub both_each : (P : Tree → Type 0) (ts us : List Tree) → Each P ts → Each P us → Each P (ts ++ us)
both_each P [] us h k = k
both_each P (t ∷ ts) us h k = (h.0, both_each P ts us h.1 k)

-- a byte of a number is a made constant
const_made : {made : Making} {IsMade : Tree → Type 0} → IsMaker made IsMade → (k v : ℕ) → IsMade (Const (byte_of k v))
const_made m k v = m.constant (byte_of k v) (omega (arith, byte_below k v))

-- an equality is a new condition
new_equal : {made : Making} {IsMade : Tree → Type 0} → IsMaker made IsMade → IsCarefulMaker made IsMade → (n : ℕ) (a b : Tree) → IsMade a → IsMade b → ReadsBelow n a → ReadsBelow n b → IsNew IsMade n (made Eq a b)
new_equal m c n a b ia ib ra rb = record { made = m.gives Eq a b ia ib tt; truth = c.equals a b ia ib; within = c.places n Eq a b ra rb }

-- so is the equality of a byte with a number's
new_byte : {made : Making} {IsMade : Tree → Type 0} → IsMaker made IsMade → IsCarefulMaker made IsMade → (n : ℕ) (k : ℕ) → k < 4 → (t : Tree) (v : ℕ) → IsMade t → ReadsBelow n t → IsNew IsMade n (made Eq (byte_term made k t) (Const (byte_of k v)))
new_byte m c n k lt t v it rt = new_equal m c n _ _ (byte_made m k lt t it) (const_made m k v) (c.places n Byte t (Const k) rt tt) tt

-- so are those of all four bytes
new_bytes : {made : Making} {IsMade : Tree → Type 0} → IsMaker made IsMade → IsCarefulMaker made IsMade → (n : ℕ) (t : Tree) (v : ℕ) → IsMade t → ReadsBelow n t → Each (IsNew IsMade n) (bytes_are made t v)
new_bytes m c n t v it rt = (new_byte m c n 0 (omega arith) t v it rt, (new_byte m c n 1 (omega arith) t v it rt, (new_byte m c n 2 (omega arith) t v it rt, (new_byte m c n 3 (omega arith) t v it rt, tt))))

-- so are those of the bytes of two terms
new_same : {made : Making} {IsMade : Tree → Type 0} → IsMaker made IsMade → IsCarefulMaker made IsMade → (n : ℕ) (a b : Tree) → IsMade a → IsMade b → ReadsBelow n a → ReadsBelow n b → Each (IsNew IsMade n) (equal made a b)
new_same {made} {IsMade} m c n a b ia ib ra rb = (one 0 (omega arith), (one 1 (omega arith), (one 2 (omega arith), (one 3 (omega arith), tt))))
  where
    one : (k : ℕ) → k < 4 → IsNew IsMade n (made Eq (byte_term made k a) (byte_term made k b))
    one k lt = new_equal m c n _ _ (byte_made m k lt a ia) (byte_made m k lt b ib) (c.places n Byte a (Const k) ra tt) (c.places n Byte b (Const k) rb tt)

-- the conditions of a pin
new_pin : {made : Making} {IsMade : Tree → Type 0} → IsMaker made IsMade → IsCarefulMaker made IsMade → (n : ℕ) (t : Tree) (v : ℕ) → IsMade t → ReadsBelow n t → Each (IsNew IsMade n) (pin made t v)
new_pin m c n (Apply (Alu Add) t (Const d)) v it rt = new_pin m c n t (difference v d) (m.first _ _ _ it) rt.0
new_pin m c n t v it rt = new_bytes m c n t v it rt

-- the conditions of a target that is not peeled
new_target_bytes : {made : Making} {IsMade : Tree → Type 0} → IsMaker made IsMade → IsCarefulMaker made IsMade → (n : ℕ) (t : Tree) (v : ℕ) → IsMade t → ReadsBelow n t → Each (IsNew IsMade n) (target_bytes made t v)
new_target_bytes {made} m c n t v it rt = (
  new_equal m c n (made (Alu And) (byte_term made 0 t) (Const 0xfe)) (Const (byte_of 0 v)) (m.gives (Alu And) (byte_term made 0 t) (Const 0xfe) (byte_made m 0 (omega arith) t it) (m.constant 0xfe (omega arith)) tt) (const_made m 0 v)
      (c.places n (Alu And) (byte_term made 0 t) (Const 0xfe) (c.places n Byte t (Const 0) rt tt) tt) tt,
  (new_byte m c n 1 (omega arith) t v it rt, (new_byte m c n 2 (omega arith) t v it rt, (new_byte m c n 3 (omega arith) t v it rt, tt))),
)

-- of either list, by a test
each_if : (P : Tree → Type 0) (b : Bool) (ts us : List Tree) → Each P ts → Each P us → Each P (if b then ts else us)
each_if P true ts us h k = h
each_if P false ts us h k = k

-- the conditions of a target
new_target : {made : Making} {IsMade : Tree → Type 0} → IsMaker made IsMade → IsCarefulMaker made IsMade → (n : ℕ) (t : Tree) (v : ℕ) → IsMade t → ReadsBelow n t → Each (IsNew IsMade n) (target made t v)
new_target {made} {IsMade} m c n (Apply (Alu Add) t (Const d)) v it rt =
    each_if (IsNew IsMade n) (d % 2 == 0) (target made t (difference v d)) (target_bytes made (Apply (Alu Add) t (Const d)) v)
    (new_target m c n t (difference v d) (m.first _ _ _ it) rt.0) (new_target_bytes m c n (Apply (Alu Add) t (Const d)) v it rt)
new_target m c n t v it rt = new_target_bytes m c n t v it rt

-- the condition that a term is 0
new_fails : {made : Making} {IsMade : Tree → Type 0} → IsMaker made IsMade → IsCarefulMaker made IsMade → (n : ℕ) (t : Tree) → IsMade t → ReadsBelow n t → Each (IsNew IsMade n) (fails made t)
new_fails m c n t it rt = (new_equal m c n t (Const 0) it (m.constant 0 (omega arith)) rt tt, tt)

-- the conditions of a branch
new_outcome : {made : Making} {IsMade : Tree → Type 0} → IsMaker made IsMade → IsCarefulMaker made IsMade → (n : ℕ) (cond : Cond) (a b : Tree) (t : Bool) → IsMade a → IsMade b → ReadsBelow n a → ReadsBelow n b → Each (IsNew IsMade n) (branch_conditions made cond a b t)
new_outcome {made} {IsMade} m c n cond a b t ia ib ra rb = by_case cond t
  where
    no_equal : Each (IsNew IsMade n) (fails made (made Eq a b))
    no_equal = new_fails m c n (made Eq a b) (m.gives Eq a b ia ib tt) (c.places n Eq a b ra rb)

    no_less : Each (IsNew IsMade n) (fails made (made (Alu Slt) a b))
    no_less = new_fails m c n (made (Alu Slt) a b) (m.gives (Alu Slt) a b ia ib tt) (c.places n (Alu Slt) a b ra rb)

    no_below : Each (IsNew IsMade n) (fails made (made (Alu Sltu) a b))
    no_below = new_fails m c n (made (Alu Sltu) a b) (m.gives (Alu Sltu) a b ia ib tt) (c.places n (Alu Sltu) a b ra rb)

    is_less : Each (IsNew IsMade n) (made (Alu Slt) a b ∷ [])
    is_less = (record { made = m.gives (Alu Slt) a b ia ib tt; truth = c.less a b ia ib; within = c.places n (Alu Slt) a b ra rb }, tt)

    is_below : Each (IsNew IsMade n) (made (Alu Sltu) a b ∷ [])
    is_below = (record { made = m.gives (Alu Sltu) a b ia ib tt; truth = c.below a b ia ib; within = c.places n (Alu Sltu) a b ra rb }, tt)

    by_case : (d : Cond) (u : Bool) → Each (IsNew IsMade n) (branch_conditions made d a b u)
    by_case conds.Eq true = new_same m c n a b ia ib ra rb
    by_case conds.Eq false = no_equal
    by_case conds.Ne true = no_equal
    by_case conds.Ne false = new_same m c n a b ia ib ra rb
    by_case conds.Lt true = is_less
    by_case conds.Lt false = no_less
    by_case conds.Ge true = no_less
    by_case conds.Ge false = is_less
    by_case conds.Ltu true = is_below
    by_case conds.Ltu false = no_below
    by_case conds.Geu true = no_below
    by_case conds.Geu false = is_below

-- the conditions of an instruction
new_row : {made : Making} {IsMade : Tree → Type 0} → IsMaker made IsMade → IsCarefulMaker made IsMade → (n : ℕ) (s : SymbolicState) → AreMade IsMade s → ReadWithin n s → (e : Event) (shown : ℕ) (i : Instr) → Each (IsNew IsMade n) (row_conditions made s e shown i)
new_row {made} {IsMade} m c n s h w e shown i = by_row i
  where
    sum_made : (rs1 imm : ℕ) → imm < 2 ^ 32 → IsMade (sum_term made s rs1 imm)
    sum_made rs1 imm lt = m.gives (Alu Add) (reg_term s rs1) (Const imm) (h.registers rs1) (m.constant imm lt) tt

    sum_reads : (rs1 imm : ℕ) → ReadsBelow n (sum_term made s rs1 imm)
    sum_reads rs1 imm = c.places n (Alu Add) (reg_term s rs1) (Const imm) (w.registers rs1) tt

    pinned : (r v : ℕ) → Each (IsNew IsMade n) (pin made (reg_term s r) v)
    pinned r v = new_pin m c n (reg_term s r) v (h.registers r) (w.registers r)

    by_row : (i : Instr) → Each (IsNew IsMade n) (row_conditions made s e shown i)
    by_row (Jalr rd rs1 imm) = new_target m c n (sum_term made s rs1 (bits imm)) shown (sum_made rs1 (bits imm) (bits_below imm)) (sum_reads rs1 (bits imm))
    by_row (Branch cond rs1 rs2 offset) =
        each_if (IsNew IsMade n) ((e.pc + bits offset) % 2 ^ 32 == following e.pc) [] (branch_conditions made cond (reg_term s rs1) (reg_term s rs2) (shown == (e.pc + bits offset) % 2 ^ 32))
        tt (new_outcome m c n cond (reg_term s rs1) (reg_term s rs2) (shown == (e.pc + bits offset) % 2 ^ 32) (h.registers rs1) (h.registers rs2) (w.registers rs1) (w.registers rs2))
    by_row (Load width rd rs1 imm) = new_pin m c n (sum_term made s rs1 (bits imm)) e.addr (sum_made rs1 (bits imm) (bits_below imm)) (sum_reads rs1 (bits imm))
    by_row (Store width rs1 rs2 imm) = new_pin m c n (sum_term made s rs1 (bits imm)) e.addr (sum_made rs1 (bits imm) (bits_below imm)) (sum_reads rs1 (bits imm))
    by_row Ecall =
        both_each (IsNew IsMade n) (pin made (reg_term s 17) (call_value e 0)) _ (pinned 17 (call_value e 0))
        (both_each (IsNew IsMade n) (pin made (reg_term s 10) (call_value e 1)) _ (pinned 10 (call_value e 1))
        (both_each (IsNew IsMade n) (pin made (reg_term s 11) (call_value e 2)) _ (pinned 11 (call_value e 2)) (pinned 12 (call_value e 3))))
    by_row (Lui rd imm) = tt
    by_row (Auipc rd imm) = tt
    by_row (Jal rd offset) = tt
    by_row (AluImm op rd rs1 imm) = tt
    by_row (AluReg op rd rs1 rs2) = tt
    by_row (Fence word) = tt
    by_row Ebreak = tt

-- the conditions of a word that may be illegal
new_instr : {made : Making} {IsMade : Tree → Type 0} → IsMaker made IsMade → IsCarefulMaker made IsMade → (n : ℕ) (s : SymbolicState) → AreMade IsMade s → ReadWithin n s → (e : Event) (shown : ℕ) (o : Option Instr) → Each (IsNew IsMade n) (instr_conditions made s e shown o)
new_instr m c n s h w e shown None = tt
new_instr m c n s h w e shown (Some i) = new_row m c n s h w e shown i

-- the conditions of a fetched word
new_fetch : {made : Making} {IsMade : Tree → Type 0} → IsMaker made IsMade → IsCarefulMaker made IsMade → (n : ℕ) (s : SymbolicState) → AreMade IsMade s → ReadWithin n s → (a word : ℕ) → Each (IsNew IsMade n) (fetch_conditions made s a word)
new_fetch {made} {IsMade} m c n s h w a word = (one a 0, (one _ 1, (one _ 2, (one _ 3, tt))))
  where
    one : (a k : ℕ) → IsNew IsMade n (fetched_byte made s a word k)
    one a k = new_equal m c n (s.bytes a) (Const (byte_of k word)) (h.bytes a) (const_made m k word) (w.bytes a) tt

-- the conditions of an event
pub new_conditions : {made : Making} {IsMade : Tree → Type 0} → IsMaker made IsMade → IsCarefulMaker made IsMade → (n : ℕ) (s : SymbolicState) → AreMade IsMade s → ReadWithin n s → (e : Event) (shown : ℕ) → Each (IsNew IsMade n) (event_conditions made s e shown)
unfolding event_conditions
new_conditions {made} {IsMade} m c n s h w e shown = by_kind e.kind
  where
    all : Each (IsNew IsMade n) (fetch_conditions made s e.pc e.word ++ instr_conditions made s e shown (decoded e.word))
    all = both_each (IsNew IsMade n) (fetch_conditions made s e.pc e.word) _ (new_fetch m c n s h w e.pc e.word) (new_instr m c n s h w e shown (decoded e.word))

    by_kind : (k : EventKind) → Each (IsNew IsMade n) (conditions_by made s e shown k)
    by_kind kinds.NoFetch = tt
    by_kind kinds.Plain = all
    by_kind kinds.Load = all
    by_kind kinds.Store = all
    by_kind kinds.Call = all

-- ---- the terms after an event

-- a register takes a term that reads only the input
put_within : {n : ℕ} {s : SymbolicState} → ReadWithin n s → (rd : ℕ) (t : Tree) → ReadsBelow n t → ReadWithin n (put_reg rd t s)
put_within {n} {s} h rd t rt = record { registers = λ r. written_keeps (ReadsBelow n) s.registers rd r t rt (h.registers r); bytes = h.bytes; place = h.place }

-- memory takes such terms
moved_within : {n : ℕ} {s : SymbolicState} → ReadWithin n s → (a place : ℕ) (ts : List Tree) → place ≤ n → Each (ReadsBelow n) ts → ReadWithin n (record { registers = s.registers; bytes = put_trees s.bytes a ts; place = place; cells = s.cells; heap = s.heap })
moved_within {n} {s} h a place ts le each = record { registers = h.registers; bytes = put_keeps (ReadsBelow n) s.bytes a ts h.bytes each; place = le }

-- the bytes of the input that a read moves
inputs_within : (n place k : ℕ) → place + k ≤ n → Each (ReadsBelow n) (input_terms place k)
unfolding input_terms
inputs_within n place zero h = tt
inputs_within n place (suc k) h = (omega arith, inputs_within n (suc place) k (omega arith))

-- the terms after a call
reply_within : {n : ℕ} {s : SymbolicState} → ReadWithin n s → (e : Event) (r : Reply) → moved r ≤ n - s.place → ReadWithin n (after_reply s e r)
reply_within h e (Answers v) l = put_within h 10 (Const v) tt
reply_within {n} {s} h e (Moves k) l =
    let place : s.place ≤ n = h.place in
    put_within (moved_within h (call_value e 2) (s.place + k) (input_terms s.place k) (omega arith) (inputs_within n s.place k (omega arith))) 10 (Const k) tt
reply_within {n} {s} h e (Breaks b a) l =
    put_within (let w : ReadWithin n (record s { bytes = zero_between s.bytes b.brk a; cells = with_break s.cells b.brk a; heap = Some (record { start = b.start; brk = a }) }) = record { registers = h.registers; bytes = zero_keeps (ReadsBelow n) s.bytes b.brk a tt h.bytes; place = h.place } in w) 10 (Const a) tt
reply_within h e (Exits code) l = h

-- the terms after an instruction
row_within : {made : Making} {IsMade : Tree → Type 0} → IsCarefulMaker made IsMade → (n : ℕ) (s : SymbolicState) → ReadWithin n s → (e : Event) (i : Instr) → ReadWithin n (after_row made n s e i)
row_within {made} c n s h e i = by_row i
  where
    byte : (k : ℕ) (t : Tree) → ReadsBelow n t → ReadsBelow n (byte_term made k t)
    byte k t rt = c.places n Byte t (Const k) rt tt

    half : (a : ℕ) → ReadsBelow n (half_term made s.bytes a)
    half a = c.places n Pair (s.bytes a) (s.bytes (next_address a)) (h.bytes a) (h.bytes (next_address a))

    extended : (k : ℕ) (t : Tree) → ReadsBelow n t → ReadsBelow n (extended_term made k t)
    extended k t rt = c.places n (Alu Sra) (made (Alu Sll) t (Const k)) (Const k) (c.places n (Alu Sll) t (Const k) rt tt) tt

    loaded : (width : Width) (a : ℕ) → ReadsBelow n (loaded_term made s.bytes width a)
    loaded widths.B a = extended 24 (s.bytes a) (h.bytes a)
    loaded widths.Bu a = h.bytes a
    loaded widths.H a = extended 16 (half_term made s.bytes a) (half a)
    loaded widths.Hu a = half a
    loaded widths.W a = c.places n Half (half_term made s.bytes a) (half_term made s.bytes (next_address (next_address a))) (half a) (half (next_address (next_address a)))

    stored : (width : Width) (t : Tree) → ReadsBelow n t → Each (ReadsBelow n) (stored_terms made width t)
    stored widths.B t rt = (byte 0 t rt, tt)
    stored widths.Bu t rt = (byte 0 t rt, tt)
    stored widths.H t rt = (byte 0 t rt, (byte 1 t rt, tt))
    stored widths.Hu t rt = (byte 0 t rt, (byte 1 t rt, tt))
    stored widths.W t rt = (byte 0 t rt, (byte 1 t rt, (byte 2 t rt, (byte 3 t rt, tt))))

    by_row : (i : Instr) → ReadWithin n (after_row made n s e i)
    by_row (Lui rd imm) = put_within h rd (Const (bits imm)) tt
    by_row (Auipc rd imm) = put_within h rd (Const ((e.pc + bits imm) % 2 ^ 32)) tt
    by_row (Jal rd offset) = put_within h rd (Const (following e.pc)) tt
    by_row (Jalr rd rs1 imm) = put_within h rd (Const (following e.pc)) tt
    by_row (Branch cond rs1 rs2 offset) = h
    by_row (Load width rd rs1 imm) = put_within h rd (loaded_term made s.bytes width e.addr) (loaded width e.addr)
    by_row (Store width rs1 rs2 imm) = moved_within h e.addr s.place (stored_terms made width (reg_term s rs2)) h.place (stored width (reg_term s rs2) (h.registers rs2))
    by_row (AluImm op rd rs1 imm) = put_within h rd (made (Alu op) (reg_term s rs1) (Const (bits imm))) (c.places n (Alu op) (reg_term s rs1) (Const (bits imm)) (h.registers rs1) tt)
    by_row (AluReg op rd rs1 rs2) = put_within h rd (made (Alu op) (reg_term s rs1) (reg_term s rs2)) (c.places n (Alu op) (reg_term s rs1) (reg_term s rs2) (h.registers rs1) (h.registers rs2))
    by_row (Fence word) = h
    by_row Ecall = reply_within h e (reply_to s.cells s.heap (n - s.place) (call_value e 0) (call_value e 1) (call_value e 2) (call_value e 3)) (moves_at_most s.cells s.heap (n - s.place) (call_value e 0) (call_value e 1) (call_value e 2) (call_value e 3))
    by_row Ebreak = h

-- the terms after a word that may be illegal
instr_within : {made : Making} {IsMade : Tree → Type 0} → IsCarefulMaker made IsMade → (n : ℕ) (s : SymbolicState) → ReadWithin n s → (e : Event) (o : Option Instr) → ReadWithin n (after_instr made n s e o)
instr_within c n s h e None = h
instr_within c n s h e (Some i) = row_within c n s h e i

-- the terms after an event
pub after_within : {made : Making} {IsMade : Tree → Type 0} → IsCarefulMaker made IsMade → (n : ℕ) (s : SymbolicState) → ReadWithin n s → (e : Event) → ReadWithin n (terms_after made n s e)
unfolding terms_after
after_within c n s h e = instr_within c n s h e (decoded e.word)

-- the terms at the start
pub start_within : (n : ℕ) (segments : List Segment) → ReadWithin n (start_terms segments)
start_within n segments = record { registers = λ r. subst (ReadsBelow n) (sym (get_or-map Const start_registers r 0)) tt; bytes = λ a. tt; place = omega arith }

-- ---- without repeats and the constant 1

-- a condition that is kept is no constant 1
proper_if : {IsMade : Tree → Type 0} {made : Making} → IsCarefulMaker made IsMade → ((c : ℕ) → same_tree (Const c) (Const c) ≡ true) → (n : ℕ) (y : List ℕ) (t : Tree) → IsNew IsMade n t → val t y ≡ 1 → same_tree t (Const 1) ≡ false → IsProper n t
proper_if {IsMade} c itself n y t h e apart = record { truth = by_case h.truth; words = c.constants t h.made; reads = λ none. not_constant (c.closed t h.made none); within = h.within }
  where
    not_constant : IsConstant t → ⊥
    not_constant (d, is) =
        let one : d ≡ 1 = sym (ap (λ u. val u y) is) ∙ e in
        false≢true (sym apart ∙ ap (λ u. same_tree u (Const 1)) (is ∙ ap Const one) ∙ itself 1)

    by_case : IsTruthOrConstant t → is_truth t ≡ true
    by_case (inl p) = p
    by_case (inr k) = absurd (not_constant k)

-- one more proper condition
AreProper_push : (n : ℕ) (ts : List Tree) (t : Tree) → AreProper n ts → IsProper n t → AreProper n (ts ++ t ∷ [])
AreProper_push n [] t h k = (k, tt)
AreProper_push n (u ∷ us) t h k = (h.0, AreProper_push n us t h.1 k)

-- one more, or none, by a test
push_if : (n : ℕ) (ts : List Tree) (t : Tree) (b : Bool) → AreProper n ts → (b ≡ false → IsProper n t) → AreProper n (if b then ts else ts ++ t ∷ [])
push_if n ts t true h k = h
push_if n ts t false h k = AreProper_push n ts t h (k refl)

-- the conditions that are kept are proper
pub kept_proper : {IsMade : Tree → Type 0} {made : Making} → IsCarefulMaker made IsMade → ((c : ℕ) → same_tree (Const c) (Const c) ≡ true) → (n : ℕ) (y : List ℕ) (ts more : List Tree) → AreProper n ts → Each (IsNew IsMade n) more → Hold more y → AreProper n (with_conditions ts more)
unfolding with_conditions
kept_proper c itself n y ts [] h k e = h
kept_proper c itself n y ts (t ∷ more) h k e =
    kept_proper c itself n y (with_condition ts t) more
    (push_if n ts t (same_tree t (Const 1) || list_any (same_tree t) ts) h (λ f. proper_if c itself n y t k.0 (first_holds y t more e) (or_parts (same_tree t (Const 1)) (list_any (same_tree t) ts) f).0))
    k.1 (others_hold y t more e)
