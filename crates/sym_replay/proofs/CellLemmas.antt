-- Memory without its bytes, and terms over it.
use Rattle.std.proofs.Common.{◌≡◌, ℕ, zero, suc, ◌-◌, ◌==◌, ◌||◌, List, [], ◌∷◌, ◌++◌, map, Option, Some, None, Bool, true, false, cond, min, refl, sym, ap, ◌∙◌, if◌then◌else◌}
use Rattle.std.specs.Option.{option_map}
use Rattle.std.specs.Ordering.{nat_cmp, eq_by_cmp}
use Rattle.std.specs.Cmp.{nat_cmp_total}
use Rattle.std.specs.FinMap.{get, find, entries, get-entries, get-from_entries, same_map, nat_cmp-IsAntisymmetric}
use Rattle.std.proofs.lemmas.Bool.{eqb-true}
use Rattle.memory_map.specs.Cells.{Map, Cell, can, read, write, byte_at, byte_of_cell, with_byte, first_without, next_address}
use Rattle.memory_map.specs.Layout.{cell_with}
use Rattle.memory_map.specs.declared.heap.Heap.{Heap}
use Rattle.memory_map.specs.Heaps.{heap_cell, with_break, is_in_span}
use Rattle.memory_map.proofs.Placed.{get-with_byte}
use Rattle.memory_map.proofs.Heaps.{get-with_break, cell_moved}
use Rattle.call_replies.specs.declared.Reply.{Reply}
use Rattle.call_replies.specs.declared.Reply.TheVariants.{Answers, Moves, Breaks, Exits}
use Rattle.call_replies.specs.Calls.{reply_to}
use Rattle.call_replies.proofs.Replies.{rests_on_rights}
use Rattle.rv_event.specs.declared.event.Event.{Event}
use Rattle.rv_event.specs.declared.event.EventKind.{EventKind}
use Rattle.rv_event.specs.declared.event.EventKind.TheVariants as kinds
use Rattle.rv_event.specs.declared.event.End.{End}
use Rattle.rv_decode.specs.Table.{decoded}
use Rattle.rv_decode.specs.declared.instr.Instr.{Instr}
use Rattle.rv_decode.specs.declared.instr.Instr.TheVariants.{Lui, Auipc, Jal, Jalr, Branch, Load, Store, AluImm, AluReg, Fence, Ecall, Ebreak}
use Rattle.normal_form.specs.Norm.{norm}
use Rattle.replay_law.specs.Terms.{SymbolicState, call_value, after_reply, after_row, after_instr, terms_after}
use Rattle.replay_law.specs.Follow.{fetch_conditions, row_conditions, instr_conditions, conditions_by, event_conditions, shown_next, follow}
use Rattle.sym_replay.specs.Cells.{without_byte, without_bytes, over_bare_cells}

-- ---- cells

abbrev bare : Option Cell → Option Cell
bare o = option_map without_byte o

by_tie : (b : Bool) (c : Cell) (o : Option Cell) → cond b (Some (without_byte c)) (bare o) ≡ bare (cond b (Some c) o)
by_tie true c o = refl
by_tie false c o = refl

find_bare : (q : ℕ) (es : List (ℕ × Cell)) → find nat_cmp q (map (λ e. (e.0, without_byte e.1)) es) ≡ bare (find nat_cmp q es)
find_bare q [] = refl
find_bare q (e ∷ es) =
    ap (cond (eq_by_cmp nat_cmp q e.0) (Some (without_byte e.1))) (find_bare q es) ∙ by_tie (eq_by_cmp nat_cmp q e.0) e.1 (find nat_cmp q es)

-- the cell at an address
pub get-without_bytes : (m : Map) (q : ℕ) → get (without_bytes m) q ≡ bare (get m q)
unfolding without_bytes
get-without_bytes m q =
    get-from_entries nat_cmp_total (map (λ e. (e.0, without_byte e.1)) (entries m)) q
    ∙ find_bare q (entries m)
    ∙ ap bare (sym (get-entries m q))

same_cells : (m n : Map) → ((q : ℕ) → get m q ≡ get n q) → m ≡ n
same_cells m n same = same_map nat_cmp_total nat_cmp-IsAntisymmetric m n same

bare_with : (t : Bool) (b : ℕ) (o : Option Cell) → bare (cond t (cell_with b o) o) ≡ bare o
bare_with true b None = refl
bare_with true b (Some c) = refl
bare_with false b o = refl

-- a byte that is stored changes no cell but for its byte
pub stored_bare : (m : Map) (a b : ℕ) → without_bytes (with_byte m a b (get m a)) ≡ without_bytes m
stored_bare m a b =
    same_cells _ _ (λ q.
    get-without_bytes (with_byte m a b (get m a)) q
    ∙ ap bare (get-with_byte m a b q (get m a) refl)
    ∙ bare_with (q == a) b (get m q)
    ∙ sym (get-without_bytes m q))

bare_moved : (t u : Bool) (o : Option Cell) → bare (cond t None (cond u (Some heap_cell) o)) ≡ cond t None (cond u (Some heap_cell) (bare o))
bare_moved true u o = refl
bare_moved false true o = refl
bare_moved false false o = refl

-- the break moves over cells without bytes as over others
pub moved_bare : (m : Map) (old new : ℕ) → without_bytes (with_break m old new) ≡ with_break (without_bytes m) old new
moved_bare m old new =
    same_cells _ _ (λ q.
    get-without_bytes (with_break m old new) q
    ∙ ap bare (get-with_break m old new q)
    ∙ bare_moved (is_in_span new (old - new) q) (is_in_span old (new - old) q) (get m q)
    ∙ ap (cell_moved old new q) (sym (get-without_bytes m q))
    ∙ sym (get-with_break (without_bytes m) old new q))

there : (b : ℕ) (o : Option Cell) → can write o ≡ true → byte_of_cell (cell_with b o) ≡ b
there b None may = cc
there b (Some c) may = refl

by_place : (m : Map) (a b q : ℕ) (t : Bool) → (q == a) ≡ t → can write (get m a) ≡ true → byte_of_cell (cond t (cell_with b (get m q)) (get m q)) ≡ cond t b (byte_of_cell (get m q))
by_place m a b q true e may = there b (get m q) (ap (λ x. can write (get m x)) (eqb-true q a e) ∙ may)
by_place m a b q false e may = refl

-- the bytes after one is stored where it may be
pub stored_byte : (m : Map) (a b q : ℕ) → can write (get m a) ≡ true → byte_at (with_byte m a b (get m a)) q ≡ cond (q == a) b (byte_at m q)
stored_byte m a b q may = ap byte_of_cell (get-with_byte m a b q (get m a) refl) ∙ by_place m a b q (q == a) refl may

-- ---- replies

can_bare : (r : ℕ) (o : Option Cell) → can r (bare o) ≡ can r o
can_bare r None = refl
can_bare r (Some c) = refl

first_bare : (m : Map) (r n a : ℕ) → first_without r (without_bytes m) a n ≡ first_without r m a n
unfolding first_without
first_bare m r zero a = refl
first_bare m r (suc n) a =
    (λ i. cond ((ap (can r) (get-without_bytes m a) ∙ can_bare r (get m a)) i) (first_bare m r n (next_address a) i) (Some a))

-- a reply rests on the rights of cells alone
pub reply_bare : (m : Map) (heap : Option Heap) (left a7 a0 a1 a2 : ℕ) → reply_to (without_bytes m) heap left a7 a0 a1 a2 ≡ reply_to m heap left a7 a0 a1 a2
reply_bare m heap left a7 a0 a1 a2 = rests_on_rights (without_bytes m) m (first_bare m) heap left a7 a0 a1 a2

-- ---- conditions

row_bare : (s : SymbolicState) (e : Event) (shown : ℕ) (i : Instr) → row_conditions norm (over_bare_cells s) e shown i ≡ row_conditions norm s e shown i
row_bare s e shown (Lui rd imm) = refl
row_bare s e shown (Auipc rd imm) = refl
row_bare s e shown (Jal rd offset) = refl
row_bare s e shown (Jalr rd rs1 imm) = refl
row_bare s e shown (Branch c rs1 rs2 offset) = refl
row_bare s e shown (Load width rd rs1 imm) = refl
row_bare s e shown (Store width rs1 rs2 imm) = refl
row_bare s e shown (AluImm op rd rs1 imm) = refl
row_bare s e shown (AluReg op rd rs1 rs2) = refl
row_bare s e shown (Fence bits) = refl
row_bare s e shown Ecall = refl
row_bare s e shown Ebreak = refl

instr_bare : (s : SymbolicState) (e : Event) (shown : ℕ) (o : Option Instr) → instr_conditions norm (over_bare_cells s) e shown o ≡ instr_conditions norm s e shown o
instr_bare s e shown None = refl
instr_bare s e shown (Some i) = row_bare s e shown i

word_bare : (s : SymbolicState) (e : Event) (shown : ℕ) → fetch_conditions norm s e.pc e.word ++ instr_conditions norm (over_bare_cells s) e shown (decoded e.word) ≡ fetch_conditions norm s e.pc e.word ++ instr_conditions norm s e shown (decoded e.word)
word_bare s e shown = ap (λ cs. fetch_conditions norm s e.pc e.word ++ cs) (instr_bare s e shown (decoded e.word))

kind_bare : (s : SymbolicState) (e : Event) (shown : ℕ) (k : EventKind) → conditions_by norm (over_bare_cells s) e shown k ≡ conditions_by norm s e shown k
kind_bare s e shown kinds.NoFetch = refl
kind_bare s e shown kinds.Plain = word_bare s e shown
kind_bare s e shown kinds.Load = word_bare s e shown
kind_bare s e shown kinds.Store = word_bare s e shown
kind_bare s e shown kinds.Call = word_bare s e shown

event_bare : (s : SymbolicState) (e : Event) (shown : ℕ) → event_conditions norm (over_bare_cells s) e shown ≡ event_conditions norm s e shown
unfolding event_conditions
event_bare s e shown = kind_bare s e shown e.kind

-- ---- later terms

after_reply_bare : (s : SymbolicState) (e : Event) (r : Reply) → after_reply (over_bare_cells s) e r ≡ over_bare_cells (after_reply s e r)
after_reply_bare s e (Answers v) = refl
after_reply_bare s e (Moves k) = refl
after_reply_bare s e (Breaks h a) = ap (λ (cells : Map). record (after_reply s e (Breaks h a)) { cells = cells }) (sym (moved_bare s.cells h.brk a))
after_reply_bare s e (Exits code) = refl

row_after_bare : (n : ℕ) (s : SymbolicState) (e : Event) (i : Instr) → after_row norm n (over_bare_cells s) e i ≡ over_bare_cells (after_row norm n s e i)
row_after_bare n s e (Lui rd imm) = refl
row_after_bare n s e (Auipc rd imm) = refl
row_after_bare n s e (Jal rd offset) = refl
row_after_bare n s e (Jalr rd rs1 imm) = refl
row_after_bare n s e (Branch c rs1 rs2 offset) = refl
row_after_bare n s e (Load width rd rs1 imm) = refl
row_after_bare n s e (Store width rs1 rs2 imm) = refl
row_after_bare n s e (AluImm op rd rs1 imm) = refl
row_after_bare n s e (AluReg op rd rs1 rs2) = refl
row_after_bare n s e (Fence bits) = refl
row_after_bare n s e Ecall =
    ap (after_reply (over_bare_cells s) e) (reply_bare s.cells s.heap (n - s.place) (call_value e 0) (call_value e 1) (call_value e 2) (call_value e 3))
    ∙ after_reply_bare s e (reply_to s.cells s.heap (n - s.place) (call_value e 0) (call_value e 1) (call_value e 2) (call_value e 3))
row_after_bare n s e Ebreak = refl

instr_after_bare : (n : ℕ) (s : SymbolicState) (e : Event) (o : Option Instr) → after_instr norm n (over_bare_cells s) e o ≡ over_bare_cells (after_instr norm n s e o)
instr_after_bare n s e None = refl
instr_after_bare n s e (Some i) = row_after_bare n s e i

after_bare : (n : ℕ) (s : SymbolicState) (e : Event) → terms_after norm n (over_bare_cells s) e ≡ over_bare_cells (terms_after norm n s e)
unfolding terms_after
after_bare n s e = instr_after_bare n s e (decoded e.word)

-- ---- runs

both : {A : Type 0} (a b c d : List A) → a ≡ b → c ≡ d → a ++ c ≡ b ++ d
both a b c d e f = (λ i. e i ++ f i)

-- the conditions along the events are the same over cells without bytes
pub follow_bare : (n : ℕ) (end : End) (es : List Event) (s : SymbolicState) → follow norm n (over_bare_cells s) es end ≡ follow norm n s es end
unfolding follow
follow_bare n end [] s = refl
follow_bare n end (e ∷ es) s =
    both (event_conditions norm (over_bare_cells s) e (shown_next es end)) (event_conditions norm s e (shown_next es end))
    (follow norm n (terms_after norm n (over_bare_cells s) e) es end) (follow norm n (terms_after norm n s e) es end)
    (event_bare s e (shown_next es end))
    (ap (λ t. follow norm n t es end) (after_bare n s e) ∙ follow_bare n end es (terms_after norm n s e))
