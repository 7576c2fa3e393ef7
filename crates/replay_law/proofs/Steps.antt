-- One step: the conditions of its event hold of exactly the inputs on which the step looks the same.
use Rattle.std.proofs.Common.{◌≡◌, ℕ, ◌+◌, ◌-◌, ◌*◌, ◌%◌, ◌^◌, ◌<◌, List, ◌++◌, Option, Some, None, refl, sym, ap, ◌∙◌, arith, subst}
use Rattle.rv_event.specs.declared.event.EventKind.TheVariants as kinds
use Rattle.rv_event.specs.declared.event.TrapKind.TheVariants as traps
use Rattle.rv_decode.specs.Table.{decoded}
use Rattle.rv_decode.specs.declared.instr.Instr.{Instr}
use Rattle.rv_decode.specs.declared.instr.Instr.TheVariants.{Lui, Auipc, Jal, Jalr, Branch, Load, Store, AluImm, AluReg, Fence, Ecall, Ebreak}
use Rattle.term_model.specs.Tree.{Tree, Const}
use Rattle.term_model.specs.Value.{val, byte_of}
use Rattle.term_model.specs.Words.{AreBytes}
use Rattle.term_model.specs.Conditions.{Hold}
use Rattle.term_model.proofs.HoldLemmas.{hold_none, hold_four, hold_both, hold_left, hold_right}
use Rattle.term_model.proofs.ByteLemmas.{bytes_everywhere}
use Rattle.memory_map.specs.Cells.{execute, first_without, word_at, next_address}
use Rattle.rv_machine.specs.State.{State, no_call}
use Rattle.rv_machine.specs.Effects.{executed, after_fetch, step, effect}
use Rattle.input_laws.specs.Inputs.{IsInput}
use Rattle.replay_law.specs.Making.{Making, IsMaker}
use Rattle.replay_law.specs.Terms.{SymbolicState}
use Rattle.replay_law.specs.Follow.{fetched_byte, fetch_conditions, instr_conditions, conditions_by, event_conditions}
use Rattle.replay_law.proofs.Held.{eq_holds, eq_gives, byte_below}
use Rattle.replay_law.proofs.Agreeing.{first_same, same_rights, both_rights}
use Rattle.replay_law.proofs.Moved.{word_value}
use Rattle.replay_law.proofs.Stepping.{Stands, word_kept}
use Rattle.replay_law.proofs.Pinned.{AreAlike, shown_by, LookSame, row_looks, row_pins, event_same, plain_same, trap_same}
use Rattle.replay_law.proofs.Told.{row_gives, row_holds}
use Rattle.replay_law.proofs.Agreement.{AreMade}

-- two runs that the events so far do not tell apart, with the terms that stand for both
pub record AreTogether (IsMade : Tree → Type 0) (n : ℕ) (terms : SymbolicState) (x y : List ℕ) (s r : State) : Type 0 where
  pub first : IsInput n x
  pub second : IsInput n y
  pub here : Stands IsMade terms x s
  pub there : Stands IsMade terms y r
  pub pc : r.pc ≡ s.pc
  pub aligned : s.pc % 4 ≡ 0

-- two such runs are not told apart
pub alike : {IsMade : Tree → Type 0} {n : ℕ} {terms : SymbolicState} {x y : List ℕ} {s r : State} → AreTogether IsMade n terms x y s r → AreAlike x y s r
alike h = record {
  pc = h.pc;
  rights = both_rights (same_rights h.there.agrees) (same_rights h.here.agrees);
  heap = h.there.agrees.heap ∙ sym h.here.agrees.heap;
  left = (λ i. h.second.long i - h.there.agrees.place i) ∙ sym (λ i. h.first.long i - h.here.agrees.place i);
}

-- ---- the fetched word

-- a word by its four bytes
word_from : (w a b c d : ℕ) → w < 2 ^ 32 → a ≡ byte_of 0 w → b ≡ byte_of 1 w → c ≡ byte_of 2 w → d ≡ byte_of 3 w → a + 256 * b + 65536 * c + 16777216 * d ≡ w
word_from w a b c d h p q r s = omega arith

-- four bytes make a word
word_below : (a b c d : ℕ) → a < 256 → b < 256 → c < 256 → d < 256 → a + 256 * b + 65536 * c + 16777216 * d < 2 ^ 32
word_below a b c d h k p q = omega arith

-- byte 0 of that word
byte_zero : (w a b c d : ℕ) → a < 256 → a + 256 * b + 65536 * c + 16777216 * d ≡ w → a ≡ byte_of 0 w
byte_zero w a b c d h e = omega arith

-- byte 1
byte_one : (w a b c d : ℕ) → a < 256 → b < 256 → a + 256 * b + 65536 * c + 16777216 * d ≡ w → b ≡ byte_of 1 w
byte_one w a b c d h k e = omega arith

-- byte 2
byte_two : (w a b c d : ℕ) → a < 256 → b < 256 → c < 256 → a + 256 * b + 65536 * c + 16777216 * d ≡ w → c ≡ byte_of 2 w
byte_two w a b c d h k p e = omega arith

-- byte 3
byte_three : (w a b c d : ℕ) → a < 256 → b < 256 → c < 256 → d < 256 → a + 256 * b + 65536 * c + 16777216 * d ≡ w → d ≡ byte_of 3 w
byte_three w a b c d h k p q e = omega arith

-- a byte of memory is the word's where its condition holds
memory_byte_gives : {made : Making} {IsMade : Tree → Type 0} → IsMaker made IsMade → {terms : SymbolicState} → AreMade IsMade terms → (y : List ℕ) → AreBytes y → (a w k : ℕ) → val (fetched_byte made terms a w k) y ≡ 1 → val (terms.bytes a) y ≡ byte_of k w
memory_byte_gives m {terms} h y bs a w k e =
    let lt : byte_of k w < 2 ^ 32 = omega (arith, byte_below k w) in
    eq_gives m y bs (terms.bytes a) (Const (byte_of k w)) (h.bytes a) (m.constant (byte_of k w) lt) e

-- the condition holds where the byte is the word's
memory_byte_holds : {made : Making} {IsMade : Tree → Type 0} → IsMaker made IsMade → {terms : SymbolicState} → AreMade IsMade terms → (y : List ℕ) → AreBytes y → (a w k : ℕ) → val (terms.bytes a) y ≡ byte_of k w → val (fetched_byte made terms a w k) y ≡ 1
memory_byte_holds m {terms} h y bs a w k e =
    let lt : byte_of k w < 2 ^ 32 = omega (arith, byte_below k w) in
    eq_holds m y bs (terms.bytes a) (Const (byte_of k w)) (h.bytes a) (m.constant (byte_of k w) lt) e

-- a fetched word is below 2 ^ 32
fetched_below : {IsMade : Tree → Type 0} → {terms : SymbolicState} {x : List ℕ} {s : State} → AreBytes x → Stands IsMade terms x s → (a : ℕ) → first_without execute s.memory a 4 ≡ None → word_at s.memory a < 2 ^ 32
fetched_below {IsMade} {terms} {x} {s} bs h a ok =
    subst (λ (v : ℕ). v < 2 ^ 32) (sym (word_value h.agrees execute a ok))
    (word_below _ _ _ _ (h.made.small a x bs) (h.made.small (next_address a) x bs) (h.made.small (next_address (next_address a)) x bs) (h.made.small (next_address (next_address (next_address a))) x bs))

-- the fetched word is the event's where its conditions hold
fetch_gives : {made : Making} {IsMade : Tree → Type 0} → IsMaker made IsMade → {terms : SymbolicState} {y : List ℕ} {r : State} → AreBytes y → Stands IsMade terms y r → (a w : ℕ) → w < 2 ^ 32 → first_without execute r.memory a 4 ≡ None → Hold (fetch_conditions made terms a w) y → word_at r.memory a ≡ w
fetch_gives m {terms} {y} {r} bs h a w lt ok c =
    word_value h.agrees execute a ok
    ∙ word_from w _ _ _ _ lt
    (memory_byte_gives m h.made y bs a w 0 (c 0 (terms.bytes a) (omega arith))) (memory_byte_gives m h.made y bs (next_address a) w 1 (c 1 (terms.bytes a) (omega arith)))
    (memory_byte_gives m h.made y bs (next_address (next_address a)) w 2 (c 2 (terms.bytes a) (omega arith))) (memory_byte_gives m h.made y bs (next_address (next_address (next_address a))) w 3 (c 3 (terms.bytes a) (omega arith)))

-- the conditions hold where the fetched word is the event's
fetch_holds : {made : Making} {IsMade : Tree → Type 0} → IsMaker made IsMade → {terms : SymbolicState} {y : List ℕ} {r : State} → AreBytes y → Stands IsMade terms y r → (a w : ℕ) → first_without execute r.memory a 4 ≡ None → word_at r.memory a ≡ w → Hold (fetch_conditions made terms a w) y
fetch_holds m {terms} {y} {r} bs h a w ok e =
    let v = sym (word_value h.agrees execute a ok) ∙ e in
    let p = h.made.small a y bs in
    let q = h.made.small (next_address a) y bs in
    let t = h.made.small (next_address (next_address a)) y bs in
    let u = h.made.small (next_address (next_address (next_address a))) y bs in
    hold_four y _ _ _ _ (memory_byte_holds m h.made y bs a w 0 (byte_zero w _ _ _ _ p v)) (memory_byte_holds m h.made y bs (next_address a) w 1 (byte_one w _ _ _ _ p q v))
    (memory_byte_holds m h.made y bs (next_address (next_address a)) w 2 (byte_two w _ _ _ _ p q t v))
    (memory_byte_holds m h.made y bs (next_address (next_address (next_address a))) w 3 (byte_three w _ _ _ _ p q t u v))

-- ---- the conditions of an event with a word

-- the conditions of an event with a word are those of the fetch and of its instruction
conditions_kept : (made : Making) (terms : SymbolicState) (x : List ℕ) (s : State) (word shown : ℕ) (o : Option Instr) → conditions_by made terms (executed x s word o).event shown (executed x s word o).event.kind ≡ fetch_conditions made terms s.pc word ++ instr_conditions made terms (executed x s word o).event shown (decoded word)
unfolding effect
conditions_kept made terms x s word shown None = refl
conditions_kept made terms x s word shown (Some (Lui rd imm)) = refl
conditions_kept made terms x s word shown (Some (Auipc rd imm)) = refl
conditions_kept made terms x s word shown (Some (Jal rd offset)) = refl
conditions_kept made terms x s word shown (Some (Jalr rd rs1 imm)) = refl
conditions_kept made terms x s word shown (Some (Branch c rs1 rs2 offset)) = refl
conditions_kept made terms x s word shown (Some (Load width rd rs1 imm)) = refl
conditions_kept made terms x s word shown (Some (Store width rs1 rs2 imm)) = refl
conditions_kept made terms x s word shown (Some (AluImm op rd rs1 imm)) = refl
conditions_kept made terms x s word shown (Some (AluReg op rd rs1 rs2)) = refl
conditions_kept made terms x s word shown (Some (Fence bits')) = refl
conditions_kept made terms x s word shown (Some Ecall) = refl
conditions_kept made terms x s word shown (Some Ebreak) = refl

-- an instruction, or an illegal word, looks the same where its conditions hold
executed_looks : {made : Making} {IsMade : Tree → Type 0} → IsMaker made IsMade → {n : ℕ} {terms : SymbolicState} {x y : List ℕ} {s r : State} → AreTogether IsMade n terms x y s r → (word : ℕ) (o : Option Instr) → Hold (instr_conditions made terms (executed x s word o).event (shown_by (executed x s word o).next) o) y → LookSame (executed x s word o) (executed y r word o)
executed_looks m {s = s} {r = r} h word None c = record { event = plain_same s r h.pc word; next = trap_same r.pc s.pc h.pc traps.Illegal word word refl }
executed_looks m {x = x} {y = y} h word (Some i) c = row_looks (alike h) h.aligned word i (row_gives m (bytes_everywhere x h.first.in_range) (bytes_everywhere y h.second.in_range) h.here h.there word i c)

-- its conditions hold where it looks the same
executed_holds : {made : Making} {IsMade : Tree → Type 0} → IsMaker made IsMade → {n : ℕ} {terms : SymbolicState} {x y : List ℕ} {s r : State} → AreTogether IsMade n terms x y s r → (word : ℕ) (o : Option Instr) → (executed y r word o).event ≡ (executed x s word o).event → shown_by (executed y r word o).next ≡ shown_by (executed x s word o).next → Hold (instr_conditions made terms (executed x s word o).event (shown_by (executed x s word o).next) o) y
executed_holds m {y = y} h word None e f = hold_none y
executed_holds m {x = x} {y = y} h word (Some i) e f = row_holds m (bytes_everywhere x h.first.in_range) (bytes_everywhere y h.second.in_range) h.here h.there word i (row_pins (alike h) word i e f)

-- a step, by its fetch, looks the same where its conditions hold
fetched_looks : {made : Making} {IsMade : Tree → Type 0} → IsMaker made IsMade → {n : ℕ} {terms : SymbolicState} {x y : List ℕ} {s r : State} → AreTogether IsMade n terms x y s r → (o : Option ℕ) → first_without execute s.memory s.pc 4 ≡ o → first_without execute r.memory s.pc 4 ≡ o → Hold (event_conditions made terms (after_fetch x s o).event (shown_by (after_fetch x s o).next)) y → LookSame (after_fetch x s o) (after_fetch y r o)
unfolding event_conditions
fetched_looks {made} m {n} {terms} {x} {y} {s} {r} h None ok ko c =
    let word = word_at s.memory s.pc in
    let o = decoded word in
    let c2 = subst (λ (ts : List Tree). Hold ts y) (conditions_kept made terms x s word (shown_by (executed x s word o).next) o) c in
    let same = ap (word_at r.memory) h.pc ∙ fetch_gives m (bytes_everywhere y h.second.in_range) h.there s.pc word (fetched_below (bytes_everywhere x h.first.in_range) h.here s.pc ok) ko (hold_left y (fetch_conditions made terms s.pc word) (instr_conditions made terms (executed x s word o).event (shown_by (executed x s word o).next) o) c2) in
    subst (λ (w : ℕ). LookSame (executed x s word (decoded word)) (executed y r w (decoded w))) (sym same)
    (executed_looks m h word o (hold_right y (fetch_conditions made terms s.pc word) (instr_conditions made terms (executed x s word o).event (shown_by (executed x s word o).next) o) c2))
fetched_looks m {s = s} {r = r} h (Some fault) ok ko c = record { event = event_same s r h.pc 0 0 0 refl no_call no_call refl kinds.NoFetch; next = trap_same r.pc s.pc h.pc traps.FetchFault r.pc s.pc h.pc }

-- its conditions hold where it looks the same
fetched_holds : {made : Making} {IsMade : Tree → Type 0} → IsMaker made IsMade → {n : ℕ} {terms : SymbolicState} {x y : List ℕ} {s r : State} → AreTogether IsMade n terms x y s r → (o : Option ℕ) → first_without execute s.memory s.pc 4 ≡ o → first_without execute r.memory s.pc 4 ≡ o → (after_fetch y r o).event ≡ (after_fetch x s o).event → shown_by (after_fetch y r o).next ≡ shown_by (after_fetch x s o).next → Hold (event_conditions made terms (after_fetch x s o).event (shown_by (after_fetch x s o).next)) y
unfolding event_conditions
fetched_holds {made} m {n} {terms} {x} {y} {s} {r} h None ok ko e f =
    let word = word_at s.memory s.pc in
    let v = word_at r.memory r.pc in
    let o = decoded word in
    let same : v ≡ word = sym (word_kept y r v (decoded v)) ∙ (λ i. (e i).word) ∙ word_kept x s word o in
    let e2 = subst (λ (w : ℕ). (executed y r w (decoded w)).event ≡ (executed x s word o).event) same e in
    let f2 = subst (λ (w : ℕ). shown_by (executed y r w (decoded w)).next ≡ shown_by (executed x s word o).next) same f in
    subst (λ (ts : List Tree). Hold ts y) (sym (conditions_kept made terms x s word (shown_by (executed x s word o).next) o))
    (hold_both y (fetch_conditions made terms s.pc word) (instr_conditions made terms (executed x s word o).event (shown_by (executed x s word o).next) o)
    (fetch_holds m (bytes_everywhere y h.second.in_range) h.there s.pc word ko (ap (word_at r.memory) (sym h.pc) ∙ same))
    (executed_holds m h word o e2 f2))
fetched_holds m {y = y} h (Some fault) ok ko e f = hold_none y

-- both fetches from one address have the same fault
faults_there : {IsMade : Tree → Type 0} {n : ℕ} {terms : SymbolicState} {x y : List ℕ} {s r : State} → AreTogether IsMade n terms x y s r → first_without execute r.memory s.pc 4 ≡ first_without execute s.memory s.pc 4
faults_there {x = x} {y = y} {s = s} {r = r} h = first_same r.memory s.memory (alike h).rights execute 4 s.pc

-- both fetches have the same fault
faults_at : {IsMade : Tree → Type 0} {n : ℕ} {terms : SymbolicState} {x y : List ℕ} {s r : State} → AreTogether IsMade n terms x y s r → first_without execute r.memory r.pc 4 ≡ first_without execute s.memory s.pc 4
faults_at {x = x} {y = y} {s = s} {r = r} h = ap (λ a. first_without execute r.memory a 4) h.pc ∙ faults_there h

-- an input that meets the conditions of a step has a step that looks the same
pub step_looks : {made : Making} {IsMade : Tree → Type 0} → IsMaker made IsMade → {n : ℕ} {terms : SymbolicState} {x y : List ℕ} {s r : State} → AreTogether IsMade n terms x y s r → Hold (event_conditions made terms (step x s).event (shown_by (step x s).next)) y → LookSame (step x s) (step y r)
unfolding step
step_looks m {x = x} {y = y} {s = s} {r = r} h c =
    subst (λ (o : Option ℕ). LookSame (after_fetch x s (first_without execute s.memory s.pc 4)) (after_fetch y r o)) (sym (faults_at h))
    (fetched_looks m h (first_without execute s.memory s.pc 4) refl (faults_there h) c)

-- an input whose step has the same event, and shows the same, meets its conditions
pub step_holds : {made : Making} {IsMade : Tree → Type 0} → IsMaker made IsMade → {n : ℕ} {terms : SymbolicState} {x y : List ℕ} {s r : State} → AreTogether IsMade n terms x y s r → (step y r).event ≡ (step x s).event → shown_by (step y r).next ≡ shown_by (step x s).next → Hold (event_conditions made terms (step x s).event (shown_by (step x s).next)) y
unfolding step
step_holds m {x = x} {y = y} {s = s} {r = r} h e f =
    fetched_holds m h (first_without execute s.memory s.pc 4) refl (faults_there h)
    (subst (λ (o : Option ℕ). (after_fetch y r o).event ≡ (after_fetch x s (first_without execute s.memory s.pc 4)).event) (faults_at h) e)
    (subst (λ (o : Option ℕ). shown_by (after_fetch y r o).next ≡ shown_by (after_fetch x s (first_without execute s.memory s.pc 4)).next) (faults_at h) f)
