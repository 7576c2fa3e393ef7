-- The conditions of an event hold of an input where the values that its step pins are the same.
use Rattle.std.proofs.Common.{◌≡◌, ℕ, ◌+◌, ◌%◌, ◌^◌, ◌<◌, List, [], ◌++◌, Bool, true, false, if◌then◌else◌, sym, ap, ◌∙◌, arith, subst, ◌==◌, ◌⊎◌, inl, inr}
use Rattle.std.proofs.lemmas.Bool.{eq-eqb, eqb-true, eqb-false, ne_eqb}
use Rattle.rv_decode.specs.declared.instr.Instr.{Instr}
use Rattle.rv_decode.specs.declared.instr.Instr.TheVariants.{Lui, Auipc, Jal, Jalr, Branch, Load, Store, AluImm, AluReg, Fence, Ecall, Ebreak}
use Rattle.rv_word.specs.declared.AluOp.TheVariants.{Add}
use Rattle.rv_word.specs.Word.{bits}
use Rattle.rv_word.proofs.Words.{bits_below}
use Rattle.term_model.specs.declared.Op.TheVariants.{Alu}
use Rattle.term_model.specs.Tree.{Tree, Const}
use Rattle.term_model.specs.Value.{val}
use Rattle.term_model.specs.Words.{AreBytes}
use Rattle.term_model.specs.Conditions.{Hold}
use Rattle.term_model.proofs.HoldLemmas.{hold_none, hold_both, hold_left, hold_right}
use Rattle.rv_machine.specs.State.{State, Goes, reg, write_reg, at, following}
use Rattle.rv_machine.specs.Effects.{even, jump, taken, address_of, effect}
use Rattle.replay_law.specs.Making.{Making, IsMaker}
use Rattle.replay_law.specs.Forms.{pin, target, branch_conditions}
use Rattle.replay_law.specs.Terms.{SymbolicState, reg_term, sum_term}
use Rattle.replay_law.specs.Follow.{row_conditions}
use Rattle.replay_law.proofs.Held.{pin_holds, pin_gives, target_holds, target_gives, hold_if, if_held, outcome_holds, outcome_gives}
use Rattle.replay_law.proofs.Agreeing.{reg_value}
use Rattle.replay_law.proofs.Stepping.{Stands}
use Rattle.replay_law.proofs.Pinned.{shown_by, target_of, IsPinned, jump_shows}
use Rattle.replay_law.proofs.Agreement.{AreMade}

-- the value of a data address
sum_value : {made : Making} {IsMade : Tree → Type 0} → IsMaker made IsMade → {terms : SymbolicState} {y : List ℕ} {r : State} → AreBytes y → Stands IsMade terms y r → (rs1 imm : ℕ) → imm < 2 ^ 32 → val (sum_term made terms rs1 imm) y ≡ address_of r rs1 imm
sum_value m {terms} {y} {r} bs h rs1 imm lt =
    m.keeps (Alu Add) (reg_term terms rs1) (Const imm) y (h.made.registers rs1) (m.constant imm lt) tt bs ∙ ap (λ v. (v + imm) % 2 ^ 32) (sym (reg_value h.agrees rs1))

-- a data address is made
sum_made : {made : Making} {IsMade : Tree → Type 0} → IsMaker made IsMade → {terms : SymbolicState} → AreMade IsMade terms → (rs1 imm : ℕ) → imm < 2 ^ 32 → IsMade (sum_term made terms rs1 imm)
sum_made m {terms} h rs1 imm lt = m.gives (Alu Add) (reg_term terms rs1) (Const imm) (h.registers rs1) (m.constant imm lt) tt

-- the value of a register is a word
reg_below : {made : Making} {IsMade : Tree → Type 0} → IsMaker made IsMade → {terms : SymbolicState} {y : List ℕ} {r : State} → AreBytes y → Stands IsMade terms y r → (k : ℕ) → reg r k < 2 ^ 32
reg_below m {terms} {y} {r} bs h k = subst (λ (v : ℕ). v < 2 ^ 32) (sym (reg_value h.agrees k)) (m.words (reg_term terms k) y (h.made.registers k) bs)

-- a number with bit 0 cleared is even
even_even : (n : ℕ) → even n % 2 ≡ 0
even_even n = omega arith

-- a word with bit 0 cleared is a word
even_below : (n : ℕ) → even (n % 2 ^ 32) < 2 ^ 32
even_below n = omega arith

-- whether a target is shown, where it is not the next instruction
shown_target : (b : Bool) (pc t : ℕ) (s : State) → (t ≡ following pc → ⊥) → (shown_by (if b then jump pc t s else Goes (at (following pc) s)) == t) ≡ b
shown_target true pc t s far = eq-eqb _ _ (jump_shows pc t s)
shown_target false pc t s far = ne_eqb _ _ (λ e. far (sym e))

-- the state r on y and the state s on x agree with the same terms, and have the same program counter
pub row_gives : {made : Making} {IsMade : Tree → Type 0} → IsMaker made IsMade → {terms : SymbolicState} {x y : List ℕ} {s r : State} → AreBytes x → AreBytes y → Stands IsMade terms x s → Stands IsMade terms y r → (word : ℕ) (i : Instr) → Hold (row_conditions made terms (effect x s word i).event (shown_by (effect x s word i).next) i) y → IsPinned s r i
unfolding effect
row_gives m bx bs hx h word (Lui rd imm) c = tt
row_gives m bx bs hx h word (Auipc rd imm) c = tt
row_gives m bx bs hx h word (Jal rd offset) c = tt
row_gives {made} m {terms} {x} {y} {s} {r} bx bs hx h word (Jalr rd rs1 imm) c =
    let t = sum_term made terms rs1 (bits imm) in
    let e = jump_shows s.pc (even (address_of s rs1 (bits imm))) (write_reg rd (following s.pc) s) in
    ap even (sym (sum_value m bs h rs1 (bits imm) (bits_below imm)))
    ∙ target_gives m y bs t (even (address_of s rs1 (bits imm))) (sum_made m h.made rs1 (bits imm) (bits_below imm)) (even_below (reg s rs1 + bits imm)) (even_even (address_of s rs1 (bits imm)))
    (subst (λ (v : ℕ). Hold (target made t v) y) e c)
row_gives {made} m {terms} {x} {y} {s} {r} bx bs hx h word (Branch cond rs1 rs2 offset) c =
    if_held y (target_of s (bits offset) == following s.pc) [] (branch_conditions made cond (reg_term terms rs1) (reg_term terms rs2) (shown_by (effect x s word (Branch cond rs1 rs2 offset)).next == target_of s (bits offset)))
    (IsPinned s r (Branch cond rs1 rs2 offset))
    (λ near k. inl (eqb-true _ _ near))
    (λ far k. inr (
    (λ i. taken cond (reg_value h.agrees rs1 i) (reg_value h.agrees rs2 i))
    ∙ outcome_gives m y bs cond (reg_term terms rs1) (reg_term terms rs2) (shown_by (effect x s word (Branch cond rs1 rs2 offset)).next == target_of s (bits offset)) (h.made.registers rs1) (h.made.registers rs2) k
    ∙ shown_target (taken cond (reg s rs1) (reg s rs2)) s.pc (target_of s (bits offset)) s (eqb-false _ _ far)))
    c
row_gives {made} m {terms} {x} {y} {s} {r} bx bs hx h word (Load width rd rs1 imm) c =
    sym (sum_value m bs h rs1 (bits imm) (bits_below imm)) ∙ pin_gives m y bs (sum_term made terms rs1 (bits imm)) (address_of s rs1 (bits imm)) (sum_made m h.made rs1 (bits imm) (bits_below imm)) (omega arith) c
row_gives {made} m {terms} {x} {y} {s} {r} bx bs hx h word (Store width rs1 rs2 imm) c =
    sym (sum_value m bs h rs1 (bits imm) (bits_below imm)) ∙ pin_gives m y bs (sum_term made terms rs1 (bits imm)) (address_of s rs1 (bits imm)) (sum_made m h.made rs1 (bits imm) (bits_below imm)) (omega arith) c
row_gives m bx bs hx h word (AluImm op rd rs1 imm) c = tt
row_gives m bx bs hx h word (AluReg op rd rs1 rs2) c = tt
row_gives m bx bs hx h word (Fence bits') c = tt
row_gives {made} m {terms} {x} {y} {s} {r} bx bs hx h word Ecall c =
    let p = pin made (reg_term terms 17) (reg s 17) in
    let q = pin made (reg_term terms 10) (reg s 10) in
    let u = pin made (reg_term terms 11) (reg s 11) in
    let v = pin made (reg_term terms 12) (reg s 12) in
    record {
      a7 = reg_value h.agrees 17 ∙ pin_gives m y bs (reg_term terms 17) (reg s 17) (h.made.registers 17) (reg_below m bx hx 17) (hold_left y p (q ++ (u ++ v)) c);
      a0 = reg_value h.agrees 10 ∙ pin_gives m y bs (reg_term terms 10) (reg s 10) (h.made.registers 10) (reg_below m bx hx 10) (hold_left y q (u ++ v) (hold_right y p (q ++ (u ++ v)) c));
      a1 = reg_value h.agrees 11 ∙ pin_gives m y bs (reg_term terms 11) (reg s 11) (h.made.registers 11) (reg_below m bx hx 11) (hold_left y u v (hold_right y q (u ++ v) (hold_right y p (q ++ (u ++ v)) c)));
      a2 = reg_value h.agrees 12 ∙ pin_gives m y bs (reg_term terms 12) (reg s 12) (h.made.registers 12) (reg_below m bx hx 12) (hold_right y u v (hold_right y q (u ++ v) (hold_right y p (q ++ (u ++ v)) c)));
    }
row_gives m bx bs hx h word Ebreak c = tt

-- of two cases, the one that is left
far_or_same : {A B : Type 0} → A ⊎ B → (A → ⊥) → B
far_or_same (inl a) f = absurd (f a)
far_or_same (inr b) f = b

-- the conditions of an instruction hold where the values that it pins are the same
pub row_holds : {made : Making} {IsMade : Tree → Type 0} → IsMaker made IsMade → {terms : SymbolicState} {x y : List ℕ} {s r : State} → AreBytes x → AreBytes y → Stands IsMade terms x s → Stands IsMade terms y r → (word : ℕ) (i : Instr) → IsPinned s r i → Hold (row_conditions made terms (effect x s word i).event (shown_by (effect x s word i).next) i) y
unfolding effect
row_holds m {y = y} bx bs hx h word (Lui rd imm) p = hold_none y
row_holds m {y = y} bx bs hx h word (Auipc rd imm) p = hold_none y
row_holds m {y = y} bx bs hx h word (Jal rd offset) p = hold_none y
row_holds {made} m {terms} {x} {y} {s} {r} bx bs hx h word (Jalr rd rs1 imm) p =
    target_holds m y bs (sum_term made terms rs1 (bits imm)) _ (sum_made m h.made rs1 (bits imm) (bits_below imm))
    (ap even (sum_value m bs h rs1 (bits imm) (bits_below imm)) ∙ p ∙ sym (jump_shows s.pc (even (address_of s rs1 (bits imm))) (write_reg rd (following s.pc) s)))
row_holds {made} m {terms} {x} {y} {s} {r} bx bs hx h word (Branch cond rs1 rs2 offset) p =
    hold_if y (target_of s (bits offset) == following s.pc) [] (branch_conditions made cond (reg_term terms rs1) (reg_term terms rs2) (shown_by (effect x s word (Branch cond rs1 rs2 offset)).next == target_of s (bits offset)))
    (λ near. hold_none y)
    (λ far. outcome_holds m y bs cond (reg_term terms rs1) (reg_term terms rs2) (shown_by (effect x s word (Branch cond rs1 rs2 offset)).next == target_of s (bits offset)) (h.made.registers rs1) (h.made.registers rs2)
    (sym (λ i. taken cond (reg_value h.agrees rs1 i) (reg_value h.agrees rs2 i))
    ∙ far_or_same p (eqb-false _ _ far)
    ∙ sym (shown_target (taken cond (reg s rs1) (reg s rs2)) s.pc (target_of s (bits offset)) s (eqb-false _ _ far))))
row_holds {made} m {terms} {x} {y} {s} {r} bx bs hx h word (Load width rd rs1 imm) p =
    pin_holds m y bs (sum_term made terms rs1 (bits imm)) (address_of s rs1 (bits imm)) (sum_made m h.made rs1 (bits imm) (bits_below imm)) (sum_value m bs h rs1 (bits imm) (bits_below imm) ∙ p)
row_holds {made} m {terms} {x} {y} {s} {r} bx bs hx h word (Store width rs1 rs2 imm) p =
    pin_holds m y bs (sum_term made terms rs1 (bits imm)) (address_of s rs1 (bits imm)) (sum_made m h.made rs1 (bits imm) (bits_below imm)) (sum_value m bs h rs1 (bits imm) (bits_below imm) ∙ p)
row_holds m {y = y} bx bs hx h word (AluImm op rd rs1 imm) p = hold_none y
row_holds m {y = y} bx bs hx h word (AluReg op rd rs1 rs2) p = hold_none y
row_holds m {y = y} bx bs hx h word (Fence bits') p = hold_none y
row_holds {made} m {terms} {x} {y} {s} {r} bx bs hx h word Ecall p =
    hold_both y (pin made (reg_term terms 17) (reg s 17)) _ (pin_holds m y bs (reg_term terms 17) (reg s 17) (h.made.registers 17) (sym (reg_value h.agrees 17) ∙ p.a7))
    (hold_both y (pin made (reg_term terms 10) (reg s 10)) _ (pin_holds m y bs (reg_term terms 10) (reg s 10) (h.made.registers 10) (sym (reg_value h.agrees 10) ∙ p.a0))
    (hold_both y (pin made (reg_term terms 11) (reg s 11)) _ (pin_holds m y bs (reg_term terms 11) (reg s 11) (h.made.registers 11) (sym (reg_value h.agrees 11) ∙ p.a1))
    (pin_holds m y bs (reg_term terms 12) (reg s 12) (h.made.registers 12) (sym (reg_value h.agrees 12) ∙ p.a2))))
row_holds m {y = y} bx bs hx h word Ebreak p = hold_none y
