-- Each word that stands for an instruction is in that instruction's row.
use Rattle.std.proofs.Common.{◌≡◌, ℕ, ◌<◌, ◌==◌, ◌&&◌, ◌||◌, ◌^◌, ◌∙◌, Bool, true, false, cond, Option, Some, None, refl, sym, subst, inl, inr, arith, IfSome, ℤ, pos}
use Rattle.std.specs.Option.{option_map}
use Rattle.std.proofs.lemmas.Int.{ints}
use Rattle.rv_word.specs.declared.AluOp.{AluOp}
use Rattle.rv_word.specs.declared.AluOp.TheVariants as ops
use Rattle.rv_decode.specs.declared.instr.Cond.{Cond}
use Rattle.rv_decode.specs.declared.instr.Width.{Width}
use Rattle.rv_decode.specs.declared.instr.Instr.{Instr}
use Rattle.rv_decode.specs.declared.instr.Instr.TheVariants.{Lui, Auipc, Jal, Jalr, Branch, Load, Store, AluImm, AluReg, Fence, Ecall, Ebreak}
use Rattle.rv_decode.specs.Fields.{opcode_of, rd_of, funct3_of, rs1_of, rs2_of, funct7_of, i_immediate, s_immediate, b_offset, u_immediate, j_offset}
use Rattle.rv_decode.specs.Table.{decoded}
use Rattle.rv_decode.specs.Opcodes.{condition_of, load_width_of, store_width_of, immediate_op_of, shift_of, base_op_of, other_op_of, multiply_op_of, register_op_of, branch_of, load_of, store_of, alu_immediate_of, alu_register_of, instruction_of}
use Rattle.rv_decode.proofs.Listing.{listed, is}
use Rattle.rv_decode.specs.Rows.{IsRow, IsStored, IsShift, IsImmediateOp, branch_funct3, access_funct3, op_funct3, op_funct7}

-- what holds of both outcomes of a test
if_cond : {X : Type 0} (P : X → Type 0) (b : Bool) (x y : Option X) → (b ≡ true → IfSome x P) → (b ≡ false → IfSome y P) → IfSome (cond b x y) P
if_cond P true x y f g = f refl
if_cond P false x y f g = g refl

-- what holds of all that a function gives
if_map : {A X : Type 0} (P : X → Type 0) (f : A → X) (o : Option A) → ((x : A) → o ≡ Some x → P (f x)) → IfSome (option_map f o) P
if_map P f None h = tt
if_map P f (Some x) h = h x refl

-- what holds of the value, if there is one
at_some : {X : Type 0} (P : X → Type 0) (o : Option X) (x : X) → o ≡ Some x → IfSome o P → P x
at_some {X} P o x e h = let Q : Option X → Type 0 = λ v. IfSome v P in subst Q e h

-- ---- what the codes in a word tell

-- the condition that funct3 tells has that funct3
condition_is : (x : Cond) (f : ℕ) → condition_of f ≡ Some x → f ≡ branch_funct3 x
condition_is x f e =
    let P : Cond → Type 0 = λ y. f ≡ branch_funct3 y in
    at_some P (condition_of f) x e (
    if_cond P (f == 0) _ _ (λ h. is _ _ h) (λ _.
    if_cond P (f == 1) _ _ (λ h. is _ _ h) (λ _.
    if_cond P (f == 4) _ _ (λ h. is _ _ h) (λ _.
    if_cond P (f == 5) _ _ (λ h. is _ _ h) (λ _.
    if_cond P (f == 6) _ _ (λ h. is _ _ h) (λ _.
    if_cond P (f == 7) _ _ (λ h. is _ _ h) (λ _.
    tt)))))))

-- the width of a load that funct3 tells has that funct3
load_width_is : (x : Width) (f : ℕ) → load_width_of f ≡ Some x → f ≡ access_funct3 x
load_width_is x f e =
    let P : Width → Type 0 = λ y. f ≡ access_funct3 y in
    at_some P (load_width_of f) x e (
    if_cond P (f == 0) _ _ (λ h. is _ _ h) (λ _.
    if_cond P (f == 1) _ _ (λ h. is _ _ h) (λ _.
    if_cond P (f == 2) _ _ (λ h. is _ _ h) (λ _.
    if_cond P (f == 4) _ _ (λ h. is _ _ h) (λ _.
    if_cond P (f == 5) _ _ (λ h. is _ _ h) (λ _.
    tt))))))

-- the width of a store that funct3 tells is one that is stored, and has that funct3
store_width_is : (x : Width) (f : ℕ) → store_width_of f ≡ Some x → IsStored x × (f ≡ access_funct3 x)
store_width_is x f e =
    let P : Width → Type 0 = λ y. IsStored y × (f ≡ access_funct3 y) in
    at_some P (store_width_of f) x e (
    if_cond P (f == 0) _ _ (λ h. (tt, is _ _ h)) (λ _.
    if_cond P (f == 1) _ _ (λ h. (tt, is _ _ h)) (λ _.
    if_cond P (f == 2) _ _ (λ h. (tt, is _ _ h)) (λ _.
    tt))))

-- the operation with an immediate that funct3 tells has that funct3
immediate_op_is : (x : AluOp) (f : ℕ) → immediate_op_of f ≡ Some x → IsImmediateOp x × (f ≡ op_funct3 x)
immediate_op_is x f e =
    let P : AluOp → Type 0 = λ y. IsImmediateOp y × (f ≡ op_funct3 y) in
    at_some P (immediate_op_of f) x e (
    if_cond P (f == 0) _ _ (λ h. (tt, is _ _ h)) (λ _.
    if_cond P (f == 2) _ _ (λ h. (tt, is _ _ h)) (λ _.
    if_cond P (f == 3) _ _ (λ h. (tt, is _ _ h)) (λ _.
    if_cond P (f == 4) _ _ (λ h. (tt, is _ _ h)) (λ _.
    if_cond P (f == 6) _ _ (λ h. (tt, is _ _ h)) (λ _.
    if_cond P (f == 7) _ _ (λ h. (tt, is _ _ h)) (λ _.
    tt)))))))

-- of two tests that hold together, both hold
both : (a b : Bool) → (a && b) ≡ true → (a ≡ true) × (b ≡ true)
both true b h = (refl, h)
both false b h = cc

-- the shift that funct7 and funct3 tell has these codes
shift_is : (x : AluOp) (a b : ℕ) → shift_of a b ≡ Some x → IsShift x × (a ≡ op_funct7 x) × (b ≡ op_funct3 x)
shift_is x a b e =
    let P : AluOp → Type 0 = λ y. IsShift y × (a ≡ op_funct7 y) × (b ≡ op_funct3 y) in
    at_some P (shift_of a b) x e (
    if_cond P (b == 1 && a == 0) _ _ (λ h. let t = both (b == 1) (a == 0) h in (tt, is _ _ t.1, is _ _ t.0)) (λ _.
    if_cond P (b == 5 && a == 0) _ _ (λ h. let t = both (b == 5) (a == 0) h in (tt, is _ _ t.1, is _ _ t.0)) (λ _.
    if_cond P (b == 5 && a == 0x20) _ _ (λ h. let t = both (b == 5) (a == 0x20) h in (tt, is _ _ t.1, is _ _ t.0)) (λ _.
    tt))))

-- an operation has these codes
abbrev IsCode : ℕ → ℕ → AluOp → Type 0
IsCode a b x = (a ≡ op_funct7 x) × (b ≡ op_funct3 x)

-- those of funct7 0
base_codes : (a b : ℕ) → a ≡ 0 → IfSome (base_op_of b) (IsCode a b)
base_codes a b e =
    if_cond (IsCode a b) (b == 0) _ _ (λ h. (e, is _ _ h)) (λ _.
    if_cond (IsCode a b) (b == 1) _ _ (λ h. (e, is _ _ h)) (λ _.
    if_cond (IsCode a b) (b == 2) _ _ (λ h. (e, is _ _ h)) (λ _.
    if_cond (IsCode a b) (b == 3) _ _ (λ h. (e, is _ _ h)) (λ _.
    if_cond (IsCode a b) (b == 4) _ _ (λ h. (e, is _ _ h)) (λ _.
    if_cond (IsCode a b) (b == 5) _ _ (λ h. (e, is _ _ h)) (λ _.
    if_cond (IsCode a b) (b == 6) _ _ (λ h. (e, is _ _ h)) (λ _.
    if_cond (IsCode a b) (b == 7) _ _ (λ h. (e, is _ _ h)) (λ _.
    tt))))))))

-- those of funct7 0x20
other_codes : (a b : ℕ) → a ≡ 0x20 → IfSome (other_op_of b) (IsCode a b)
other_codes a b e =
    if_cond (IsCode a b) (b == 0) _ _ (λ h. (e, is _ _ h)) (λ _.
    if_cond (IsCode a b) (b == 5) _ _ (λ h. (e, is _ _ h)) (λ _.
    tt))

-- those of funct7 1
multiply_codes : (a b : ℕ) → a ≡ 1 → IfSome (multiply_op_of b) (IsCode a b)
multiply_codes a b e =
    if_cond (IsCode a b) (b == 0) _ _ (λ h. (e, is _ _ h)) (λ _.
    if_cond (IsCode a b) (b == 1) _ _ (λ h. (e, is _ _ h)) (λ _.
    if_cond (IsCode a b) (b == 2) _ _ (λ h. (e, is _ _ h)) (λ _.
    if_cond (IsCode a b) (b == 3) _ _ (λ h. (e, is _ _ h)) (λ _.
    if_cond (IsCode a b) (b == 4) _ _ (λ h. (e, is _ _ h)) (λ _.
    if_cond (IsCode a b) (b == 5) _ _ (λ h. (e, is _ _ h)) (λ _.
    if_cond (IsCode a b) (b == 6) _ _ (λ h. (e, is _ _ h)) (λ _.
    if_cond (IsCode a b) (b == 7) _ _ (λ h. (e, is _ _ h)) (λ _.
    tt))))))))

-- the operation on two registers that funct7 and funct3 tell has these codes
register_op_is : (x : AluOp) (a b : ℕ) → register_op_of a b ≡ Some x → IsCode a b x
register_op_is x a b e =
    at_some (IsCode a b) (register_op_of a b) x e (
    if_cond (IsCode a b) (a == 0) _ _ (λ h. base_codes a b (is _ _ h)) (λ _.
    if_cond (IsCode a b) (a == 0x20) _ _ (λ h. other_codes a b (is _ _ h)) (λ _.
    if_cond (IsCode a b) (a == 1) _ _ (λ h. multiply_codes a b (is _ _ h)) (λ _.
    tt))))

-- ---- what a word stands for is in its row

-- an operation with an immediate
immediate_rows : (w : ℕ) → opcode_of w ≡ 0x13 → IfSome (alu_immediate_of w) (IsRow w)
unfolding alu_immediate_of
immediate_rows w code =
    let shifts = λ (op : AluOp). AluImm op (rd_of w) (rs1_of w) (pos (rs2_of w)) in
    let others = λ (op : AluOp). AluImm op (rd_of w) (rs1_of w) (i_immediate w) in
    if_cond (IsRow w) ((funct3_of w == 1) || (funct3_of w == 5)) _ _
    (λ _. if_map (IsRow w) shifts (shift_of (funct7_of w) (funct3_of w)) (λ op e. let t = shift_is op _ _ e in (code, refl, refl, inl ((t.0, t.1), refl), t.2)))
    (λ _. if_map (IsRow w) others (immediate_op_of (funct3_of w)) (λ op e. let t = immediate_op_is op _ e in (code, refl, refl, inr (t.0, refl), t.1)))

-- a branch
branch_rows : (w : ℕ) → opcode_of w ≡ 0x63 → IfSome (branch_of w) (IsRow w)
unfolding branch_of
branch_rows w code = if_map (IsRow w) (λ x. Branch x (rs1_of w) (rs2_of w) (b_offset w)) (condition_of (funct3_of w)) (λ x e. (code, condition_is x _ e, refl, refl, refl))

-- a load
load_rows : (w : ℕ) → opcode_of w ≡ 0x03 → IfSome (load_of w) (IsRow w)
unfolding load_of
load_rows w code = if_map (IsRow w) (λ x. Load x (rd_of w) (rs1_of w) (i_immediate w)) (load_width_of (funct3_of w)) (λ x e. (code, load_width_is x _ e, refl, refl, refl))

-- a store
store_rows : (w : ℕ) → opcode_of w ≡ 0x23 → IfSome (store_of w) (IsRow w)
unfolding store_of
store_rows w code = if_map (IsRow w) (λ x. Store x (rs1_of w) (rs2_of w) (s_immediate w)) (store_width_of (funct3_of w)) (λ x e. (code, store_width_is x _ e, refl, refl, refl))

-- an operation on two registers
register_rows : (w : ℕ) → opcode_of w ≡ 0x33 → IfSome (alu_register_of w) (IsRow w)
unfolding alu_register_of
register_rows w code = if_map (IsRow w) (λ x. AluReg x (rd_of w) (rs1_of w) (rs2_of w)) (register_op_of (funct7_of w) (funct3_of w)) (λ x e. (code, register_op_is x _ _ e, refl, refl, refl))

-- what a word stands for is in its row
rows : (w : ℕ) → IfSome (instruction_of w) (IsRow w)
unfolding instruction_of
rows w =
    let R : Instr → Type 0 = IsRow w in
    if_cond R (opcode_of w == 0x37) _ _ (λ h. (is _ _ h, refl, refl)) (λ _.
    if_cond R (opcode_of w == 0x17) _ _ (λ h. (is _ _ h, refl, refl)) (λ _.
    if_cond R (opcode_of w == 0x6f) _ _ (λ h. (is _ _ h, refl, refl)) (λ _.
    if_cond R (opcode_of w == 0x67) _ _ (λ h. if_cond R (funct3_of w == 0) _ _ (λ k. (is _ _ h, is _ _ k, refl, refl, refl)) (λ _. tt)) (λ _.
    if_cond R (opcode_of w == 0x63) _ _ (λ h. branch_rows w (is _ _ h)) (λ _.
    if_cond R (opcode_of w == 0x03) _ _ (λ h. load_rows w (is _ _ h)) (λ _.
    if_cond R (opcode_of w == 0x23) _ _ (λ h. store_rows w (is _ _ h)) (λ _.
    if_cond R (opcode_of w == 0x13) _ _ (λ h. immediate_rows w (is _ _ h)) (λ _.
    if_cond R (opcode_of w == 0x33) _ _ (λ h. register_rows w (is _ _ h)) (λ _.
    if_cond R (opcode_of w == 0x0f) _ _
    (λ h. if_cond R (funct3_of w == 0) _ _ (λ k. let z : funct3_of w ≡ 0 = is _ _ k in (is _ _ h, omega (arith, z), refl)) (λ _.
    if_cond R (funct3_of w == 1) _ _ (λ k. let z : funct3_of w ≡ 1 = is _ _ k in (is _ _ h, omega (arith, z), refl)) (λ _. tt))) (λ _.
    if_cond R (w == 0x00000073) _ _ (λ h. is _ _ h) (λ _.
    if_cond R (w == 0x00100073) _ _ (λ h. is _ _ h) (λ _. tt))))))))))))

-- the row of the instruction that a word stands for
pub row_in : (w : ℕ) (i : Instr) → decoded w ≡ Some i → IsRow w i
row_in w i e = at_some (IsRow w) (instruction_of w) i (sym (listed w) ∙ e) (rows w)

-- ---- equal fields, equal words

-- format U
same_u : (v w : ℕ) → v < 2 ^ 32 → w < 2 ^ 32 → opcode_of v ≡ opcode_of w → rd_of v ≡ rd_of w → u_immediate v ≡ u_immediate w → v ≡ w
same_u v w fv fw a b e = grind (arith, ints)

-- format J
same_j : (v w : ℕ) → v < 2 ^ 32 → w < 2 ^ 32 → opcode_of v ≡ opcode_of w → rd_of v ≡ rd_of w → j_offset v ≡ j_offset w → v ≡ w
same_j v w fv fw a b e = grind (arith, ints)

-- format I
same_i : (v w : ℕ) → v < 2 ^ 32 → w < 2 ^ 32 → opcode_of v ≡ opcode_of w → rd_of v ≡ rd_of w → funct3_of v ≡ funct3_of w → rs1_of v ≡ rs1_of w → i_immediate v ≡ i_immediate w → v ≡ w
same_i v w fv fw a b c d e = grind (arith, ints)

-- format B
same_b : (v w : ℕ) → v < 2 ^ 32 → w < 2 ^ 32 → opcode_of v ≡ opcode_of w → funct3_of v ≡ funct3_of w → rs1_of v ≡ rs1_of w → rs2_of v ≡ rs2_of w → b_offset v ≡ b_offset w → v ≡ w
same_b v w fv fw a b c d e = grind (arith, ints)

-- format S
same_s : (v w : ℕ) → v < 2 ^ 32 → w < 2 ^ 32 → opcode_of v ≡ opcode_of w → funct3_of v ≡ funct3_of w → rs1_of v ≡ rs1_of w → rs2_of v ≡ rs2_of w → s_immediate v ≡ s_immediate w → v ≡ w
same_s v w fv fw a b c d e = grind (arith, ints)

-- format R
same_r : (v w : ℕ) → v < 2 ^ 32 → w < 2 ^ 32 → opcode_of v ≡ opcode_of w → rd_of v ≡ rd_of w → funct3_of v ≡ funct3_of w → rs1_of v ≡ rs1_of w → rs2_of v ≡ rs2_of w → funct7_of v ≡ funct7_of w → v ≡ w
same_r v w fv fw a b c d e g = omega arith

-- ---- two words of one instruction are one word

-- no shift is among the other operations with an immediate
not_both : (op : AluOp) → IsShift op → IsImmediateOp op → ⊥
not_both ops.Sll s i = i
not_both ops.Srl s i = i
not_both ops.Sra s i = i
not_both _ s i = s

-- equal amounts are equal fields
same_amount : (m n : ℕ) → pos m ≡ pos n → m ≡ n
same_amount m n e = cc

-- operations with an immediate
same_immediate : (v w : ℕ) (op : AluOp) (rd rs1 : ℕ) (imm : ℤ) → v < 2 ^ 32 → w < 2 ^ 32 → IsRow v (AluImm op rd rs1 imm) → IsRow w (AluImm op rd rs1 imm) → v ≡ w
same_immediate v w op rd rs1 imm fv fw r s =
    elim r.3 [
      | inl a ↦
          elim s.3 [
            | inl b ↦ same_r v w fv fw (r.0 ∙ sym s.0) (r.1 ∙ sym s.1) (r.4 ∙ sym s.4) (r.2 ∙ sym s.2) (same_amount _ _ (a.1 ∙ sym b.1)) (a.0.1 ∙ sym b.0.1)
            | inr b ↦ absurd (not_both op a.0.0 b.0)
          ]
      | inr a ↦
          elim s.3 [
            | inl b ↦ absurd (not_both op b.0.0 a.0)
            | inr b ↦ same_i v w fv fw (r.0 ∙ sym s.0) (r.1 ∙ sym s.1) (r.4 ∙ sym s.4) (r.2 ∙ sym s.2) (a.1 ∙ sym b.1)
          ]
    ]

-- two words in the row of one instruction
same_row : (v w : ℕ) (i : Instr) → v < 2 ^ 32 → w < 2 ^ 32 → IsRow v i → IsRow w i → v ≡ w
same_row v w (Lui rd imm) fv fw r s = same_u v w fv fw (r.0 ∙ sym s.0) (r.1 ∙ sym s.1) (r.2 ∙ sym s.2)
same_row v w (Auipc rd imm) fv fw r s = same_u v w fv fw (r.0 ∙ sym s.0) (r.1 ∙ sym s.1) (r.2 ∙ sym s.2)
same_row v w (Jal rd offset) fv fw r s = same_j v w fv fw (r.0 ∙ sym s.0) (r.1 ∙ sym s.1) (r.2 ∙ sym s.2)
same_row v w (Jalr rd rs1 imm) fv fw r s = same_i v w fv fw (r.0 ∙ sym s.0) (r.2 ∙ sym s.2) (r.1 ∙ sym s.1) (r.3 ∙ sym s.3) (r.4 ∙ sym s.4)
same_row v w (Branch cond rs1 rs2 offset) fv fw r s = same_b v w fv fw (r.0 ∙ sym s.0) (r.1 ∙ sym s.1) (r.2 ∙ sym s.2) (r.3 ∙ sym s.3) (r.4 ∙ sym s.4)
same_row v w (Load width rd rs1 imm) fv fw r s = same_i v w fv fw (r.0 ∙ sym s.0) (r.2 ∙ sym s.2) (r.1 ∙ sym s.1) (r.3 ∙ sym s.3) (r.4 ∙ sym s.4)
same_row v w (Store width rs1 rs2 imm) fv fw r s = same_s v w fv fw (r.0 ∙ sym s.0) (r.1.1 ∙ sym s.1.1) (r.2 ∙ sym s.2) (r.3 ∙ sym s.3) (r.4 ∙ sym s.4)
same_row v w (AluImm op rd rs1 imm) fv fw r s = same_immediate v w op rd rs1 imm fv fw r s
same_row v w (AluReg op rd rs1 rs2) fv fw r s = same_r v w fv fw (r.0 ∙ sym s.0) (r.2 ∙ sym s.2) (r.1.1 ∙ sym s.1.1) (r.3 ∙ sym s.3) (r.4 ∙ sym s.4) (r.1.0 ∙ sym s.1.0)
same_row v w (Fence bits) fv fw r s = r.2 ∙ sym s.2
same_row v w Ecall fv fw r s = r ∙ sym s
same_row v w Ebreak fv fw r s = r ∙ sym s

-- two words that stand for one instruction
pub one_word : (v w : ℕ) (i : Instr) → v < 2 ^ 32 → w < 2 ^ 32 → decoded v ≡ Some i → decoded w ≡ Some i → v ≡ w
one_word v w i fv fw d e = same_row v w i fv fw (row_in v i d) (row_in w i e)
