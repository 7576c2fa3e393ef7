-- The rows and the table say the same, and a row's instruction is well formed.
use Rattle.std.proofs.Common.{◌≡◌, ℕ, ◌<◌, ◌^◌, ◌==◌, ◌||◌, true, false, Some, refl, ap, ◌∙◌, arith, rules, ℤ, pos, inl, inr}
use Rattle.std.proofs.lemmas.Int.{ints}
use Rattle.rv_word.specs.declared.AluOp.{AluOp}
use Rattle.rv_word.specs.declared.AluOp.TheVariants as ops
use Rattle.rv_decode.specs.declared.instr.Instr.{Instr}
use Rattle.rv_decode.specs.declared.instr.Instr.TheVariants.{Lui, Auipc, Jal, Jalr, Branch, Load, Store, AluImm, AluReg, Fence, Ecall, Ebreak}
use Rattle.rv_decode.specs.declared.instr.Cond.{Cond}
use Rattle.rv_decode.specs.declared.instr.Cond.TheVariants as conds
use Rattle.rv_decode.specs.declared.instr.Width.{Width}
use Rattle.rv_decode.specs.declared.instr.Width.TheVariants as widths
use Rattle.rv_decode.specs.Fields.{rd_of, funct3_of, rs1_of, rs2_of, i_immediate, s_immediate, b_offset, j_offset}
use Rattle.rv_decode.specs.Table.{decoded}
use Rattle.rv_decode.specs.Opcodes.{condition_of, load_width_of, store_width_of, immediate_op_of, shift_of, register_op_of, branch_of, load_of, store_of, alu_immediate_of, alu_register_of, instruction_of}
use Rattle.rv_decode.proofs.Listing.{listed}
use Rattle.rv_decode.specs.Rows.{IsRow, IsWellFormed, IsStored, IsImmediate, IsImmediateOp, IsShift, ImmRow, IsWithin, IsMultiple, branch_funct3, access_funct3, op_funct3, op_funct7}

-- ---- what the codes of an instruction tell

-- the funct3 of a condition tells it
condition_at : (x : Cond) → condition_of (branch_funct3 x) ≡ Some x
condition_at conds.Eq = refl
condition_at conds.Ne = refl
condition_at conds.Lt = refl
condition_at conds.Ge = refl
condition_at conds.Ltu = refl
condition_at conds.Geu = refl

-- the funct3 of a load tells its width
load_width_at : (x : Width) → load_width_of (access_funct3 x) ≡ Some x
load_width_at widths.B = refl
load_width_at widths.H = refl
load_width_at widths.W = refl
load_width_at widths.Bu = refl
load_width_at widths.Hu = refl

-- the funct3 of a store tells its width
store_width_at : (x : Width) → IsStored x → store_width_of (access_funct3 x) ≡ Some x
store_width_at widths.B s = refl
store_width_at widths.H s = refl
store_width_at widths.W s = refl
store_width_at _ s = absurd s

-- the funct3 of an operation with an immediate tells it
immediate_op_at : (x : AluOp) → IsImmediateOp x → immediate_op_of (op_funct3 x) ≡ Some x
immediate_op_at ops.Add s = refl
immediate_op_at ops.Slt s = refl
immediate_op_at ops.Sltu s = refl
immediate_op_at ops.Xor s = refl
immediate_op_at ops.Or s = refl
immediate_op_at ops.And s = refl
immediate_op_at _ s = absurd s

-- the codes of a shift tell it
shift_at : (x : AluOp) → IsShift x → shift_of (op_funct7 x) (op_funct3 x) ≡ Some x
shift_at ops.Sll s = refl
shift_at ops.Srl s = refl
shift_at ops.Sra s = refl
shift_at _ s = absurd s

-- the codes of an operation on two registers tell it
register_op_at : (x : AluOp) → register_op_of (op_funct7 x) (op_funct3 x) ≡ Some x
register_op_at ops.Add = refl
register_op_at ops.Sub = refl
register_op_at ops.Sll = refl
register_op_at ops.Slt = refl
register_op_at ops.Sltu = refl
register_op_at ops.Xor = refl
register_op_at ops.Srl = refl
register_op_at ops.Sra = refl
register_op_at ops.Or = refl
register_op_at ops.And = refl
register_op_at ops.Mul = refl
register_op_at ops.Mulh = refl
register_op_at ops.Mulhsu = refl
register_op_at ops.Mulhu = refl
register_op_at ops.Div = refl
register_op_at ops.Divu = refl
register_op_at ops.Rem = refl
register_op_at ops.Remu = refl

-- the funct3 of a shift is 1 or 5
shift_funct3 : (x : AluOp) → IsShift x → (op_funct3 x == 1 || op_funct3 x == 5) ≡ true
shift_funct3 ops.Sll s = refl
shift_funct3 ops.Srl s = refl
shift_funct3 ops.Sra s = refl
shift_funct3 _ s = absurd s

-- the funct3 of another operation with an immediate is no shift's
other_funct3 : (x : AluOp) → IsImmediateOp x → (op_funct3 x == 1 || op_funct3 x == 5) ≡ false
other_funct3 ops.Add s = refl
other_funct3 ops.Slt s = refl
other_funct3 ops.Sltu s = refl
other_funct3 ops.Xor s = refl
other_funct3 ops.Or s = refl
other_funct3 ops.And s = refl
other_funct3 _ s = absurd s

-- ---- a word in the row of an instruction stands for it

-- an operation with an immediate
immediate_decoded : (w rd rs1 : ℕ) (op : AluOp) (imm : ℤ) → rd_of w ≡ rd → rs1_of w ≡ rs1 → ImmRow w op imm → funct3_of w ≡ op_funct3 op → alu_immediate_of w ≡ Some (AluImm op rd rs1 imm)
unfolding alu_immediate_of
immediate_decoded w rd rs1 op imm a b (inl c) f = rw f (rw (shift_funct3 op c.0.0) (rw c.0.1 (rw (shift_at op c.0.0) (rw a (rw b (rw c.1 refl))))))
immediate_decoded w rd rs1 op imm a b (inr c) f = rw f (rw (other_funct3 op c.0) (rw (immediate_op_at op c.0) (rw a (rw b (rw c.1 refl)))))

-- a branch
branch_decoded : (w : ℕ) (cond : Cond) (rs1 rs2 : ℕ) (offset : ℤ) → IsRow w (Branch cond rs1 rs2 offset) → branch_of w ≡ Some (Branch cond rs1 rs2 offset)
unfolding branch_of
branch_decoded w cond rs1 rs2 offset r = let h = ap condition_of r.1 ∙ condition_at cond in grind (arith, h)

-- a load
load_decoded : (w : ℕ) (width : Width) (rd rs1 : ℕ) (imm : ℤ) → IsRow w (Load width rd rs1 imm) → load_of w ≡ Some (Load width rd rs1 imm)
unfolding load_of
load_decoded w width rd rs1 imm r = let h = ap load_width_of r.1 ∙ load_width_at width in grind (arith, h)

-- a store
store_decoded : (w : ℕ) (width : Width) (rs1 rs2 : ℕ) (imm : ℤ) → IsRow w (Store width rs1 rs2 imm) → store_of w ≡ Some (Store width rs1 rs2 imm)
unfolding store_of
store_decoded w width rs1 rs2 imm r = let h = ap store_width_of r.1.1 ∙ store_width_at width r.1.0 in grind (arith, h)

-- an operation on two registers
register_decoded : (w : ℕ) (op : AluOp) (rd rs1 rs2 : ℕ) → IsRow w (AluReg op rd rs1 rs2) → alu_register_of w ≡ Some (AluReg op rd rs1 rs2)
unfolding alu_register_of
register_decoded w op rd rs1 rs2 r = rw r.1.0 (rw r.1.1 (rw (register_op_at op) (rw r.2 (rw r.3 (rw r.4 refl)))))

-- a word in the row of an instruction, read by its opcode
row_instruction : (w : ℕ) (i : Instr) → IsRow w i → instruction_of w ≡ Some i
unfolding instruction_of
row_instruction w (Lui rd imm) r = grind arith
row_instruction w (Auipc rd imm) r = grind arith
row_instruction w (Jal rd offset) r = grind arith
row_instruction w (Jalr rd rs1 imm) r = grind arith
row_instruction w (Branch cond rs1 rs2 offset) r = let h = branch_decoded w cond rs1 rs2 offset r in grind (arith, h)
row_instruction w (Load width rd rs1 imm) r = let h = load_decoded w width rd rs1 imm r in grind (arith, h)
row_instruction w (Store width rs1 rs2 imm) r = let h = store_decoded w width rs1 rs2 imm r in grind (arith, h)
row_instruction w (AluImm op rd rs1 imm) r = let h = immediate_decoded w rd rs1 op imm r.1 r.2 r.3 r.4 in grind (arith, h)
row_instruction w (AluReg op rd rs1 rs2) r = let h = register_decoded w op rd rs1 rs2 r in grind (arith, h)
row_instruction w (Fence bits) r = grind arith
row_instruction w Ecall r = grind arith
row_instruction w Ebreak r = grind arith

-- a word in the row of an instruction, read by the table
pub row_decoded : (w : ℕ) (i : Instr) → IsRow w i → decoded w ≡ Some i
row_decoded w i r = listed w ∙ row_instruction w i r

-- ---- the instruction of a row is well formed

-- the immediate of format I
i_within : (w : ℕ) (z : ℤ) → i_immediate w ≡ z → IsWithin 2048 z
i_within w z e = search rules

-- the offset of format J
j_well : (w : ℕ) (z : ℤ) → j_offset w ≡ z → IsWithin (2 ^ 20) z × IsMultiple 2 z
j_well w z e = (search rules, grind (arith, ints))

-- the offset of format B
b_well : (w : ℕ) (z : ℤ) → b_offset w ≡ z → IsWithin 4096 z × IsMultiple 2 z
b_well w z e = (search rules, grind (arith, ints))

-- the immediate of format S
s_within : (w : ℕ) (z : ℤ) → s_immediate w ≡ z → IsWithin 2048 z
s_within w z e = search rules

-- the amount of a shift
shift_well : (w : ℕ) (op : AluOp) (imm : ℤ) → IsShift op → pos (rs2_of w) ≡ imm → IsImmediate op imm
shift_well w ops.Sll imm s e = grind (arith, ints)
shift_well w ops.Srl imm s e = grind (arith, ints)
shift_well w ops.Sra imm s e = grind (arith, ints)
shift_well w _ imm s e = absurd s

-- the immediate of another operation
other_well : (w : ℕ) (op : AluOp) (imm : ℤ) → IsImmediateOp op → i_immediate w ≡ imm → IsImmediate op imm
other_well w ops.Add imm s e = i_within w imm e
other_well w ops.Slt imm s e = i_within w imm e
other_well w ops.Sltu imm s e = i_within w imm e
other_well w ops.Xor imm s e = i_within w imm e
other_well w ops.Or imm s e = i_within w imm e
other_well w ops.And imm s e = i_within w imm e
other_well w _ imm s e = absurd s

-- the immediate of an operation
immediate_well : (w : ℕ) (op : AluOp) (imm : ℤ) → ImmRow w op imm → IsImmediate op imm
immediate_well w op imm (inl c) = shift_well w op imm c.0.0 c.1
immediate_well w op imm (inr c) = other_well w op imm c.0 c.1

-- the instruction of a row
pub row_well : (w : ℕ) (i : Instr) → w < 2 ^ 32 → IsRow w i → IsWellFormed i
row_well w (Lui rd imm) f r = (omega (arith, r.1), grind (arith, ints))
row_well w (Auipc rd imm) f r = (omega (arith, r.1), grind (arith, ints))
row_well w (Jal rd offset) f r = let z = j_well w offset r.2 in (omega (arith, r.1), z.0, z.1)
row_well w (Jalr rd rs1 imm) f r = (omega (arith, r.2), omega (arith, r.3), i_within w imm r.4)
row_well w (Branch cond rs1 rs2 offset) f r = let z = b_well w offset r.4 in (omega (arith, r.2), omega (arith, r.3), z.0, z.1)
row_well w (Load width rd rs1 imm) f r = (omega (arith, r.2), omega (arith, r.3), i_within w imm r.4)
row_well w (Store width rs1 rs2 imm) f r = (r.1.0, omega (arith, r.2), omega (arith, r.3), s_within w imm r.4)
row_well w (AluImm op rd rs1 imm) f r = (omega (arith, r.1), omega (arith, r.2), immediate_well w op imm r.3)
row_well w (AluReg op rd rs1 rs2) f r = (omega (arith, r.2), omega (arith, r.3), omega (arith, r.4))
row_well w (Fence bits) f r = grind arith
row_well w Ecall f r = tt
row_well w Ebreak f r = tt
