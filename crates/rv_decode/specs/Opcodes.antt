-- What a word of each opcode stands for, by its funct3 and funct7: the same as the table, sorted by opcode.
use Rattle.std.specs.Prelude.{ℕ, ◌==◌, ◌&&◌, ◌||◌, pos, if◌then◌else◌, Option, Some, None}
use Rattle.std.specs.Option.{option_map}
use Rattle.rv_word.specs.declared.AluOp.{AluOp}
use Rattle.rv_word.specs.declared.AluOp.TheVariants as ops
use Rattle.rv_decode.specs.declared.instr.Instr.{Instr}
use Rattle.rv_decode.specs.declared.instr.Instr.TheVariants.{Lui, Auipc, Jal, Jalr, Branch, Load, Store, AluImm, AluReg, Fence, Ecall, Ebreak}
use Rattle.rv_decode.specs.declared.instr.Cond.{Cond}
use Rattle.rv_decode.specs.declared.instr.Cond.TheVariants as conds
use Rattle.rv_decode.specs.declared.instr.Width.{Width}
use Rattle.rv_decode.specs.declared.instr.Width.TheVariants as widths
use Rattle.rv_decode.specs.Fields.{opcode_of, rd_of, funct3_of, rs1_of, rs2_of, funct7_of, i_immediate, s_immediate, b_offset, u_immediate, j_offset}

-- the condition of a branch, by funct3
abbrev pub condition_of : ℕ → Option Cond
condition_of funct3 =
    if funct3 == 0 then Some conds.Eq
    else if funct3 == 1 then Some conds.Ne
    else if funct3 == 4 then Some conds.Lt
    else if funct3 == 5 then Some conds.Ge
    else if funct3 == 6 then Some conds.Ltu
    else if funct3 == 7 then Some conds.Geu
    else None

-- what a load reads, by funct3
abbrev pub load_width_of : ℕ → Option Width
load_width_of funct3 =
    if funct3 == 0 then Some widths.B
    else if funct3 == 1 then Some widths.H
    else if funct3 == 2 then Some widths.W
    else if funct3 == 4 then Some widths.Bu
    else if funct3 == 5 then Some widths.Hu
    else None

-- what a store writes, by funct3
abbrev pub store_width_of : ℕ → Option Width
store_width_of funct3 =
    if funct3 == 0 then Some widths.B
    else if funct3 == 1 then Some widths.H
    else if funct3 == 2 then Some widths.W
    else None

-- the operation on a register and an immediate, by funct3, but for the shifts
abbrev pub immediate_op_of : ℕ → Option AluOp
immediate_op_of funct3 =
    if funct3 == 0 then Some ops.Add
    else if funct3 == 2 then Some ops.Slt
    else if funct3 == 3 then Some ops.Sltu
    else if funct3 == 4 then Some ops.Xor
    else if funct3 == 6 then Some ops.Or
    else if funct3 == 7 then Some ops.And
    else None

-- the shift by an amount that stands in the word, by funct7 and funct3
abbrev pub shift_of : ℕ → ℕ → Option AluOp
shift_of funct7 funct3 =
    if funct3 == 1 && funct7 == 0 then Some ops.Sll
    else if funct3 == 5 && funct7 == 0 then Some ops.Srl
    else if funct3 == 5 && funct7 == 0x20 then Some ops.Sra
    else None

-- the operation on two registers where funct7 is 0, by funct3
abbrev pub base_op_of : ℕ → Option AluOp
base_op_of funct3 =
    if funct3 == 0 then Some ops.Add
    else if funct3 == 1 then Some ops.Sll
    else if funct3 == 2 then Some ops.Slt
    else if funct3 == 3 then Some ops.Sltu
    else if funct3 == 4 then Some ops.Xor
    else if funct3 == 5 then Some ops.Srl
    else if funct3 == 6 then Some ops.Or
    else if funct3 == 7 then Some ops.And
    else None

-- the operation on two registers where funct7 is 0x20, by funct3
abbrev pub other_op_of : ℕ → Option AluOp
other_op_of funct3 =
    if funct3 == 0 then Some ops.Sub
    else if funct3 == 5 then Some ops.Sra
    else None

-- the operation on two registers where funct7 is 1, by funct3
abbrev pub multiply_op_of : ℕ → Option AluOp
multiply_op_of funct3 =
    if funct3 == 0 then Some ops.Mul
    else if funct3 == 1 then Some ops.Mulh
    else if funct3 == 2 then Some ops.Mulhsu
    else if funct3 == 3 then Some ops.Mulhu
    else if funct3 == 4 then Some ops.Div
    else if funct3 == 5 then Some ops.Divu
    else if funct3 == 6 then Some ops.Rem
    else if funct3 == 7 then Some ops.Remu
    else None

-- the operation on two registers, by funct7 and funct3
abbrev pub register_op_of : ℕ → ℕ → Option AluOp
register_op_of funct7 funct3 =
    if funct7 == 0 then base_op_of funct3
    else if funct7 == 0x20 then other_op_of funct3
    else if funct7 == 1 then multiply_op_of funct3
    else None

-- the branch that a word of opcode 0x63 stands for
unfoldable pub branch_of : ℕ → Option Instr
branch_of word = option_map (λ cond. Branch cond (rs1_of word) (rs2_of word) (b_offset word)) (condition_of (funct3_of word))

-- the load that a word of opcode 0x03 stands for
unfoldable pub load_of : ℕ → Option Instr
load_of word = option_map (λ width. Load width (rd_of word) (rs1_of word) (i_immediate word)) (load_width_of (funct3_of word))

-- the store that a word of opcode 0x23 stands for
unfoldable pub store_of : ℕ → Option Instr
store_of word = option_map (λ width. Store width (rs1_of word) (rs2_of word) (s_immediate word)) (store_width_of (funct3_of word))

-- the operation that a word of opcode 0x13 stands for: a shift has its amount in rs2's place
unfoldable pub alu_immediate_of : ℕ → Option Instr
alu_immediate_of word =
    if (funct3_of word == 1) || (funct3_of word == 5) then option_map (λ op. AluImm op (rd_of word) (rs1_of word) (pos (rs2_of word))) (shift_of (funct7_of word) (funct3_of word))
    else option_map (λ op. AluImm op (rd_of word) (rs1_of word) (i_immediate word)) (immediate_op_of (funct3_of word))

-- the operation that a word of opcode 0x33 stands for
unfoldable pub alu_register_of : ℕ → Option Instr
alu_register_of word = option_map (λ op. AluReg op (rd_of word) (rs1_of word) (rs2_of word)) (register_op_of (funct7_of word) (funct3_of word))

-- the instruction that a word stands for, by its opcode
unfoldable pub instruction_of : ℕ → Option Instr
instruction_of word =
    if opcode_of word == 0x37 then Some (Lui (rd_of word) (u_immediate word))
    else if opcode_of word == 0x17 then Some (Auipc (rd_of word) (u_immediate word))
    else if opcode_of word == 0x6f then Some (Jal (rd_of word) (j_offset word))
    else if opcode_of word == 0x67 then (if funct3_of word == 0 then Some (Jalr (rd_of word) (rs1_of word) (i_immediate word)) else None)
    else if opcode_of word == 0x63 then branch_of word
    else if opcode_of word == 0x03 then load_of word
    else if opcode_of word == 0x23 then store_of word
    else if opcode_of word == 0x13 then alu_immediate_of word
    else if opcode_of word == 0x33 then alu_register_of word
    else if opcode_of word == 0x0f then (if funct3_of word == 0 then Some (Fence word) else if funct3_of word == 1 then Some (Fence word) else None)
    else if word == 0x00000073 then Some Ecall
    else if word == 0x00100073 then Some Ebreak
    else None
