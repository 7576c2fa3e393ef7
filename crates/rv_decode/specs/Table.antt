-- The instruction words of RV32I, Zifencei and the extension M, in the order of the "RV32/64G Instruction Set Listings".
use Rattle.std.specs.Prelude.{ℕ, ◌==◌, ◌&&◌, Bool, ℤ, pos, List, [], ◌∷◌, Option}
use Rattle.std.specs.List.{find, count_by}
use Rattle.std.specs.Option.{option_map}
use Rattle.rv_word.specs.declared.AluOp.TheVariants as ops
use Rattle.rv_decode.specs.declared.instr.Instr.{Instr}
use Rattle.rv_decode.specs.declared.instr.Instr.TheVariants.{Lui, Auipc, Jal, Jalr, Branch, Load, Store, AluImm, AluReg, Fence, Ecall, Ebreak}
use Rattle.rv_decode.specs.declared.instr.Cond.TheVariants as conds
use Rattle.rv_decode.specs.declared.instr.Width.TheVariants as widths
use Rattle.rv_decode.specs.Fields.{opcode_of, rd_of, funct3_of, rs1_of, rs2_of, funct7_of, i_immediate, s_immediate, b_offset, u_immediate, j_offset}

-- The bits that tell an instruction from the others: the opcode, beside it funct3, beside both funct7, or the whole word.
-- They are written in the listing's order, with the opcode last.
pub data Pattern : Type 0 where
  Opcode : (opcode : ℕ) → Pattern
  Funct3 : (funct3 opcode : ℕ) → Pattern
  Funct7 : (funct7 funct3 opcode : ℕ) → Pattern
  Whole : (bits : ℕ) → Pattern

-- whether a word has the bits of a pattern
abbrev pub matches : ℕ → Pattern → Bool
matches word (Opcode opcode) = opcode_of word == opcode
matches word (Funct3 funct3 opcode) = (opcode_of word == opcode) && (funct3_of word == funct3)
matches word (Funct7 funct7 funct3 opcode) = (opcode_of word == opcode) && (funct3_of word == funct3) && (funct7_of word == funct7)
matches word (Whole bits) = word == bits

-- a row of the listing: what its words have in common, and the instruction that each of them stands for
pub record Row : Type 0 where
  pub pattern : Pattern
  pub instruction : ℕ → Instr

-- format R: two sources and a target
abbrev pub r_row : ℕ → ℕ → ℕ → (ℕ → ℕ → ℕ → Instr) → Row
r_row funct7 funct3 opcode make = record { pattern = Funct7 funct7 funct3 opcode; instruction = λ word. make (rd_of word) (rs1_of word) (rs2_of word) }

-- format I: a source, an immediate and a target
abbrev pub i_row : ℕ → ℕ → (ℕ → ℕ → ℤ → Instr) → Row
i_row funct3 opcode make = record { pattern = Funct3 funct3 opcode; instruction = λ word. make (rd_of word) (rs1_of word) (i_immediate word) }

-- a shift by an immediate: format I, where the amount has the place of rs2
abbrev pub shift_row : ℕ → ℕ → ℕ → (ℕ → ℕ → ℤ → Instr) → Row
shift_row funct7 funct3 opcode make = record { pattern = Funct7 funct7 funct3 opcode; instruction = λ word. make (rd_of word) (rs1_of word) (pos (rs2_of word)) }

-- format S: two sources and an immediate
abbrev pub s_row : ℕ → ℕ → (ℕ → ℕ → ℤ → Instr) → Row
s_row funct3 opcode make = record { pattern = Funct3 funct3 opcode; instruction = λ word. make (rs1_of word) (rs2_of word) (s_immediate word) }

-- format B: two sources and an offset
abbrev pub b_row : ℕ → ℕ → (ℕ → ℕ → ℤ → Instr) → Row
b_row funct3 opcode make = record { pattern = Funct3 funct3 opcode; instruction = λ word. make (rs1_of word) (rs2_of word) (b_offset word) }

-- format U: a target and an immediate
abbrev pub u_row : ℕ → (ℕ → ℤ → Instr) → Row
u_row opcode make = record { pattern = Opcode opcode; instruction = λ word. make (rd_of word) (u_immediate word) }

-- format J: a target and an offset
abbrev pub j_row : ℕ → (ℕ → ℤ → Instr) → Row
j_row opcode make = record { pattern = Opcode opcode; instruction = λ word. make (rd_of word) (j_offset word) }

-- a fence, of which the other bits have no meaning yet
abbrev pub fence_row : ℕ → ℕ → Row
fence_row funct3 opcode = record { pattern = Funct3 funct3 opcode; instruction = Fence }

-- one word alone
abbrev pub whole_row : ℕ → Instr → Row
whole_row bits instruction = record { pattern = Whole bits; instruction = λ word. instruction }

-- the rows: funct7, funct3 and opcode, where the row has them, then the instruction
unfoldable pub table : List Row
table =
    -- LUI, AUIPC, JAL, JALR
    u_row 0b0110111 Lui
    ∷ u_row 0b0010111 Auipc
    ∷ j_row 0b1101111 Jal
    ∷ i_row 0b000 0b1100111 Jalr
    -- BEQ, BNE, BLT, BGE, BLTU, BGEU
    ∷ b_row 0b000 0b1100011 (Branch conds.Eq)
    ∷ b_row 0b001 0b1100011 (Branch conds.Ne)
    ∷ b_row 0b100 0b1100011 (Branch conds.Lt)
    ∷ b_row 0b101 0b1100011 (Branch conds.Ge)
    ∷ b_row 0b110 0b1100011 (Branch conds.Ltu)
    ∷ b_row 0b111 0b1100011 (Branch conds.Geu)
    -- LB, LH, LW, LBU, LHU
    ∷ i_row 0b000 0b0000011 (Load widths.B)
    ∷ i_row 0b001 0b0000011 (Load widths.H)
    ∷ i_row 0b010 0b0000011 (Load widths.W)
    ∷ i_row 0b100 0b0000011 (Load widths.Bu)
    ∷ i_row 0b101 0b0000011 (Load widths.Hu)
    -- SB, SH, SW
    ∷ s_row 0b000 0b0100011 (Store widths.B)
    ∷ s_row 0b001 0b0100011 (Store widths.H)
    ∷ s_row 0b010 0b0100011 (Store widths.W)
    -- ADDI, SLTI, SLTIU, XORI, ORI, ANDI
    ∷ i_row 0b000 0b0010011 (AluImm ops.Add)
    ∷ i_row 0b010 0b0010011 (AluImm ops.Slt)
    ∷ i_row 0b011 0b0010011 (AluImm ops.Sltu)
    ∷ i_row 0b100 0b0010011 (AluImm ops.Xor)
    ∷ i_row 0b110 0b0010011 (AluImm ops.Or)
    ∷ i_row 0b111 0b0010011 (AluImm ops.And)
    -- SLLI, SRLI, SRAI
    ∷ shift_row 0b0000000 0b001 0b0010011 (AluImm ops.Sll)
    ∷ shift_row 0b0000000 0b101 0b0010011 (AluImm ops.Srl)
    ∷ shift_row 0b0100000 0b101 0b0010011 (AluImm ops.Sra)
    -- ADD, SUB, SLL, SLT, SLTU, XOR, SRL, SRA, OR, AND
    ∷ r_row 0b0000000 0b000 0b0110011 (AluReg ops.Add)
    ∷ r_row 0b0100000 0b000 0b0110011 (AluReg ops.Sub)
    ∷ r_row 0b0000000 0b001 0b0110011 (AluReg ops.Sll)
    ∷ r_row 0b0000000 0b010 0b0110011 (AluReg ops.Slt)
    ∷ r_row 0b0000000 0b011 0b0110011 (AluReg ops.Sltu)
    ∷ r_row 0b0000000 0b100 0b0110011 (AluReg ops.Xor)
    ∷ r_row 0b0000000 0b101 0b0110011 (AluReg ops.Srl)
    ∷ r_row 0b0100000 0b101 0b0110011 (AluReg ops.Sra)
    ∷ r_row 0b0000000 0b110 0b0110011 (AluReg ops.Or)
    ∷ r_row 0b0000000 0b111 0b0110011 (AluReg ops.And)
    -- FENCE, ECALL, EBREAK
    ∷ fence_row 0b000 0b0001111
    ∷ whole_row 0b000000000000_00000_000_00000_1110011 Ecall
    ∷ whole_row 0b000000000001_00000_000_00000_1110011 Ebreak
    -- FENCE.I
    ∷ fence_row 0b001 0b0001111
    -- MUL, MULH, MULHSU, MULHU, DIV, DIVU, REM, REMU
    ∷ r_row 0b0000001 0b000 0b0110011 (AluReg ops.Mul)
    ∷ r_row 0b0000001 0b001 0b0110011 (AluReg ops.Mulh)
    ∷ r_row 0b0000001 0b010 0b0110011 (AluReg ops.Mulhsu)
    ∷ r_row 0b0000001 0b011 0b0110011 (AluReg ops.Mulhu)
    ∷ r_row 0b0000001 0b100 0b0110011 (AluReg ops.Div)
    ∷ r_row 0b0000001 0b101 0b0110011 (AluReg ops.Divu)
    ∷ r_row 0b0000001 0b110 0b0110011 (AluReg ops.Rem)
    ∷ r_row 0b0000001 0b111 0b0110011 (AluReg ops.Remu)
    ∷ []

-- what a word stands for: the instruction of the row that it matches, if it matches one
unfoldable pub decoded : ℕ → Option Instr
decoded word = option_map (λ row. row.instruction word) (find (λ row. matches word row.pattern) table)

-- how many rows a word matches
unfoldable pub rows_matched : ℕ → ℕ
rows_matched word = count_by (λ row. matches word row.pattern) table
