-- The instructions that have a word, and what the word of each is like.
use Rattle.std.specs.Prelude.{ℕ, ◌≡◌, ◌^◌, ◌<◌, ◌%◌, ℤ, pos, negsuc, ◌≤ℤ◌, ◌<ℤ◌, ◌⊎◌, ⊤}
use Rattle.std.specs.Int.{cast_unsigned, w32}
use Rattle.rv_word.specs.declared.AluOp.{AluOp}
use Rattle.rv_word.specs.declared.AluOp.TheVariants as ops
use Rattle.rv_decode.specs.declared.instr.Instr.{Instr}
use Rattle.rv_decode.specs.declared.instr.Instr.TheVariants.{Lui, Auipc, Jal, Jalr, Branch, Load, Store, AluImm, AluReg, Fence, Ecall, Ebreak}
use Rattle.rv_decode.specs.declared.instr.Cond.{Cond}
use Rattle.rv_decode.specs.declared.instr.Cond.TheVariants as conds
use Rattle.rv_decode.specs.declared.instr.Width.{Width}
use Rattle.rv_decode.specs.declared.instr.Width.TheVariants as widths
use Rattle.rv_decode.specs.Fields.{opcode_of, rd_of, funct3_of, rs1_of, rs2_of, funct7_of, i_immediate, s_immediate, b_offset, u_immediate, j_offset}

-- z is from -half up to half - 1; `negsuc n` is -1 - n
abbrev pub IsWithin : ℕ → ℤ → Type 0
IsWithin half (pos n) = n < half
IsWithin half (negsuc n) = n < half

-- z is a multiple of m, which divides 2 ^ 32
abbrev pub IsMultiple : ℕ → ℤ → Type 0
IsMultiple m z = cast_unsigned w32 z % m ≡ 0

-- what a store writes
abbrev pub IsStored : Width → Type 0
IsStored widths.B = ⊤
IsStored widths.H = ⊤
IsStored widths.W = ⊤
IsStored _ = ⊥

-- what the immediate of an operation may be: twelve bits with its sign, or the amount of a shift
abbrev pub IsImmediate : AluOp → ℤ → Type 0
IsImmediate ops.Add imm = IsWithin 2048 imm
IsImmediate ops.Slt imm = IsWithin 2048 imm
IsImmediate ops.Sltu imm = IsWithin 2048 imm
IsImmediate ops.Xor imm = IsWithin 2048 imm
IsImmediate ops.Or imm = IsWithin 2048 imm
IsImmediate ops.And imm = IsWithin 2048 imm
IsImmediate ops.Sll imm = (pos 0 ≤ℤ imm) × (imm <ℤ pos 32)
IsImmediate ops.Srl imm = (pos 0 ≤ℤ imm) × (imm <ℤ pos 32)
IsImmediate ops.Sra imm = (pos 0 ≤ℤ imm) × (imm <ℤ pos 32)
IsImmediate _ imm = ⊥

-- the instruction has a word; an immediate is a number of 32 bits with its sign
abbrev pub IsWellFormed : Instr → Type 0
IsWellFormed (Lui rd imm) = (rd < 32) × IsMultiple 4096 imm
IsWellFormed (Auipc rd imm) = (rd < 32) × IsMultiple 4096 imm
IsWellFormed (Jal rd offset) = (rd < 32) × IsWithin (2 ^ 20) offset × IsMultiple 2 offset
IsWellFormed (Jalr rd rs1 imm) = (rd < 32) × (rs1 < 32) × IsWithin 2048 imm
IsWellFormed (Branch cond rs1 rs2 offset) = (rs1 < 32) × (rs2 < 32) × IsWithin 4096 offset × IsMultiple 2 offset
IsWellFormed (Load width rd rs1 imm) = (rd < 32) × (rs1 < 32) × IsWithin 2048 imm
IsWellFormed (Store width rs1 rs2 imm) = IsStored width × (rs1 < 32) × (rs2 < 32) × IsWithin 2048 imm
IsWellFormed (AluImm op rd rs1 imm) = (rd < 32) × (rs1 < 32) × IsImmediate op imm
IsWellFormed (AluReg op rd rs1 rs2) = (rd < 32) × (rs1 < 32) × (rs2 < 32)
IsWellFormed (Fence bits) = (bits < 2 ^ 32) × (opcode_of bits ≡ 0x0f) × (funct3_of bits < 2)
IsWellFormed Ecall = ⊤
IsWellFormed Ebreak = ⊤

-- the funct3 of a branch
abbrev pub branch_funct3 : Cond → ℕ
branch_funct3 conds.Eq = 0b000
branch_funct3 conds.Ne = 0b001
branch_funct3 conds.Lt = 0b100
branch_funct3 conds.Ge = 0b101
branch_funct3 conds.Ltu = 0b110
branch_funct3 conds.Geu = 0b111

-- the funct3 of a load or a store
abbrev pub access_funct3 : Width → ℕ
access_funct3 widths.B = 0b000
access_funct3 widths.H = 0b001
access_funct3 widths.W = 0b010
access_funct3 widths.Bu = 0b100
access_funct3 widths.Hu = 0b101

-- the funct3 of an operation
abbrev pub op_funct3 : AluOp → ℕ
op_funct3 ops.Add = 0b000
op_funct3 ops.Sub = 0b000
op_funct3 ops.Sll = 0b001
op_funct3 ops.Slt = 0b010
op_funct3 ops.Sltu = 0b011
op_funct3 ops.Xor = 0b100
op_funct3 ops.Srl = 0b101
op_funct3 ops.Sra = 0b101
op_funct3 ops.Or = 0b110
op_funct3 ops.And = 0b111
op_funct3 ops.Mul = 0b000
op_funct3 ops.Mulh = 0b001
op_funct3 ops.Mulhsu = 0b010
op_funct3 ops.Mulhu = 0b011
op_funct3 ops.Div = 0b100
op_funct3 ops.Divu = 0b101
op_funct3 ops.Rem = 0b110
op_funct3 ops.Remu = 0b111

-- the funct7 of an operation
abbrev pub op_funct7 : AluOp → ℕ
op_funct7 ops.Add = 0b0000000
op_funct7 ops.Sub = 0b0100000
op_funct7 ops.Sll = 0b0000000
op_funct7 ops.Slt = 0b0000000
op_funct7 ops.Sltu = 0b0000000
op_funct7 ops.Xor = 0b0000000
op_funct7 ops.Srl = 0b0000000
op_funct7 ops.Sra = 0b0100000
op_funct7 ops.Or = 0b0000000
op_funct7 ops.And = 0b0000000
op_funct7 ops.Mul = 0b0000001
op_funct7 ops.Mulh = 0b0000001
op_funct7 ops.Mulhsu = 0b0000001
op_funct7 ops.Mulhu = 0b0000001
op_funct7 ops.Div = 0b0000001
op_funct7 ops.Divu = 0b0000001
op_funct7 ops.Rem = 0b0000001
op_funct7 ops.Remu = 0b0000001

-- the operations that have an instruction with an immediate, but for the shifts
abbrev pub IsImmediateOp : AluOp → Type 0
IsImmediateOp ops.Add = ⊤
IsImmediateOp ops.Slt = ⊤
IsImmediateOp ops.Sltu = ⊤
IsImmediateOp ops.Xor = ⊤
IsImmediateOp ops.Or = ⊤
IsImmediateOp ops.And = ⊤
IsImmediateOp _ = ⊥

-- the shifts
abbrev pub IsShift : AluOp → Type 0
IsShift ops.Sll = ⊤
IsShift ops.Srl = ⊤
IsShift ops.Sra = ⊤
IsShift _ = ⊥

-- the word is that of an operation with this immediate: a shift has the amount in the place of rs2, and a funct7
abbrev pub ImmRow : ℕ → AluOp → ℤ → Type 0
ImmRow word op imm = ((IsShift op × (funct7_of word ≡ op_funct7 op)) × (pos (rs2_of word) ≡ imm)) ⊎ (IsImmediateOp op × (i_immediate word ≡ imm))

-- the word is that of the instruction
abbrev pub IsRow : ℕ → Instr → Type 0
IsRow word (Lui rd imm) = (opcode_of word ≡ 0x37) × (rd_of word ≡ rd) × (u_immediate word ≡ imm)
IsRow word (Auipc rd imm) = (opcode_of word ≡ 0x17) × (rd_of word ≡ rd) × (u_immediate word ≡ imm)
IsRow word (Jal rd offset) = (opcode_of word ≡ 0x6f) × (rd_of word ≡ rd) × (j_offset word ≡ offset)
IsRow word (Jalr rd rs1 imm) = (opcode_of word ≡ 0x67) × (funct3_of word ≡ 0) × (rd_of word ≡ rd) × (rs1_of word ≡ rs1) × (i_immediate word ≡ imm)
IsRow word (Branch cond rs1 rs2 offset) = (opcode_of word ≡ 0x63) × (funct3_of word ≡ branch_funct3 cond) × (rs1_of word ≡ rs1) × (rs2_of word ≡ rs2) × (b_offset word ≡ offset)
IsRow word (Load width rd rs1 imm) = (opcode_of word ≡ 0x03) × (funct3_of word ≡ access_funct3 width) × (rd_of word ≡ rd) × (rs1_of word ≡ rs1) × (i_immediate word ≡ imm)
IsRow word (Store width rs1 rs2 imm) = (opcode_of word ≡ 0x23) × (IsStored width × (funct3_of word ≡ access_funct3 width)) × (rs1_of word ≡ rs1) × (rs2_of word ≡ rs2) × (s_immediate word ≡ imm)
IsRow word (AluImm op rd rs1 imm) = (opcode_of word ≡ 0x13) × (rd_of word ≡ rd) × (rs1_of word ≡ rs1) × ImmRow word op imm × (funct3_of word ≡ op_funct3 op)
IsRow word (AluReg op rd rs1 rs2) = (opcode_of word ≡ 0x33) × ((funct7_of word ≡ op_funct7 op) × (funct3_of word ≡ op_funct3 op)) × (rd_of word ≡ rd) × (rs1_of word ≡ rs1) × (rs2_of word ≡ rs2)
IsRow word (Fence bits) = (opcode_of word ≡ 0x0f) × (funct3_of word < 2) × (word ≡ bits)
IsRow word Ecall = word ≡ 0x00000073
IsRow word Ebreak = word ≡ 0x00100073
