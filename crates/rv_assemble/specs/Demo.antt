-- The demonstration cases: two programs that read n bytes to 00020000, and the inputs on which they meet an EBREAK.
use Rattle.std.specs.Prelude.{ℕ, ◌+◌, ◌*◌, ◌/◌, ◌%◌, ℤ, pos, ◌-ℤ◌, neg_ℤ, List, [], ◌∷◌, map}
use Rattle.std.specs.List.{range_with_len}
use Rattle.rv_word.specs.declared.AluOp.TheVariants as ops
use Rattle.rv_decode.specs.declared.instr.Instr.{Instr}
use Rattle.rv_decode.specs.declared.instr.Instr.TheVariants as instr
use Rattle.rv_decode.specs.declared.instr.Cond.TheVariants as conds
use Rattle.rv_decode.specs.declared.instr.Width.TheVariants as widths
use Rattle.rv_assemble.specs.declared.region.Region.{Region}
use Rattle.rv_assemble.specs.declared.demo.DemoKind.{DemoKind}
use Rattle.rv_assemble.specs.declared.demo.DemoKind.TheVariants.{Single, Triple}

-- ---- a number as the sum of 4096 * hi and lo, which LUI and ADDI load one after the other (the assembler's %hi and %lo)

abbrev pub hi : ℕ → ℕ
hi v = (v + 2048) / 4096

abbrev pub lo : ℕ → ℤ
lo v = pos v -ℤ pos (4096 * hi v)

-- ---- the instructions, by the standard's mnemonics

-- the upper twenty bits are given, as an assembler is
abbrev pub lui : ℕ → ℕ → Instr
lui rd upper = instr.Lui rd (pos (4096 * upper))

abbrev pub addi : ℕ → ℕ → ℤ → Instr
addi rd rs1 imm = instr.AluImm ops.Add rd rs1 imm

abbrev pub sltiu : ℕ → ℕ → ℤ → Instr
sltiu rd rs1 imm = instr.AluImm ops.Sltu rd rs1 imm

abbrev pub xori : ℕ → ℕ → ℤ → Instr
xori rd rs1 imm = instr.AluImm ops.Xor rd rs1 imm

abbrev pub andi : ℕ → ℕ → ℤ → Instr
andi rd rs1 imm = instr.AluImm ops.And rd rs1 imm

abbrev pub add : ℕ → ℕ → ℕ → Instr
add rd rs1 rs2 = instr.AluReg ops.Add rd rs1 rs2

abbrev pub or : ℕ → ℕ → ℕ → Instr
or rd rs1 rs2 = instr.AluReg ops.Or rd rs1 rs2

-- the offset stands first, as in `lbu rd,offset(rs1)`
abbrev pub lbu : ℕ → ℤ → ℕ → Instr
lbu rd offset rs1 = instr.Load widths.Bu rd rs1 offset

abbrev pub beq : ℕ → ℕ → ℤ → Instr
beq rs1 rs2 offset = instr.Branch conds.Eq rs1 rs2 offset

abbrev pub bne : ℕ → ℕ → ℤ → Instr
bne rs1 rs2 offset = instr.Branch conds.Ne rs1 rs2 offset

-- ---- the programs

-- reads n bytes, counts those below 128 one by one, and meets an EBREAK
unfoldable pub single_code : ℕ → List Instr
single_code n =
    lui 11 32
    ∷ lui 12 (hi n)
    ∷ addi 12 12 (lo n)
    ∷ addi 17 0 (pos 63)
    ∷ instr.Ecall
    ∷ add 13 11 12
    ∷ lbu 5 (pos 0) 11
    ∷ sltiu 6 5 (pos 128)
    ∷ beq 6 0 (pos 8)
    ∷ addi 7 7 (pos 1)
    ∷ addi 11 11 (pos 1)
    ∷ bne 11 13 (neg_ℤ (pos 20))
    ∷ instr.Ebreak
    ∷ []

-- reads n bytes and takes them by three. It exits where one of these lowest bits is 0: of the first or the second, of the
-- first or the second's complement, and of the second or the third. Else it meets an EBREAK
unfoldable pub triple_code : ℕ → ℕ → List Instr
triple_code n groups =
    lui 11 32
    ∷ lui 12 (hi n)
    ∷ addi 12 12 (lo n)
    ∷ addi 17 0 (pos 63)
    ∷ instr.Ecall
    ∷ lui 13 (hi (3 * groups))
    ∷ addi 13 13 (lo (3 * groups))
    ∷ add 13 11 13
    ∷ lbu 5 (pos 0) 11
    ∷ lbu 6 (pos 1) 11
    ∷ lbu 7 (pos 2) 11
    ∷ or 8 5 6
    ∷ andi 8 8 (pos 1)
    ∷ beq 8 0 (pos 44)
    ∷ xori 9 6 (neg_ℤ (pos 1))
    ∷ or 8 5 9
    ∷ andi 8 8 (pos 1)
    ∷ beq 8 0 (pos 28)
    ∷ or 8 6 7
    ∷ andi 8 8 (pos 1)
    ∷ beq 8 0 (pos 16)
    ∷ addi 11 11 (pos 3)
    ∷ bne 11 13 (neg_ℤ (pos 56))
    ∷ instr.Ebreak
    ∷ addi 17 0 (pos 93)
    ∷ instr.Ecall
    ∷ []

abbrev pub demo_code : DemoKind → ℕ → List Instr
demo_code Single n = single_code n
demo_code Triple n = triple_code n (n / 3)

-- n zeros at 00020000, which can be read and written
abbrev pub demo_region : ℕ → Region
demo_region n = record { base = 0x20000; size = n; rights = 6; bytes = [] }

abbrev pub demo_regions : ℕ → List Region
demo_regions n = demo_region n ∷ []

-- ---- the inputs

-- byte i
abbrev pub demo_byte : DemoKind → ℕ → ℕ
demo_byte Single i = (37 * i + 11) % 256
demo_byte Triple i = 0xff

abbrev pub demo_input : DemoKind → ℕ → List ℕ
demo_input kind n = map (demo_byte kind) (range_with_len 0 n)
