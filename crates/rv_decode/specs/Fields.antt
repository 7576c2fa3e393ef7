-- The fields of an instruction word, a number below 2 ^ 32, and its immediates, each with its sign.
use Rattle.std.specs.Prelude.{ℕ, ◌+◌, ◌-◌, ◌*◌, ◌/◌, ◌%◌, ◌^◌, ℤ, pos, negsuc, nat_lt, if◌then◌else◌}

-- `count` bits from bit `low` up
abbrev pub field : ℕ → ℕ → ℕ → ℕ
field word low count = word / 2 ^ low % 2 ^ count

-- bits 6..0
abbrev pub opcode_of : ℕ → ℕ
opcode_of word = field word 0 7

-- bits 11..7, the register that is written
abbrev pub rd_of : ℕ → ℕ
rd_of word = field word 7 5

-- bits 14..12
abbrev pub funct3_of : ℕ → ℕ
funct3_of word = field word 12 3

-- bits 19..15, the first register that is read
abbrev pub rs1_of : ℕ → ℕ
rs1_of word = field word 15 5

-- bits 24..20, the second register that is read
abbrev pub rs2_of : ℕ → ℕ
rs2_of word = field word 20 5

-- bits 31..25
abbrev pub funct7_of : ℕ → ℕ
funct7_of word = field word 25 7

-- what a number of `count` bits stands for in two's complement; `negsuc n` is -1 - n
abbrev pub sign_extended : ℕ → ℕ → ℤ
sign_extended count n = if nat_lt n (2 ^ (count - 1)) then pos n else negsuc (2 ^ count - 1 - n)

-- format I: bits 31..20
abbrev pub i_immediate : ℕ → ℤ
i_immediate word = sign_extended 12 (field word 20 12)

-- format S: bits 31..25, then 11..7
abbrev pub s_immediate : ℕ → ℤ
s_immediate word = sign_extended 12 (field word 25 7 * 2 ^ 5 + field word 7 5)

-- format B: bit 31, bit 7, bits 30..25, bits 11..8, then a zero bit
abbrev pub b_offset : ℕ → ℤ
b_offset word = sign_extended 13 (field word 31 1 * 2 ^ 12 + field word 7 1 * 2 ^ 11 + field word 25 6 * 2 ^ 5 + field word 8 4 * 2)

-- format U: bits 31..12, then twelve zero bits
abbrev pub u_immediate : ℕ → ℤ
u_immediate word = sign_extended 32 (field word 12 20 * 2 ^ 12)

-- format J: bit 31, bits 19..12, bit 20, bits 30..21, then a zero bit
abbrev pub j_offset : ℕ → ℤ
j_offset word = sign_extended 21 (field word 31 1 * 2 ^ 20 + field word 12 8 * 2 ^ 12 + field word 20 1 * 2 ^ 11 + field word 21 10 * 2)
