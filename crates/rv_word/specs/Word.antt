-- The operations of RV32I and of the extension M on words of 32 bits. A word is a number below 2 ^ 32.
use Rattle.std.specs.Prelude.{ℕ, ◌+◌, ◌-◌, ◌*◌, ◌/◌, ◌%◌, ◌^◌, ℤ, pos, negsuc, ◌*ℤ◌, int_lt, int_div, int_rem, nat_lt, ◌==◌, if◌then◌else◌, bit_and, bit_or, bit_xor}
use Rattle.std.specs.Int.{cast_signed, int_shr, w32, from_bool}
use Rattle.rv_word.specs.declared.AluOp.{AluOp}
use Rattle.rv_word.specs.declared.AluOp.TheVariants.{Add, Sub, Sll, Slt, Sltu, Xor, Srl, Sra, Or, And, Mul, Mulh, Mulhsu, Mulhu, Div, Divu, Rem, Remu}

-- the integer that a word stands for in two's complement, from -2 ^ 31 up to 2 ^ 31 - 1
abbrev pub signed : ℕ → ℤ
signed a = cast_signed w32 a

-- an integer as a word, in two's complement: modulo 2 ^ 32, where `negsuc n` is -1 - n
abbrev pub bits : ℤ → ℕ
bits (pos n) = n % 2 ^ 32
bits (negsuc n) = 2 ^ 32 - 1 - n % 2 ^ 32

-- byte k of a word, where byte 0 is the lowest
abbrev pub byte_of : ℕ → ℕ → ℕ
byte_of k a = a / 256 ^ k % 256

-- What an operation makes of two words.
-- A comparison gives 1 where it holds, else 0. A shift goes by the low five bits of b.
-- `int_shr z k` is z / 2 ^ k rounded down, `int_div` rounds towards zero, and `int_rem` has the sign of its first operand.
abbrev pub alu : AluOp → ℕ → ℕ → ℕ
-- sum and difference modulo 2 ^ 32
alu Add a b = (a + b) % 2 ^ 32
alu Sub a b = (a + (2 ^ 32 - b)) % 2 ^ 32
-- shift to the left
alu Sll a b = (a * 2 ^ (b % 32)) % 2 ^ 32
-- less than, signed and unsigned
alu Slt a b = from_bool (int_lt (signed a) (signed b))
alu Sltu a b = from_bool (nat_lt a b)
-- bit by bit
alu Xor a b = bit_xor a b
-- shift to the right, with zeros and with copies of the sign
alu Srl a b = a / 2 ^ (b % 32)
alu Sra a b = bits (int_shr (signed a) (b % 32))
-- bit by bit
alu Or a b = bit_or a b
alu And a b = bit_and a b
-- the lower half of the product
alu Mul a b = (a * b) % 2 ^ 32
-- the upper half of the product of signed and signed, signed and unsigned, unsigned and unsigned
alu Mulh a b = bits (int_shr (signed a *ℤ signed b) 32)
alu Mulhsu a b = bits (int_shr (signed a *ℤ pos b) 32)
alu Mulhu a b = a * b / 2 ^ 32
-- quotient, signed and unsigned; all bits set where b is 0
alu Div a b = if b == 0 then 2 ^ 32 - 1 else bits (int_div (signed a) (signed b))
alu Divu a b = if b == 0 then 2 ^ 32 - 1 else a / b
-- remainder, signed and unsigned; a where b is 0
alu Rem a b = if b == 0 then a else bits (int_rem (signed a) (signed b))
alu Remu a b = if b == 0 then a else a % b
