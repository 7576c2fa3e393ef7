-- The value of a term on an input.
use Rattle.std.specs.Prelude.{ℕ, ◌+◌, ◌*◌, ◌%◌, nat_eq, List, slice_index}
use Rattle.std.specs.Int.{from_bool}
pub use Rattle.rv_word.specs.Word.{byte_of}
use Rattle.rv_word.specs.Word.{alu}
use Rattle.term_model.specs.declared.Op.{Op}
use Rattle.term_model.specs.declared.Op.TheVariants.{Alu, Eq, Byte, Pair, Half}
use Rattle.term_model.specs.Tree.{Tree, Const, Input, Apply}

-- What an operation makes of two words.
abbrev pub op_value : Op → ℕ → ℕ → ℕ
-- an operation of the processor
op_value (Alu f) a b = alu f a b
-- 1 where the words are equal, else 0
op_value Eq a b = from_bool (nat_eq a b)
-- the byte of a that b names, modulo 4
op_value Byte a b = byte_of (b % 4) a
-- the lowest bytes, that of a in the lower place
op_value Pair a b = a % 256 + 256 * (b % 256)
-- the lower halves, that of a in the lower place
op_value Half a b = a % 65536 + 65536 * (b % 65536)

-- the value of a term on an input
abbrev pub val : Tree → List ℕ → ℕ
val (Const c) input = c
val (Input i) input = slice_index input i
val (Apply op a b) input = op_value op (val a input) (val b input)
