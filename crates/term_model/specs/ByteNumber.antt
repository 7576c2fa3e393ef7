-- Constants that name a byte of a word.
use Rattle.std.specs.Prelude.{◌<◌}
use Rattle.term_model.specs.declared.Op.{Op}
use Rattle.term_model.specs.declared.Op.TheVariants.{Byte}
use Rattle.term_model.specs.Tree.{Tree, Const, Input, Apply}

-- a constant that names a byte of a word
abbrev pub IsByteNumber : Tree → Type 0
IsByteNumber (Const k) = k < 4
IsByteNumber (Input i) = ⊥
IsByteNumber (Apply op a b) = ⊥

-- the second operand names a byte, where the operation takes one
abbrev pub TakesByteNumber : Op → Tree → Type 0
TakesByteNumber Byte b = IsByteNumber b
TakesByteNumber op b = Unit {0}
