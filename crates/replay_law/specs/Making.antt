-- What makes terms. The law of the conditions asks no more of it than what stands here.
use Rattle.std.specs.Prelude.{◌≡◌, ℕ, ◌<◌, ◌^◌, List, true, ◌⊎◌}
use Rattle.rv_word.specs.declared.AluOp.TheVariants.{Slt, Sltu}
use Rattle.term_model.specs.declared.Op.{Op}
use Rattle.term_model.specs.declared.Op.TheVariants.{Alu, Eq}
use Rattle.term_model.specs.Tree.{Tree, Const, Input, Apply}
use Rattle.term_model.specs.Value.{val, op_value}
use Rattle.term_model.specs.Words.{HasWords, AreBytes}
use Rattle.term_model.specs.ByteNumber.{TakesByteNumber}
use Rattle.term_model.specs.Places.{ReadsBelow, ReadsNothing}
use Rattle.term_model.specs.Truth.{is_truth}

-- the term that is made for an operation on two terms
abbrev pub Making : Type 0
Making = Op → Tree → Tree → Tree

-- A maker of terms. `IsMade` says which terms it takes and gives: constants, bytes of the input, and what it makes of
-- such terms. What it makes has the operation's value, and the operands of such a term are such terms.
pub record IsMaker (made : Making) (IsMade : Tree → Type 0) : Type 0 where
  pub constant : (c : ℕ) → c < 2 ^ 32 → IsMade (Const c)
  pub input : (i : ℕ) → IsMade (Input i)
  pub gives : (op : Op) (a b : Tree) → IsMade a → IsMade b → TakesByteNumber op b → IsMade (made op a b)
  pub keeps : (op : Op) (a b : Tree) (y : List ℕ) → IsMade a → IsMade b → TakesByteNumber op b → AreBytes y → val (made op a b) y ≡ op_value op (val a y) (val b y)
  pub first : (op : Op) (a b : Tree) → IsMade (Apply op a b) → IsMade a
  pub second : (op : Op) (a b : Tree) → IsMade (Apply op a b) → IsMade b
  pub words : (t : Tree) (y : List ℕ) → IsMade t → AreBytes y → val t y < 2 ^ 32

-- the term is a constant
abbrev pub IsConstant : Tree → Type 0
IsConstant t = (c : ℕ) × (t ≡ Const c)

-- a truth term, or a constant
abbrev pub IsTruthOrConstant : Tree → Type 0
IsTruthOrConstant t = (is_truth t ≡ true) ⊎ IsConstant t

-- What is made has words as constants and reads no other places, comparisons are truth terms or constants, and what reads
-- no place is a constant.
pub record IsCarefulMaker (made : Making) (IsMade : Tree → Type 0) : Type 0 where
  pub constants : (t : Tree) → IsMade t → HasWords t
  pub places : (n : ℕ) (op : Op) (a b : Tree) → ReadsBelow n a → ReadsBelow n b → ReadsBelow n (made op a b)
  pub equals : (a b : Tree) → IsMade a → IsMade b → IsTruthOrConstant (made Eq a b)
  pub less : (a b : Tree) → IsMade a → IsMade b → IsTruthOrConstant (made (Alu Slt) a b)
  pub below : (a b : Tree) → IsMade a → IsMade b → IsTruthOrConstant (made (Alu Sltu) a b)
  pub closed : (t : Tree) → IsMade t → ReadsNothing t → IsConstant t
