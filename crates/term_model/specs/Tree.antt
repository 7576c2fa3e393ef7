-- Terms, as trees.
use Rattle.std.specs.Prelude.{ℕ, Bool, true, false}
use Rattle.term_model.specs.declared.Op.{Op}

-- a constant, the byte at a place of the input, or an operation on two terms
pub data Tree : Type 0 where
  Const : ℕ → Tree
  Input : ℕ → Tree
  Apply : Op → Tree → Tree → Tree

-- the term is a constant
abbrev pub is_const : Tree → Bool
is_const (Const c) = true
is_const (Input i) = false
is_const (Apply op a b) = false
