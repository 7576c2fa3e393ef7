-- Terms of the tests.
use Rattle.std.specs.Prelude.{◌≡◌, ℕ, [], ◌∷◌, nat_eq}
use Rattle.term_model.specs.Tree.{Tree}
use Rattle.term_model.specs.Value.{val}
use Rattle.term_model.specs.Places.{reads}

-- a term that reads place 0 alone, and has the value 8 with the byte 8 there
pub record IsEight (tree : Tree) : Type 0 where
  pub only : (i : ℕ) → reads tree i ≡ nat_eq 0 i
  pub value : val tree (8 ∷ []) ≡ 8
