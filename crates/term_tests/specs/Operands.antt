-- Terms on the stack of a reader of texts in postfix order.
use Rattle.std.specs.Prelude.{◌≡◌, ℕ, ◌<◌, List, Bool, true, length}
use Rattle.term_model.specs.Tree.{Tree}
use Rattle.term_arena.specs.Trees.{tree_of}
use Rattle.normal_form.specs.Normal.{IsNormal}

-- a term of the arena, in normal form where it has to be
pub record IsOperand (is_normal : Bool) (trees : List Tree) (t : ℕ) : Type 0 where
  pub below : t < length trees
  pub normal : is_normal ≡ true → IsNormal (tree_of trees t)
