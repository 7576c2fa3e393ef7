-- Conditions as terms of an arena.
use Rattle.std.specs.Prelude.{◌≡◌, ℕ, ◌<◌, List, true, length}
use Rattle.term_model.specs.Tree.{Tree}
use Rattle.term_model.specs.Places.{reads}
use Rattle.term_model.specs.Truth.{is_truth}
use Rattle.term_arena.specs.Trees.{tree_of}

-- a term of an arena that is a condition: a truth term that reads the input
pub record IsCondition (trees : List Tree) (t : ℕ) : Type 0 where
  pub belongs : t < length trees
  pub truth : is_truth (tree_of trees t) ≡ true
  pub place : ℕ
  pub read : reads (tree_of trees t) place ≡ true
