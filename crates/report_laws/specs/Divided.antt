-- The conditions of a trace as terms of an arena, divided into groups.
use Rattle.std.specs.Prelude.{◌≡◌, ℕ, List, All}
use Rattle.term_model.specs.Tree.{Tree}
use Rattle.term_model.specs.Places.{ReadsBelow}
use Rattle.term_arena.specs.Trees.{tree_of, trees_of}
use Rattle.group_model.specs.declared.Group.{Group}
use Rattle.group_model.specs.Conditions.{IsCondition}
use Rattle.group_model.specs.Division.{AreGroups}

-- the groups are those of some terms of the arena, whose trees are the conditions: truth terms that read places below n
pub record AreDivided (trees conditions : List Tree) (n : ℕ) (groups : List Group) : Type 0 where
  pub terms : List ℕ
  pub trees_are : trees_of trees terms ≡ conditions
  pub proper : All (IsCondition trees) terms
  pub below : All (λ t. ReadsBelow n (tree_of trees t)) terms
  pub are : AreGroups trees terms groups
