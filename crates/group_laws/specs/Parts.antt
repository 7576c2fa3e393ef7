-- The groups of conditions as the parts of an input.
use Rattle.std.specs.Prelude.{◌↔◌, ℕ, Bool, List, map, IsTrue}
use Rattle.term_model.specs.Tree.{Tree}
use Rattle.term_model.specs.Conditions.{Hold}
use Rattle.term_arena.specs.Trees.{trees_of}
use Rattle.input_laws.specs.Inputs.{IsInput}
use Rattle.input_laws.specs.Parts.{Part}
use Rattle.group_model.specs.declared.Group.{Group}
use Rattle.group_model.specs.Group.{part_of, HasAt, IsGroupFirst}

-- an input of n bytes is a member exactly where the conditions hold of it
abbrev pub IsByConditions : ℕ → (List ℕ → Bool) → List Tree → Type 0
IsByConditions n member conditions = (y : List ℕ) → IsInput n y → IsTrue (member y) ↔ Hold conditions y

-- each group as a part
abbrev pub parts_of : List Tree → List Group → List Part
parts_of trees groups = map (λ g. part_of g.places (trees_of trees g.conditions)) groups

-- y has the group's first bytes at the group's places
pub record HasFirst (trees : List Tree) (mask y : List ℕ) (group : Group) : Type 0 where
  pub bytes : List ℕ
  pub is_first : IsGroupFirst mask group.places (trees_of trees group.conditions) bytes
  pub has : HasAt group.places bytes y
