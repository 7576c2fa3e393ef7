-- Lists of conditions: terms that are to have the value 1.
use Rattle.std.specs.Prelude.{◌≡◌, ℕ, List, Bool, nat_eq, All}
use Rattle.std.specs.List.{list_all}
use Rattle.term_model.specs.Tree.{Tree}
use Rattle.term_model.specs.Value.{val}

-- each condition has the value 1 on an input
abbrev pub Hold : List Tree → List ℕ → Type 0
Hold conditions input = All (λ t. val t input ≡ 1) conditions

-- the same as a test
abbrev pub holds : List Tree → List ℕ → Bool
holds conditions input = list_all (λ t. nat_eq (val t input) 1) conditions
