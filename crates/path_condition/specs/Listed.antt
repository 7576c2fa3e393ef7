-- Lists of terms of an arena.
use Rattle.std.specs.Prelude.{ℕ, ◌<◌, ◌==◌, List, Bool, length, All}
use Rattle.std.specs.List.{list_any}
use Rattle.term_model.specs.Tree.{Tree}

-- each of the terms belongs to the arena
abbrev pub Belong : List Tree → List ℕ → Type 0
Belong trees terms = All (λ t. t < length trees) terms

-- whether a term is in the list
abbrev pub is_listed : List ℕ → ℕ → Bool
is_listed terms t = list_any (λ u. u == t) terms
