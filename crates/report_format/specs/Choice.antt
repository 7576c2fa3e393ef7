-- That bytes are a choice from sets is a fact with one proof, so a type can keep it.
use Rattle.std.specs.Prelude.{ℕ, Bool, true, List, [], ◌∷◌}
use Rattle.std.specs.Coded.{×_prop, Unit-prop, le_prop}
use mathlib.Core.Bool.{Bool-set}
use Rattle.input_laws.specs.Sets.{IsChoice}

-- Two proofs that these bytes are a choice from these sets are equal.
pub choice-prop : (sets : List (ℕ → Bool)) (input : List ℕ) → IsProp (IsChoice sets input)
choice-prop [] [] = Unit-prop
choice-prop [] (byte ∷ input) = λ none. absurd none
choice-prop (set ∷ sets) [] = λ none. absurd none
choice-prop (set ∷ sets) (byte ∷ input) = ×_prop (×_prop le_prop (Bool-set (set byte) true)) (choice-prop sets input)
