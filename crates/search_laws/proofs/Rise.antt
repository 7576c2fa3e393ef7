-- The numbers of the decisions.
use Rattle.std.specs.Prelude.{ℕ, ◌<◌, List, [], ◌∷◌, ◌++◌}
use Rattle.search_model.specs.Literals.{Literals, AreLiterals}
use Rattle.search_model.specs.Numbers.{WasDecided}

module _ {L : Type 0} (lits : Literals L) (laws : AreLiterals lits) where
  -- The decisions' numbers fall from the first to the last, all below the bound, and n is below them all.
  abbrev pub IsStack : List (List L) → List (List L) → List L → List L → ℕ → List L → ℕ → Type 0
  IsStack base clauses order passed bound [] n = n < bound
  IsStack base clauses order passed bound (d ∷ ds) n =
      (k : ℕ) × (k < bound) × WasDecided lits base order clauses passed d k × IsStack base clauses order (passed ++ d ∷ []) k ds n
