-- The numbers of a run.
use Rattle.std.specs.Prelude.{zero, suc, ◌≡◌, ℕ, ◌<◌, List, ◌⊎◌}
use Rattle.search_model.specs.Literals.{Literals, AreLiterals}
use Rattle.search_model.specs.Search.{State}
use Rattle.search_model.specs.Turns.{Turns}
use Rattle.search_model.specs.Numbers.{HasNumber}

module _ {L : Type 0} (lits : Literals L) (laws : AreLiterals lits) where
  -- Along the run the number rises at each conflict that leaves a decision, from 0 to n.
  abbrev pub IsNumbered : (clauses : List (List L)) (order : List L) (m : ℕ) (s : State L) → Turns lits clauses order m s → ℕ → Type 0
  IsNumbered clauses order zero s h n = n ≡ 0
  IsNumbered clauses order (suc m) s (e, h, turn) n =
      ((s.learned ≡ e.learned) × IsNumbered clauses order m e h n)
      ⊎ ((i : ℕ) × (i < n) × HasNumber lits clauses order e s n × IsNumbered clauses order m e h i)
