-- A closer's fields, and what contracts see of them.
use Rattle.std.specs.Prelude.{◌≡◌, ℕ, Bool, true, false, List, [], take}
use Rattle.gate_net.specs.declared.literals.Lit.{Lit}
use Rattle.search_model.specs.Model.{AreFilled}
use Rattle.unit_close.specs.Closing.{Closing}
use Rattle.unit_close.specs.Path.{Path}
use Rattle.unit_close.specs.Subsumed.{StandFor}
use Rattle.unit_close.specs.Watching.{Watching}
use Rattle.unit_close.specs.Work.{IsWorking}
use Rattle.unit_close.specs.Standing.{IsReady}

-- the first clauses that are watched are the formula's
abbrev pub closing_of : ℕ → Watching → List (List Lit) → Path → Closing
closing_of given w learned path = record { names = w.names; formula = take given w.clauses; learned = learned; values = path.values }

-- no clause of the formula is empty, and the path has nothing or nothing is left to work on
pub record IsWhole (given : ℕ) (w : Watching) (learned : List (List Lit)) (path : Path) (is_started : Bool) : Type 0 where
  pub working : IsWorking w path
  pub idle : w.loose ≡ []
  pub standing : StandFor given w.clauses learned
  pub filled : AreFilled (take given w.clauses)
  pub ready : is_started ≡ true → IsReady w path
  pub fresh : is_started ≡ false → (path.literals ≡ []) × (path.marks ≡ [])
