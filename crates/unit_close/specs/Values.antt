-- Literals as values of names.
use Rattle.std.specs.Prelude.{◌≡◌, ◌↔◌, Bool, true, false, List, Option, Some, None, slice_index_or}
use Rattle.std.specs.Bool.{beq}
use Rattle.gate_net.specs.declared.literals.Lit.{Lit}
use Rattle.search_model.specs.Literals.{named}
use Rattle.search_model.specs.Closure.{IsInClosure}

-- whether the value is that sign
abbrev pub is_value : Option Bool → Bool → Bool
is_value None sign = false
is_value (Some b) sign = beq b sign

-- the values make the literal true
abbrev pub has : List (Option Bool) → Lit → Bool
has values l = is_value (slice_index_or values l.name None) l.positive

-- the literals that the values make true are the closure
abbrev pub IsClosure : List (List Lit) → List Lit → List (Option Bool) → Type 0
IsClosure clauses decisions values = (l : Lit) → (has values l ≡ true) ↔ IsInClosure named clauses decisions l

-- each literal that the values make true is in the closure
abbrev pub Follow : List (List Lit) → List Lit → List (Option Bool) → Type 0
Follow clauses decisions values = (l : Lit) → has values l ≡ true → IsInClosure named clauses decisions l
