-- What a closer answers, by the tests of the closure.
use Rattle.std.proofs.lemmas.List.{take_more, map-append}
use Rattle.std.proofs.Common.{◌≡◌, ℕ, ◌+◌, ◌<◌, [], ◌∷◌, ◌++◌, length, take, get_or, map, Bool, true, false, List, refl, sym, ◌∙◌, ap, inl, inr}
use Rattle.std.specs.Prelude.{◌↔◌, ◌⊎◌, not, Option, Some, None, is_none, unwrap_or}
use Rattle.gate_net.specs.declared.literals.Lit.{Lit}
use Rattle.gate_net.specs.Lits.{negation}
use Rattle.search_model.specs.Literals.{named}
use Rattle.search_model.specs.Closure.{IsInClosure, IsConflict}
use Rattle.search_model.specs.Tests.{in_closure, is_conflict, is_open}
use Rattle.search_laws.proofs.ListLemmas.{bool_cases, either_right}
use Rattle.search_laws.proofs.LitLemmas.{named_are_literals}
use Rattle.search_laws.proofs.TestLemmas.{in_is, is_in, conflict_is, is_conflicting}

module _ (clauses : List (List Lit)) (decisions : List Lit) where
  pub tested_in : (l : Lit) → IsInClosure named clauses decisions l → in_closure named clauses decisions l ≡ true
  tested_in l h = is_in named named_are_literals clauses decisions l h

  pub in_tested : (l : Lit) → in_closure named clauses decisions l ≡ true → IsInClosure named clauses decisions l
  in_tested l e = in_is named named_are_literals clauses decisions l e

  pub tested_conflict : IsConflict named clauses decisions → is_conflict named clauses decisions ≡ true
  tested_conflict h = is_conflicting named named_are_literals clauses decisions h

  pub conflict_tested : is_conflict named clauses decisions ≡ true → IsConflict named clauses decisions
  conflict_tested e = conflict_is named named_are_literals clauses decisions e

  pub calm_tested : (IsConflict named clauses decisions → ⊥) → is_conflict named clauses decisions ≡ false
  calm_tested calm = elim (bool_cases (is_conflict named clauses decisions)) [
    | inl e ↦ absurd (calm (conflict_tested e))
    | inr e ↦ e
  ]

  pub not_tested_in : (l : Lit) → (IsInClosure named clauses decisions l → ⊥) → in_closure named clauses decisions l ≡ false
  not_tested_in l lacks = elim (bool_cases (in_closure named clauses decisions l)) [
    | inl e ↦ absurd (lacks (in_tested l e))
    | inr e ↦ e
  ]

  pub open_tested : (l : Lit) → (IsInClosure named clauses decisions l → ⊥) → (IsInClosure named clauses decisions (negation l) → ⊥) → is_open named clauses decisions l ≡ true
  open_tested l here there = rw (not_tested_in l here, not_tested_in (negation l) there) refl

  pub settled_tested : (l : Lit) → IsInClosure named clauses decisions l ⊎ IsInClosure named clauses decisions (negation l) → is_open named clauses decisions l ≡ false
  settled_tested l (inl here) = rw (tested_in l here) refl
  settled_tested l (inr there) = ap not (either_right (in_closure named clauses decisions l) (in_closure named clauses decisions (negation l)) (tested_in (negation l) there))

  -- what the value of a literal is
  pub value_is : (l : Lit) (v : Option Bool) → (v ≡ Some true ↔ IsInClosure named clauses decisions l) → (v ≡ Some false ↔ IsInClosure named clauses decisions (negation l))
      → (is_none v ≡ is_open named clauses decisions l) × (unwrap_or v false ≡ in_closure named clauses decisions l)
  value_is l None has lacks = (
    sym (open_tested l (λ here. let e : None ≡ Some true = has.1 here in absurd (cc)) (λ there. let e : None ≡ Some false = lacks.1 there in absurd (cc))),
    sym (not_tested_in l (λ here. let e : None ≡ Some true = has.1 here in absurd (cc))),
  )
  value_is l (Some true) has lacks = (sym (settled_tested l (inl (has.0 refl))), sym (tested_in l (has.0 refl)))
  value_is l (Some false) has lacks = (
    sym (settled_tested l (inr (lacks.0 refl))),
    sym (not_tested_in l (λ here. let e : Some false ≡ Some true = has.1 here in absurd (cc))),
  )

pub map_take_more : {X Y : Type 0} (f : X → Y) (xs : List X) (i : ℕ) (d : X) → i < length xs → map f (take (i + 1) xs) ≡ map f (take i xs) ++ f (get_or xs i d) ∷ []
map_take_more f xs i d h = ap (map f) (take_more xs i d h) ∙ map-append f (take i xs) (get_or xs i d ∷ [])
