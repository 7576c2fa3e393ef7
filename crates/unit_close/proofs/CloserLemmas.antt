-- From values to answers.
use Rattle.std.proofs.Common.{◌≡◌, Bool, true, false, refl, sym, ap, ◌∙◌, List}
use Rattle.std.specs.Prelude.{Option, Some, None, ◌↔◌, not, slice_index_or}
use Rattle.std.specs.Bool.{beq}
use Rattle.gate_net.specs.declared.literals.Lit.{Lit}
use Rattle.gate_net.specs.Lits.{negation}
use Rattle.search_model.specs.Literals.{named}
use Rattle.unit_close.specs.declared.closed.Closed.{Closed}
use Rattle.unit_close.specs.declared.closed.Closed.TheVariants as closed
use Rattle.search_model.specs.Closure.{IsInClosure}
use Rattle.unit_close.specs.Values.{is_value, IsClosure}

-- the value under a sign
abbrev pub signed : Option Bool → Bool → Option Bool
signed None sign = None
signed (Some b) sign = Some (beq b sign)

signed_false : (v : Option Bool) (sign : Bool) → signed v sign ≡ Some false → is_value v (not sign) ≡ true
signed_false None sign e = cc
signed_false (Some true) true e = cc
signed_false (Some true) false e = refl
signed_false (Some false) true e = refl
signed_false (Some false) false e = cc

false_signed : (v : Option Bool) (sign : Bool) → is_value v (not sign) ≡ true → signed v sign ≡ Some false
false_signed None sign e = cc
false_signed (Some true) true e = cc
false_signed (Some true) false e = refl
false_signed (Some false) true e = refl
false_signed (Some false) false e = cc

pub value_no : (clauses : List (List Lit)) (decisions : List Lit) (values : List (Option Bool)) (l : Lit) (v r : Option Bool) → v ≡ slice_index_or values l.name None → r ≡ signed v l.positive → IsClosure clauses decisions values → (r ≡ Some false) ↔ IsInClosure named clauses decisions (negation l)
value_no clauses decisions values l v r read is closure = (
  λ e. (closure (negation l)).0 (rw (← read) (signed_false v l.positive (sym is ∙ e))),
  λ h. is ∙ false_signed v l.positive (ap (λ w. is_value w (not l.positive)) read ∙ (closure (negation l)).1 h),
)

-- the answer is Conflict where it can't be Set
pub only_conflict : (r : Closed) → (r ≡ closed.Set → ⊥) → r ≡ closed.Conflict
only_conflict closed.Conflict h = refl
only_conflict closed.Set h = absurd (h refl)
