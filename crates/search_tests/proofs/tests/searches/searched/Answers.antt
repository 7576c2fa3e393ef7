use Rattle.std.proofs.Common.{List, sym, subst}
use Rattle.gate_net.specs.declared.literals.Lit.{Lit}
use Rattle.search_model.specs.Literals.{named}
use Rattle.search_model.specs.Model.{Settles}
use Rattle.search_tests.proofs.OrderLemmas.{HasNames, settles_all}
use Rattle.search_tests.proofs.tests.searches.searched.Goals as goal

pub first_model-found-requires-clause-settled : goal.first_model-found-requires-clause-settled
first_model-found-requires-clause-settled c =
    let whole : HasNames c.in_ok-order.order.items c.in_ok-formula.formula.names = subst (HasNames c.in_ok-order.order.items) (sym c.in_ok-formula.ensures) c.in_ok-order.ensures.whole in
    let P : List (List Lit) → Type 0 = λ f. Settles named f c.as_slice.result.now in
    let Q : List Lit → Type 0 = λ o. Settles named c.in_ok-formula.formula.clauses o in
    subst P (sym c.in_ok-closer.ensures.formula)
    (subst Q (sym c.as_slice.ensures.value)
    (settles_all c.in_ok-formula.formula.names c.in_ok-formula.formula.clauses c.in_ok-order.order.items c.in_ok-formula.formula.named whole))
