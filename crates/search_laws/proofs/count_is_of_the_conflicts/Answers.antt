-- By the learned clauses: each conflict counted gave one.
use Rattle.std.proofs.Common.{length, sym, subst}
use Rattle.search_model.specs.Literals.{named}
use Rattle.search_model.specs.Search.{search_end}
use Rattle.search_model.specs.Turns.{HasCounted}
use Rattle.search_laws.proofs.LitLemmas.{named_are_literals}
use Rattle.search_laws.proofs.Found.{model_end, unsatisfiable_end}
use Rattle.search_laws.proofs.Runs.{has_counted, counted_one}
use Rattle.search_laws.proofs.count_is_of_the_conflicts.Goals as goal

pub returns-clause-counted : goal.returns-clause-counted
returns-clause-counted c = λ clauses order n count s run. (
  λ h. counted_one named named_are_literals clauses order n s run count (length s.learned) h (has_counted named named_are_literals clauses order n s run),
  λ e. subst (HasCounted named clauses order n s run) (sym e) (has_counted named named_are_literals clauses order n s run),
)

pub returns-clause-at_the_end : goal.returns-clause-at_the_end
returns-clause-at_the_end c = λ clauses order n count run h.
    counted_one named named_are_literals clauses order n (search_end named clauses order) run count (length (search_end named clauses order).learned) h
    (has_counted named named_are_literals clauses order n (search_end named clauses order) run)

pub returns-clause-model : goal.returns-clause-model
returns-clause-model c = model_end named named_are_literals

pub returns-clause-unsatisfiable : goal.returns-clause-unsatisfiable
returns-clause-unsatisfiable c = unsatisfiable_end named named_are_literals
