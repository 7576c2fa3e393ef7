-- By the learned clauses, which each model satisfies, and by the numbers of the decisions.
use Rattle.std.proofs.Common.{◌<◌, length, List}
use Rattle.std.proofs.lemmas.List.Elements.{All-contains}
use Rattle.gate_net.specs.declared.literals.Lit.{Lit}
use Rattle.search_model.specs.Literals.{named}
use Rattle.search_laws.proofs.LitLemmas.{named_are_literals}
use Rattle.search_laws.proofs.Found.{no_model, first_model_found, conflict_without_model}
use Rattle.search_laws.proofs.end_tells_the_models.Goals as goal

pub returns-clause-none : goal.returns-clause-none
returns-clause-none c = no_model named named_are_literals

pub returns-clause-first : goal.returns-clause-first
returns-clause-first c = λ clauses order some settles e.
    first_model_found named named_are_literals clauses order e settles (λ k at. All-contains (λ (x : List Lit). 0 < length x) clauses k some at)

pub returns-clause-unsatisfiable : goal.returns-clause-unsatisfiable
returns-clause-unsatisfiable c = λ clauses order some settles none.
    conflict_without_model named named_are_literals clauses order settles (λ k at. All-contains (λ (x : List Lit). 0 < length x) clauses k some at) none
