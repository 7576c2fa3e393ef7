-- By the tests of the closure.
use Rattle.search_model.specs.Literals.{named}
use Rattle.search_laws.proofs.LitLemmas.{named_are_literals}
use Rattle.search_laws.proofs.After.{turn_some, turn_none}
use Rattle.search_laws.proofs.Runs.{one_next, end_is_last, turn_is, end_is, turns_or_ends}
use Rattle.search_laws.proofs.turns_are_the_search.Goals as goal

pub returns-clause-next : goal.returns-clause-next
returns-clause-next c = λ clauses order s t. (turn_some named named_are_literals clauses order s t, turn_is named named_are_literals clauses order s t)

pub returns-clause-end : goal.returns-clause-end
returns-clause-end c = λ clauses order s. (turn_none named named_are_literals clauses order s, end_is named named_are_literals clauses order s)

pub returns-clause-one_next : goal.returns-clause-one_next
returns-clause-one_next c = one_next named named_are_literals

pub returns-clause-next_or_end : goal.returns-clause-next_or_end
returns-clause-next_or_end c = turns_or_ends named named_are_literals

pub returns-clause-end_is_last : goal.returns-clause-end_is_last
returns-clause-end_is_last c = end_is_last named named_are_literals
