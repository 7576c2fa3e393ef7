-- By the numbers of the decisions, which fall from the first to the last.
use Rattle.search_model.specs.Literals.{named}
use Rattle.search_laws.proofs.LitLemmas.{named_are_literals}
use Rattle.search_laws.proofs.Higher.{some_number, one_number, rises, number_within, none_left_ends}
use Rattle.search_laws.proofs.conflicts_rise.Goals as goal

pub returns-clause-numbered : goal.returns-clause-numbered
returns-clause-numbered c = λ clauses order s t (m, run) learns some. some_number named named_are_literals clauses order m s t run learns some

pub returns-clause-one_number : goal.returns-clause-one_number
returns-clause-one_number c = one_number named named_are_literals

pub returns-clause-rises : goal.returns-clause-rises
returns-clause-rises c = λ clauses order i j n k s t u v run number later other less.
    rises named named_are_literals clauses order i s t n run number j u v k less later other

pub returns-clause-within : goal.returns-clause-within
returns-clause-within c = number_within named named_are_literals

pub returns-clause-none_left : goal.returns-clause-none_left
returns-clause-none_left c = none_left_ends named named_are_literals
