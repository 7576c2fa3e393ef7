-- By the numbers of the conflicts.
use Rattle.search_model.specs.Literals.{named}
use Rattle.search_laws.proofs.LitLemmas.{named_are_literals}
use Rattle.search_laws.proofs.Found.{count_bound, count_with_model}
use Rattle.search_laws.proofs.conflicts_are_bounded.Goals as goal

pub returns-clause-most : goal.returns-clause-most
returns-clause-most c = count_bound named named_are_literals

pub returns-clause-with_model : goal.returns-clause-with_model
returns-clause-with_model c = count_with_model named named_are_literals
