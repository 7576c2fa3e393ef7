use Rattle.symbol_stack.proofs.NameLemmas.{is_named, one_name}
use Rattle.symbol_stack.proofs.laws.the_name_begins_last_and_stands_first.Goals as goal

pub returns-clause-named : goal.returns-clause-named
returns-clause-named c = is_named

pub returns-clause-one : goal.returns-clause-one
returns-clause-one c = one_name
