use Rattle.group_model.proofs.HoldLemmas.{held, passed}
use Rattle.group_model.proofs.conditions_hold_by_test.Goals as goal

pub returns : goal.returns
returns c = record { test = λ conditions input. (held conditions input, passed conditions input) }
