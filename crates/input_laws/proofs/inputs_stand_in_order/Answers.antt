use Rattle.input_laws.proofs.InOrder.{length-inputs_in_order, all_in_order, contains_in_order, pairs_in_order, distinct_in_order}
use Rattle.input_laws.proofs.inputs_stand_in_order.Goals as goal

pub returns : goal.returns
returns c = record { many = length-inputs_in_order; each = all_in_order; every = contains_in_order; in_order = pairs_in_order; once = distinct_in_order }
