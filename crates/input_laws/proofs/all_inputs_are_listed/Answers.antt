use Rattle.input_laws.proofs.Inputs.{length-all_inputs, all_are_inputs, contains_inputs}
use Rattle.input_laws.proofs.Ordered.{inputs_once}
use Rattle.input_laws.proofs.all_inputs_are_listed.Goals as goal

pub returns : goal.returns
returns c = record { many = length-all_inputs; each = all_are_inputs; once = inputs_once; every = contains_inputs }
