use Rattle.report_laws.proofs.ClassLemmas.{input_comes_first, input_has_trace}
use Rattle.report_laws.proofs.the_input_comes_first.Goals as goal

pub returns : goal.returns
returns c = record { first = input_comes_first; same_trace = input_has_trace }
