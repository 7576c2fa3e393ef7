use Rattle.term_model.proofs.WordLemmas.{truth_below}
use Rattle.term_model.proofs.truths_are_bits.Goals as goal

pub returns : goal.returns
returns c = record { bits = truth_below }
