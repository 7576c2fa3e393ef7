use Rattle.term_model.proofs.PlaceLemmas.{reads_are_below, below_by_reads, nothing_is_read, nothing_by_reads}
use Rattle.term_model.proofs.places_are_those_read.Goals as goal

pub returns-clause-below : goal.returns-clause-below
returns-clause-below c = λ n t. (reads_are_below n t, below_by_reads n t)

pub returns-clause-nothing : goal.returns-clause-nothing
returns-clause-nothing c = λ t. (nothing_is_read t, nothing_by_reads t)
