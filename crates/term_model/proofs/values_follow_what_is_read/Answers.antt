use Rattle.term_model.proofs.PlaceLemmas.{value_follows}
use Rattle.term_model.proofs.values_follow_what_is_read.Goals as goal

pub returns : goal.returns
returns c = record { value = value_follows }
