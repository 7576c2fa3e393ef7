use Rattle.term_model.proofs.WordLemmas.{value_below}
use Rattle.term_model.proofs.values_are_words.Goals as goal

pub returns : goal.returns
returns c = record { words = value_below }
