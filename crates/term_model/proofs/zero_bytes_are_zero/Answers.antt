use Rattle.term_model.proofs.ZeroLemmas.{zero_byte}
use Rattle.term_model.proofs.zero_bytes_are_zero.Goals as goal

pub returns : goal.returns
returns c = record { zero = λ t k input words bytes named. zero_byte input bytes t k words named }
