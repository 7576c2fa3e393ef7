use Rattle.report_laws.proofs.MaskLemmas.{mask_is_input}
use Rattle.report_laws.proofs.the_mask_is_an_input.Goals as goal

pub returns : goal.returns
returns c = mask_is_input
