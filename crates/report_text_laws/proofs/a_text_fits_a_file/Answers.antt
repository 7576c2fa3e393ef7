use Rattle.report_text_laws.proofs.Lengths.{text-short}
use Rattle.report_text_laws.proofs.a_text_fits_a_file.Goals as goal

pub returns : goal.returns
returns c = text-short
