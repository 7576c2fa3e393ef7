use Rattle.report_text_laws.proofs.Lines.{lines-tell, text-tells}
use Rattle.report_text_laws.proofs.a_text_has_one_report.Goals as goal

pub returns : goal.returns
returns c = record { lines = lines-tell; text = text-tells }
