use Rattle.report_text_laws.proofs.Failing.{one-line}
use Rattle.report_text_laws.proofs.a_text_fails_at_one_line.Goals as goal

pub returns : goal.returns
returns c = one-line
