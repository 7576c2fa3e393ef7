use Rattle.std.proofs.Common.{refl}
use Rattle.text_lines.proofs.LineLemmas.{none_unended}
use Rattle.report_format.proofs.lines.take_line.Goals as goal

pub returns-in_default-clause-err : goal.returns-in_default-clause-err
returns-in_default-clause-err c = (refl, none_unended (λ _. Unit {0}) _ (c.in_default.ensures.none refl))
