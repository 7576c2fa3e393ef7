use Rattle.text_lines.specs.Lines.{passing}
use Rattle.text_lines.proofs.FormLaws.{is_or_fails, lines_or_fails, lines_once, fails_once}
use Rattle.text_lines.proofs.laws.a_text_is_lines_or_fails_at_one_line.Goals as goal

pub returns-clause-some : goal.returns-clause-some
returns-clause-some c = is_or_fails

pub returns-clause-either : goal.returns-clause-either
returns-clause-either c = λ test unbroken. lines_or_fails (passing test) unbroken

pub returns-clause-one : goal.returns-clause-one
returns-clause-one c = λ test unbroken. lines_once (passing test) unbroken

pub returns-clause-once : goal.returns-clause-once
returns-clause-once c = λ test unbroken. fails_once (passing test) unbroken
