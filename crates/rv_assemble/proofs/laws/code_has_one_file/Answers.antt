use Rattle.rv_assemble.proofs.Texts.{one_text, one_file}
use Rattle.rv_assemble.proofs.laws.code_has_one_file.Goals as goal

pub returns-clause-text : goal.returns-clause-text
returns-clause-text c = λ code a b. one_text a b code

pub returns-clause-file : goal.returns-clause-file
returns-clause-file c = one_file
