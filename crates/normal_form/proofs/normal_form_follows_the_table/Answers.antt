use Rattle.normal_form.proofs.NormLemmas.{norm-is, made-is}
use Rattle.normal_form.proofs.normal_form_follows_the_table.Goals as goal

pub returns-clause-follows : goal.returns-clause-follows
returns-clause-follows c = norm-is

pub returns-clause-only : goal.returns-clause-only
returns-clause-only c = made-is
