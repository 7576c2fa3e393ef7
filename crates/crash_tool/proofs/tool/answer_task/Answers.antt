use Rattle.std.proofs.Common.{arith}
use Rattle.std.proofs.lemmas.Result.{err_from_is_err_and}
use Rattle.tool_words.specs.Words.{task_value}
use Rattle.crash_tool.proofs.AnswerLemmas.{second-refused}
use Rattle.crash_tool.proofs.tool.answer_task.Goals as goal

pub returns-in_err-second-clause-told : goal.returns-in_err-second-clause-told
returns-in_err-second-clause-told g c =
    let p = err_from_is_err_and c.from_residual-in_err-second.result c.from_residual-in_err-second.ensures.1 in
    rw (p.1, p.2) (second-refused (task_value c.args.task.now) _ _ c.in_ok-program.program _ _ _ c.in_err-second.field-0.0 c.in_ok-program.ensures.told c.in_ok-program.ensures.files
    (rw c.role_of.ensures at c.in_err-second.ensures.told) (λ rose. omega (arith, rose, c.in_ok-program.ensures.counts)))
