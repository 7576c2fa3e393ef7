use Rattle.crash_tool.proofs.OneAnswer.{one_answer}
use Rattle.crash_tool.proofs.laws.words_and_files_have_one_answer.Goals as goal

pub returns : goal.returns
returns c = one_answer c.a_text_has_one_report.ensures.text c.a_text_fails_at_one_line.ensures c.code_has_one_file.ensures.file
