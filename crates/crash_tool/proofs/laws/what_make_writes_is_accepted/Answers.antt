use Rattle.crash_tool.proofs.WrittenLemmas.{written_is_accepted, file_is_accepted}
use Rattle.crash_tool.proofs.laws.what_make_writes_is_accepted.Goals as goal

pub returns : goal.returns
returns c = record {
  answer = written_is_accepted c.reports_of_runs_are_in_range.ensures c.a_report_that_is_made_is_accepted.ensures;
  files = file_is_accepted c.reports_of_runs_are_in_range.ensures c.a_report_that_is_made_is_accepted.ensures c.a_text_fits_a_file.ensures;
}
