use Rattle.std.proofs.Common.{◌∙◌}
use Rattle.report_format.specs.Text.{content_of}
use Rattle.receiver_replay.proofs.TextLemmas.{few_lines, by_lines}
use Rattle.receiver_replay.proofs.difference.first_difference.Goals as goal

pub differing_line-requires : goal.differing_line-requires
differing_line-requires c = record {
  few = few_lines c.requires.text.0 c.args.text.now c.requires.text.1.report c.requires.text.1.written;
}

pub returns : goal.returns
returns c = λ content is.
    by_lines content (content_of c.args.other.now) c.args.text.now c.as_slice.result.now c.differing_line.result is.report c.reports_are_in_range.ensures
    is.written (c.as_slice.ensures ∙ c.in_ok-others.ensures) c.differing_line.ensures
