use Rattle.std.proofs.Common.{get_or, arith}
use Rattle.std.proofs.lemmas.List.Elements.{All-map}
use Rattle.input_laws.specs.Sets.{IsByteSet}
use Rattle.byte_sets.specs.ByteSet.{has}
use Rattle.byte_sets.proofs.Bits.{low}
use Rattle.report_format.proofs.laws.reports_are_in_range.Goals as goal

pub returns : goal.returns
returns c = record {
  program_length = c.args.report.now.program_length;
  digest_length = omega arith;
  digest_bytes = c.bytes_are_small.ensures;
  trap_pc = c.words_are_small.ensures.pc;
  trap_value = c.words_are_small.ensures.value;
  some_steps = c.args.report.now.some_steps;
  most_steps = c.args.report.now.most_steps;
  seed = c.words_are_small.ensures.seed;
  input_length = c.args.report.now.input_length;
  sets_of_bytes = All-map IsByteSet has c.args.report.now.sets (λ i d lt. low (get_or c.args.report.now.sets i d));
  input_in_sets = c.args.report.now.input_in_sets;
}
