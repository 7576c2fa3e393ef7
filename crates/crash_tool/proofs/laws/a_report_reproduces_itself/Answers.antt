use Rattle.std.proofs.Common.{ap, ◌∙◌}
use Rattle.elf32.specs.Loads.{loaded_program}
use Rattle.report_laws.specs.Made.{first_input}
use Rattle.report_laws.proofs.ClassLemmas.{input_comes_first, input_has_trace}
use Rattle.crash_tool.specs.Made.{transcript_under}
use Rattle.crash_tool.specs.Outcome.{outcome}
use Rattle.crash_tool.proofs.laws.a_report_reproduces_itself.Goals as goal

pub returns : goal.returns
returns c = record {
  same = λ p x o bytes.
      ap (λ n. outcome p o n (transcript_under p o (first_input (loaded_program p) o.seed o.steps (transcript_under p o x)))) (input_comes_first (loaded_program p) o.seed o.steps x bytes).is_input.long
      ∙ ap (outcome p o _) (input_has_trace (loaded_program p) o.seed o.steps x bytes);
}
