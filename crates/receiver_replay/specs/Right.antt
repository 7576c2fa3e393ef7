-- What holds of a report that was accepted.
use Rattle.std.specs.Prelude.{◌≡◌, ℕ, ◌≤◌, ◌*◌, ◌^◌, List, length, None}
use Rattle.elf32.specs.Rules.{refusal}
use Rattle.elf32.specs.Loads.{loaded_program}
use Rattle.rv_event.specs.declared.event.End.TheVariants as ends
use Rattle.rv_machine.specs.Trace.{transcript_of}
use Rattle.rv_machine.specs.Class.{in_class}
use Rattle.input_laws.specs.Inputs.{class_size}
use Rattle.input_laws.specs.Order.{IsFirst}
use Rattle.input_laws.specs.Sets.{IsChoice, revealed}
use Rattle.report_format.specs.Text.{Content}
use Rattle.report_laws.specs.Mask.{mask}
use Rattle.report_laws.specs.Made.{sets_of}
use Rattle.receiver_replay.specs.Received.{its_run}

-- Whoever wrote the report: the program's run on its input, for at most `limit` steps, has its trap and its number of steps;
-- of all inputs with that run, its input comes first under its seed; its sets are those of the run, so that every choice from
-- them has the run; and they bound the number of inputs with the run.
pub record IsRight (p : List ℕ) (report : Content) (limit : ℕ) : Type 0 where
  pub unbroken : refusal p ≡ None
  pub trap : (its_run p report limit).end ≡ ends.Trap report.trap
  pub steps : length (its_run p report limit).events ≡ report.steps
  pub first : IsFirst (length report.input) (mask report.seed (length report.input)) (in_class (loaded_program p) limit (its_run p report limit)) report.input
  pub sets : report.sets ≡ sets_of (loaded_program p) report.seed limit (its_run p report limit)
  pub choices : (y : List ℕ) → IsChoice report.sets y → transcript_of (loaded_program p) y limit ≡ its_run p report limit
  pub bound : 256 ^ length report.input ≤ class_size (in_class (loaded_program p) limit (its_run p report limit)) (length report.input) * 2 ^ revealed report.sets
