use Rattle.elf32.specs.Loads.{loaded_program}
use Rattle.rv_machine.specs.Trace.{transcript_of}
use Rattle.report_laws.proofs.RangeLemmas.{crash}
use Rattle.receiver_replay.proofs.RightLemmas.{right_of_run}
use Rattle.receiver_replay.proofs.laws.a_report_of_a_run_is_right.Goals as goal

pub returns : goal.returns
returns c = λ p x seed limit trap low_p low unbroken end.
    let is = c.files_are_programs.ensures p low_p unbroken in
    let crashed = crash (loaded_program p) limit x trap low end in
    right_of_run p x seed limit trap low unbroken end
    (c.choices_have_the_trace.ensures.choices (loaded_program p) seed limit x (transcript_of (loaded_program p) x limit) is crashed)
    (c.revealed_bounds_the_class.ensures (loaded_program p) seed limit x (transcript_of (loaded_program p) x limit) is crashed)
