use Rattle.elf32.specs.Loads.{loaded_program}
use Rattle.rv_machine.specs.Trace.{transcript_of}
use Rattle.report_laws.proofs.RangeLemmas.{entry_fits, segments_of_bytes, crash, report_in_range}
use Rattle.report_laws.proofs.reports_of_runs_are_in_range.Goals as goal

pub returns : goal.returns
returns c = λ p x seed limit trap low_p low unbroken short few most fits end.
    let is = c.files_are_programs.ensures p low_p unbroken in
    let crashed = crash (loaded_program p) limit x trap low end in
    report_in_range p x seed limit trap low short few most fits crashed
    (c.traps_are_of_words.ensures (loaded_program p) x limit trap (entry_fits p low_p) is.aligned (segments_of_bytes (loaded_program p) is) low end)
    (c.sets_have_bytes_alone.ensures _ _)
    (c.choices_have_the_trace.ensures.own (loaded_program p) seed limit x (transcript_of (loaded_program p) x limit) is crashed)
