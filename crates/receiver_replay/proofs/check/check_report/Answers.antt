use Rattle.std.proofs.Common.{◌∙◌, ◌≡◌, ◌⊎◌, ap, inl, map, sym, subst, arith, length, Err, Ok, None}
use Rattle.std.proofs.lemmas.Result.{err_from_is_err_and}
use Rattle.elf32.specs.Loads.{loaded_program}
use Rattle.rv_machine.specs.Trace.{transcript_of}
use Rattle.byte_sets.specs.ByteSet.{has}
use Rattle.report_format.specs.Text.{content_of}
use Rattle.report_format.proofs.LineLemmas.{choice-bytes}
use Rattle.report_maker.specs.declared.error.ReportError.TheVariants as report
use Rattle.report_maker.specs.Made.{made, made_value}
use Rattle.receiver_replay.proofs.CompareLemmas.{are_bytes, has_its_length, names_rule, another, not_made, compared, right}
use Rattle.receiver_replay.proofs.check.check_report.Goals as goal

pub made-requires-clause-short : goal.made-requires-clause-short
made-requires-clause-short c =
    omega (arith, has_its_length c.args.program.now (content_of c.args.report.now) (sym c.is_its_program.ensures ∙ c.if-not-is_its_program.false), c.args.report.now.program_length)

pub made-requires-clause-few : goal.made-requires-clause-few
made-requires-clause-few c = omega (arith, ap length c.as_slice.ensures, c.args.report.now.input_length)

pub returns-then-not-is_its_program-clause-checked : goal.returns-then-not-is_its_program-clause-checked
returns-then-not-is_its_program-clause-checked c =
    another c.args.program.now (content_of c.args.report.now) c.args.steps c.args.conflicts (sym c.is_its_program.ensures ∙ c.if-not-is_its_program.true)

pub returns-in_err-anew-clause-checked : goal.returns-in_err-anew-clause-checked
returns-in_err-anew-clause-checked c =
    let p = err_from_is_err_and c.from_residual.result c.from_residual.ensures.1 in
    rw p.1 (not_made c.args.program.now (content_of c.args.report.now) c.args.steps c.args.conflicts (sym c.is_its_program.ensures ∙ c.if-not-is_its_program.false)
    c.in_err-anew.field-0.0 p.0 p.2
    (subst (λ y. (made c.args.program.now c.args.report.now.seed c.args.steps c.args.conflicts (transcript_of (loaded_program c.args.program.now) y c.args.steps) ≡ Err c.in_err-anew.field-0.0) ⊎ (c.in_err-anew.field-0.0 ≡ report.NoMemory))
    c.as_slice.ensures c.in_err-anew.ensures.refused))

pub returns-in_err-anew-clause-rules : goal.returns-in_err-anew-clause-rules
returns-in_err-anew-clause-rules c =
    let p = err_from_is_err_and c.from_residual.result c.from_residual.ensures.1 in
    rw (p.1, p.2) (names_rule c.in_err-anew.field-0.0 c.in_err-anew.ensures.rules)

pub returns-in-Some-clause-checked : goal.returns-in-Some-clause-checked
returns-in-Some-clause-checked c =
    inl (sym (compared c.args.program.now (content_of c.args.report.now) c.args.steps c.args.conflicts (sym c.is_its_program.ensures ∙ c.if-not-is_its_program.false)
    (made_value c.in_ok-anew.anew)
    (subst (λ y. made c.args.program.now c.args.report.now.seed c.args.steps c.args.conflicts (transcript_of (loaded_program c.args.program.now) y c.args.steps) ≡ Ok (made_value c.in_ok-anew.anew)) c.as_slice.ensures c.in_ok-anew.ensures.made)
    _ (sym c.in-Some.is ∙ c.in_ok-line.ensures (content_of c.args.report.now) c.requires.text)))

pub returns-clause-checked : goal.returns-clause-checked
returns-clause-checked c =
    inl (sym (compared c.args.program.now (content_of c.args.report.now) c.args.steps c.args.conflicts (sym c.is_its_program.ensures ∙ c.if-not-is_its_program.false)
    (made_value c.in_ok-anew.anew)
    (subst (λ y. made c.args.program.now c.args.report.now.seed c.args.steps c.args.conflicts (transcript_of (loaded_program c.args.program.now) y c.args.steps) ≡ Ok (made_value c.in_ok-anew.anew)) c.as_slice.ensures c.in_ok-anew.ensures.made)
    None (sym c.in-None.is ∙ c.in_ok-line.ensures (content_of c.args.report.now) c.requires.text)))

pub returns-clause-right : goal.returns-clause-right
returns-clause-right c =
    right c.args.program.now (content_of c.args.report.now) c.args.steps c.args.conflicts (sym c.is_its_program.ensures ∙ c.if-not-is_its_program.false)
    (made_value c.in_ok-anew.anew)
    (subst (λ y. made c.args.program.now c.args.report.now.seed c.args.steps c.args.conflicts (transcript_of (loaded_program c.args.program.now) y c.args.steps) ≡ Ok (made_value c.in_ok-anew.anew)) c.as_slice.ensures c.in_ok-anew.ensures.made)
    (choice-bytes (map has c.args.report.now.sets) c.args.report.now.input c.args.report.now.input_in_sets)
    c.reports_are_in_range.ensures c.in_ok-anew.ensures.range (sym c.in-None.is ∙ c.in_ok-line.ensures (content_of c.args.report.now) c.requires.text)
    (λ x trap low unbroken end. c.a_report_of_a_run_is_right.ensures c.args.program.now x c.args.report.now.seed c.args.steps trap (are_bytes c.args.program.now c.type_inv.program) low unbroken end)
