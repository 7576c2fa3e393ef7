use Rattle.std.proofs.Common.{◌≤◌, ◌∙◌, sym, ap, subst, length, map, arith}
use Rattle.std.specs.Prelude.{All}
use Rattle.std.proofs.lemmas.Result.{err_from_is_err_and}
use Rattle.elf32.specs.Loads.{loaded_program}
use Rattle.input_laws.specs.Inputs.{IsInput}
use Rattle.byte_sets.specs.ByteSet.{has}
use Rattle.elf32.proofs.Accepted.{same_program}
use Rattle.replay_law.specs.Crash.{IsProgram}
use Rattle.report_laws.specs.Filled.{IsOpen}
use Rattle.report_laws.proofs.RangeLemmas.{crash_has_events}
use Rattle.report_maker.proofs.FilledLemmas.{are_bytes}
use Rattle.report_maker.proofs.MadeLemmas.{image_gives_program, divided_along, report_is, choice_along, none_is_spent, first_is_named, counted_is, filled_by_mask, named_by_error}
use Rattle.report_maker.proofs.maker.make_report.Goals as goal

pub divide-requires-clause-program : goal.divide-requires-clause-program
divide-requires-clause-program c =
    subst IsProgram (sym (same_program c.args.image.now c.args.program.now c.requires.entry c.requires.segments))
    (image_gives_program c.args.image.now c.args.program.now (are_bytes c.args.program.now c.type_inv.program) c.requires.entry)

pub fill_all-requires-clause-few : goal.fill_all-requires-clause-few
fill_all-requires-clause-few c =
    let small : length c.as_slice-groups.result.now ≤ c.args.transcript.now.n = c.groups_make_the_report.ensures.few (loaded_program c.args.program.now) c.args.transcript.now c.divide.new.arena c.as_slice-groups.result.now
    (divided_along c.args.image.now c.args.program.now c.args.transcript.now c.divide.new.arena c.in_ok-divided.divided c.as_slice-groups.result.now
    c.requires.entry c.requires.segments c.as_slice-groups.ensures c.in_ok-divided.ensures) in
    let few : c.args.transcript.now.n ≤ 65536 = c.requires.few in
    omega arith

pub fill_all-requires-clause-open : goal.fill_all-requires-clause-open
fill_all-requires-clause-open c =
    let few : c.args.transcript.now.n ≤ 65536 = c.requires.few in
    subst (λ k. All (IsOpen c.divide.new.arena k) c.as_slice-groups.result.now) (sym (ap length c.as_slice.ensures ∙ c.in_ok-mask.ensures.input.long))
    (c.groups_make_the_report.ensures.open (loaded_program c.args.program.now) c.requires.traced.0 c.requires.traced.1 c.args.transcript.now c.divide.new.arena c.as_slice-groups.result.now (image_gives_program c.args.image.now c.args.program.now (are_bytes c.args.program.now c.type_inv.program) c.requires.entry) c.requires.traced.2
    (divided_along c.args.image.now c.args.program.now c.args.transcript.now c.divide.new.arena c.in_ok-divided.divided c.as_slice-groups.result.now
    c.requires.entry c.requires.segments c.as_slice-groups.ensures c.in_ok-divided.ensures) (omega arith))

pub fill_all-requires-clause-apart : goal.fill_all-requires-clause-apart
fill_all-requires-clause-apart c =
    (divided_along c.args.image.now c.args.program.now c.args.transcript.now c.divide.new.arena c.in_ok-divided.divided c.as_slice-groups.result.now
    c.requires.entry c.requires.segments c.as_slice-groups.ensures c.in_ok-divided.ensures).are.apart

pub returns-in_err-filled-clause-spent : goal.returns-in_err-filled-clause-spent
returns-in_err-filled-clause-spent c = λ first width is.
    let p = err_from_is_err_and c.from_residual-in_err-filled.result c.from_residual-in_err-filled.ensures.1 in
    first_is_named (loaded_program c.args.program.now) c.args.seed c.args.transcript.now c.divide.new.arena c.as_slice-groups.result.now c.as_slice.result.now (c.as_slice.ensures ∙ c.in_ok-mask.ensures.bytes) c.args.budget c.in_err-filled.field-0.0
    (c.groups_make_the_report.ensures.spent (loaded_program c.args.program.now) c.args.seed c.args.transcript.now c.divide.new.arena c.as_slice-groups.result.now c.args.budget
    (divided_along c.args.image.now c.args.program.now c.args.transcript.now c.divide.new.arena c.in_ok-divided.divided c.as_slice-groups.result.now
    c.requires.entry c.requires.segments c.as_slice-groups.ensures c.in_ok-divided.ensures)) c.in_err-filled.ensures.spent first width
    (sym p.2 ∙ named_by_error c.from_residual-in_err-filled.result p.0 first width p.1 is)

pub report_with-report-requires-clause-few : goal.report_with-report-requires-clause-few
report_with-report-requires-clause-few c =
    omega (arith, c.in_ok-filled.ensures.input.long, ap length c.as_slice.ensures, c.in_ok-mask.ensures.input.long, c.requires.few)

pub report_with-report-requires-clause-some : goal.report_with-report-requires-clause-some
report_with-report-requires-clause-some c = crash_has_events (loaded_program c.args.program.now) c.requires.traced.0 c.requires.traced.1 c.args.transcript.now c.requires.traced.2

pub report_with-report-requires-clause-trapped : goal.report_with-report-requires-clause-trapped
report_with-report-requires-clause-trapped c = c.requires.traced.2.trapped

pub report_with-report-requires-clause-choice : goal.report_with-report-requires-clause-choice
report_with-report-requires-clause-choice c =
    choice_along (loaded_program c.args.program.now) c.args.seed c.requires.traced.0 c.args.transcript.now c.in_ok-filled.filled.input.items (map has c.in_ok-filled.filled.sets.items)
    (c.groups_make_the_report.ensures.input (loaded_program c.args.program.now) c.args.seed c.requires.traced.0 c.requires.traced.1 c.args.transcript.now c.divide.new.arena c.as_slice-groups.result.now c.in_ok-filled.filled.input.items (map has c.in_ok-filled.filled.sets.items) (image_gives_program c.args.image.now c.args.program.now (are_bytes c.args.program.now c.type_inv.program) c.requires.entry) c.requires.traced.2
    (divided_along c.args.image.now c.args.program.now c.args.transcript.now c.divide.new.arena c.in_ok-divided.divided c.as_slice-groups.result.now
    c.requires.entry c.requires.segments c.as_slice-groups.ensures c.in_ok-divided.ensures)
    (subst (λ k. IsInput k c.in_ok-filled.filled.input.items) (ap length c.as_slice.ensures ∙ c.in_ok-mask.ensures.input.long) c.in_ok-filled.ensures.input)
    (filled_by_mask (loaded_program c.args.program.now) c.args.seed c.args.transcript.now c.divide.new.arena c.as_slice-groups.result.now c.as_slice.result.now (c.as_slice.ensures ∙ c.in_ok-mask.ensures.bytes) c.in_ok-filled.filled.input.items (map has c.in_ok-filled.filled.sets.items) c.in_ok-filled.ensures.filled))
    (c.groups_make_the_report.ensures.sets (loaded_program c.args.program.now) c.args.seed c.requires.traced.0 c.requires.traced.1 c.args.transcript.now c.divide.new.arena c.as_slice-groups.result.now c.in_ok-filled.filled.input.items (map has c.in_ok-filled.filled.sets.items) (image_gives_program c.args.image.now c.args.program.now (are_bytes c.args.program.now c.type_inv.program) c.requires.entry) c.requires.traced.2
    (divided_along c.args.image.now c.args.program.now c.args.transcript.now c.divide.new.arena c.in_ok-divided.divided c.as_slice-groups.result.now
    c.requires.entry c.requires.segments c.as_slice-groups.ensures c.in_ok-divided.ensures)
    (subst (λ k. IsInput k c.in_ok-filled.filled.input.items) (ap length c.as_slice.ensures ∙ c.in_ok-mask.ensures.input.long) c.in_ok-filled.ensures.input)
    (filled_by_mask (loaded_program c.args.program.now) c.args.seed c.args.transcript.now c.divide.new.arena c.as_slice-groups.result.now c.as_slice.result.now (c.as_slice.ensures ∙ c.in_ok-mask.ensures.bytes) c.in_ok-filled.filled.input.items (map has c.in_ok-filled.filled.sets.items) c.in_ok-filled.ensures.filled))
    (c.choices_have_the_trace.ensures.own (loaded_program c.args.program.now) c.args.seed c.requires.traced.0 c.requires.traced.1 c.args.transcript.now (image_gives_program c.args.image.now c.args.program.now (are_bytes c.args.program.now c.type_inv.program) c.requires.entry) c.requires.traced.2)

pub overflow_cast-result : goal.overflow_cast-result
overflow_cast-result c =
    let small : length c.as_slice-groups.result.now ≤ c.args.transcript.now.n = c.groups_make_the_report.ensures.few (loaded_program c.args.program.now) c.args.transcript.now c.divide.new.arena c.as_slice-groups.result.now
    (divided_along c.args.image.now c.args.program.now c.args.transcript.now c.divide.new.arena c.in_ok-divided.divided c.as_slice-groups.result.now
    c.requires.entry c.requires.segments c.as_slice-groups.ensures c.in_ok-divided.ensures) in
    let few : c.args.transcript.now.n ≤ 65536 = c.requires.few in
    omega arith

pub returns-clause-report : goal.returns-clause-report
returns-clause-report c = λ limit x trap traced ended.
    report_is c.args.program.now c.args.seed limit c.args.transcript.now trap _ c.in_ok-filled.filled.input.items (map has c.in_ok-filled.filled.sets.items) (c.report_with-report.ensures.says trap ended)
    (c.groups_make_the_report.ensures.input (loaded_program c.args.program.now) c.args.seed limit x c.args.transcript.now c.divide.new.arena c.as_slice-groups.result.now c.in_ok-filled.filled.input.items (map has c.in_ok-filled.filled.sets.items) (image_gives_program c.args.image.now c.args.program.now (are_bytes c.args.program.now c.type_inv.program) c.requires.entry) traced
    (divided_along c.args.image.now c.args.program.now c.args.transcript.now c.divide.new.arena c.in_ok-divided.divided c.as_slice-groups.result.now
    c.requires.entry c.requires.segments c.as_slice-groups.ensures c.in_ok-divided.ensures)
    (subst (λ k. IsInput k c.in_ok-filled.filled.input.items) (ap length c.as_slice.ensures ∙ c.in_ok-mask.ensures.input.long) c.in_ok-filled.ensures.input)
    (filled_by_mask (loaded_program c.args.program.now) c.args.seed c.args.transcript.now c.divide.new.arena c.as_slice-groups.result.now c.as_slice.result.now (c.as_slice.ensures ∙ c.in_ok-mask.ensures.bytes) c.in_ok-filled.filled.input.items (map has c.in_ok-filled.filled.sets.items) c.in_ok-filled.ensures.filled))
    (c.groups_make_the_report.ensures.sets (loaded_program c.args.program.now) c.args.seed limit x c.args.transcript.now c.divide.new.arena c.as_slice-groups.result.now c.in_ok-filled.filled.input.items (map has c.in_ok-filled.filled.sets.items) (image_gives_program c.args.image.now c.args.program.now (are_bytes c.args.program.now c.type_inv.program) c.requires.entry) traced
    (divided_along c.args.image.now c.args.program.now c.args.transcript.now c.divide.new.arena c.in_ok-divided.divided c.as_slice-groups.result.now
    c.requires.entry c.requires.segments c.as_slice-groups.ensures c.in_ok-divided.ensures)
    (subst (λ k. IsInput k c.in_ok-filled.filled.input.items) (ap length c.as_slice.ensures ∙ c.in_ok-mask.ensures.input.long) c.in_ok-filled.ensures.input)
    (filled_by_mask (loaded_program c.args.program.now) c.args.seed c.args.transcript.now c.divide.new.arena c.as_slice-groups.result.now c.as_slice.result.now (c.as_slice.ensures ∙ c.in_ok-mask.ensures.bytes) c.in_ok-filled.filled.input.items (map has c.in_ok-filled.filled.sets.items) c.in_ok-filled.ensures.filled))

pub returns-clause-groups : goal.returns-clause-groups
returns-clause-groups c = c.groups_make_the_report.ensures.number (loaded_program c.args.program.now) c.args.transcript.now c.divide.new.arena c.as_slice-groups.result.now
    (divided_along c.args.image.now c.args.program.now c.args.transcript.now c.divide.new.arena c.in_ok-divided.divided c.as_slice-groups.result.now
    c.requires.entry c.requires.segments c.as_slice-groups.ensures c.in_ok-divided.ensures)

pub returns-clause-conflicts : goal.returns-clause-conflicts
returns-clause-conflicts c =
    counted_is (loaded_program c.args.program.now) c.args.seed c.args.transcript.now c.divide.new.arena c.as_slice-groups.result.now c.as_slice.result.now (c.as_slice.ensures ∙ c.in_ok-mask.ensures.bytes) c.in_ok-filled.filled.conflicts
    (c.groups_make_the_report.ensures.conflicts (loaded_program c.args.program.now) c.args.seed c.args.transcript.now c.divide.new.arena c.as_slice-groups.result.now
    (divided_along c.args.image.now c.args.program.now c.args.transcript.now c.divide.new.arena c.in_ok-divided.divided c.as_slice-groups.result.now
    c.requires.entry c.requires.segments c.as_slice-groups.ensures c.in_ok-divided.ensures)) c.in_ok-filled.ensures.count

pub returns-clause-unspent : goal.returns-clause-unspent
returns-clause-unspent c =
    none_is_spent (loaded_program c.args.program.now) c.args.seed c.args.transcript.now c.divide.new.arena c.as_slice-groups.result.now c.as_slice.result.now (c.as_slice.ensures ∙ c.in_ok-mask.ensures.bytes) c.args.budget
    (c.groups_make_the_report.ensures.spent (loaded_program c.args.program.now) c.args.seed c.args.transcript.now c.divide.new.arena c.as_slice-groups.result.now c.args.budget
    (divided_along c.args.image.now c.args.program.now c.args.transcript.now c.divide.new.arena c.in_ok-divided.divided c.as_slice-groups.result.now
    c.requires.entry c.requires.segments c.as_slice-groups.ensures c.in_ok-divided.ensures)) c.in_ok-filled.ensures.unspent
