use Rattle.std.proofs.Common.{◌≡◌, ◌∙◌, map, length, vec_len, ap, sym, refl, arith, subst}
use Rattle.std.proofs.lemmas.Result.{err_from_is_err_and}
use Rattle.std.proofs.lemmas.List.{length-map}
use Rattle.std.specs.Prelude.{codes}
use Rattle.std.proofs.lemmas.Slice.Eq.{starts_is}
use Rattle.std.proofs.lemmas.Bool.Decides.{Decides-eqb}
use Rattle.byte_sets.specs.ByteSet.{has}
use Rattle.text_lines.specs.Lines.{ComesNo}
use Rattle.report_format.specs.Stages.{FitsSets, IsSetLine}
use Rattle.report_format.proofs.LineLemmas.{count-small}
use Rattle.report_format.proofs.StageLemmas.{refusal-at}
use Rattle.report_format.proofs.SetReading.{after-data, sets-fail, sets-step, told-choice, filled-choice}
use Rattle.report_format.proofs.sets.read_sets.Goals as goal

pub loop-lines-init : goal.loop-lines-init
loop-lines-init c =
    let at = c.args.lines.now in
    record { text = refl; after = rw c.new-sets.ensures.items (after-data c.args.head.now c.args.input.now at.text.now at.rest.now at.count c.requires.long c.requires.after) }

pub take_set-requires-clause-count : goal.take_set-requires-clause-count
take_set-requires-clause-count c =
    let at = c.loop-lines.lines in
    omega (arith, count-small (FitsSets c.args.head.now c.args.input.now (map has c.loop-lines.sets.items)) at.text.now at.rest.now at.count c.loop-lines.invariant.after)

pub loop-lines-preserved : goal.loop-lines-preserved
loop-lines-preserved c =
    let told = c.in_ok-take_set.ensures.ok in
    let at = c.loop-lines.lines in
    let grown = sets-step c.args.head.now c.args.input.now (map has c.loop-lines.sets.items) at.text.now at.rest.now _ at.count told.place told.set c.requires.head c.requires.long c.loop-lines.invariant.after told.told told.takes.parts in
    record {
      text = told.takes.text ∙ c.loop-lines.invariant.text;
      after = rw (told.added, ap (λ b. b.now) told.takes.text, told.takes.counted) grown;
    }

pub returns-in_err-take_set-clause-err : goal.returns-in_err-take_set-clause-err
returns-in_err-take_set-clause-err c =
    let at = c.loop-lines.lines in
    let told = map has c.loop-lines.sets.items in
    let long : length told ≡ vec_len c.loop-lines.sets = simp length-map (omega (arith, c.loop-lines.sets.ok.0)) in
    let t : at.text.now ≡ c.args.lines.now.text.now = ap (λ b. b.now) c.loop-lines.invariant.text in
    let p = err_from_is_err_and c.from_residual.result c.from_residual.ensures.1 in
    rw (p.1, p.2, ← t) (refusal-at at.text.now (IsSetLine c.args.input.now (vec_len c.loop-lines.sets)) at _ c.in_err-take_set.ensures.err
    (λ none. sets-fail c.args.head.now c.args.input.now told at.text.now at.rest.now _ at.count c.loop-lines.invariant.after
    ((starts_is Decides-eqb at.rest.now (codes "set ") c.starts_with.result c.starts_with.ensures.value).0 c.loop-lines-test.true) (subst (λ n. ComesNo (IsSetLine c.args.input.now n) at.rest.now) (sym long) none)))

pub fill_to-requires : goal.fill_to-requires
fill_to-requires c =
    let at = c.loop-lines.lines in
    let told = map has c.loop-lines.sets.items in
    let long : length told ≡ vec_len c.loop-lines.sets = simp length-map (omega (arith, c.loop-lines.sets.ok.0)) in
    let so_far = told-choice c.args.head.now c.args.input.now told at.text.now at.rest.now at.count c.loop-lines.invariant.after in
    omega (arith, long, so_far.0)

pub returns-clause-choice : goal.returns-clause-choice
returns-clause-choice c =
    let at = c.loop-lines.lines in
    let told = map has c.loop-lines.sets.items in
    let long : length told ≡ vec_len c.loop-lines.sets = simp length-map (omega (arith, c.loop-lines.sets.ok.0)) in
    let so_far = told-choice c.args.head.now c.args.input.now told at.text.now at.rest.now at.count c.loop-lines.invariant.after in
    rw (c.in_ok-fill_to.ensures, ← long) (filled-choice c.args.input.now told so_far.0 so_far.3 so_far.1)
