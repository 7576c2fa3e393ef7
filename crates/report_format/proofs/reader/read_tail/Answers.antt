use Rattle.std.proofs.Common.{◌≡◌, ◌∙◌, ◌≤◌, ℕ, List, [], ◌∷◌, ◌++◌, map, length, get_or, ap, sym, refl, rules, arith, subst}
use Rattle.std.specs.Prelude.{codes}
use Rattle.std.proofs.lemmas.Result.{err_from_is_err_and}
use Rattle.std.proofs.lemmas.List.Elements.{All-map}
use Rattle.input_laws.specs.Sets.{IsByteSet}
use Rattle.input_laws.proofs.Freed.{filled}
use Rattle.byte_sets.proofs.Bits.{low}
use Rattle.byte_sets.specs.ByteSet.{has}
use Rattle.text_lines.specs.Lines.{Unbroken}
use Rattle.report_format.specs.Text.{revealed_line}
use Rattle.report_format.specs.Stages.{IsAfter, FitsSets, FitsTail}
use Rattle.report_format.proofs.ChoiceLemmas.{choice-filled, choice-length}
use Rattle.report_format.proofs.LineLemmas.{count-small}
use Rattle.report_format.proofs.StageLemmas.{refusal-at}
use Rattle.report_format.proofs.TailLemmas.{tail-fails, tail-step, end-fails, end-step, over-fails, all-read, only-report, revealed-unbroken}
use Rattle.report_format.proofs.reader.read_tail.Goals as goal

no_more : (xs : List ℕ) → length xs ≤ 0 → xs ≡ []
no_more [] few = refl
no_more (x ∷ xs) few = absurd (omega arith)

pub format_revealed-requires-clause-filled : goal.format_revealed-requires-clause-filled
format_revealed-requires-clause-filled c = choice-filled filled c.args.sets.now c.args.input.now c.requires.choice

pub format_revealed-requires-clause-few : goal.format_revealed-requires-clause-few
format_revealed-requires-clause-few c = omega (arith, choice-length c.args.sets.now c.args.input.now c.requires.choice, c.requires.long, c.requires.head.input_length)

pub format_revealed-requires-clause-one_each : goal.format_revealed-requires-clause-one_each
format_revealed-requires-clause-one_each c = choice-length c.args.sets.now c.args.input.now c.requires.choice

pub expect_line-requires-clause-count : goal.expect_line-requires-clause-count
expect_line-requires-clause-count c =
    let past = c.requires.past in
    let of = c.args.head.now in
    let input = c.args.input.now in
    let sets = map has c.args.sets.now in
    let at = c.args.lines.now in
    omega (arith, count-small (FitsSets of input past.told) at.text.now at.rest.now at.count past.stands)

pub expect_line-requires-clause-unbroken : goal.expect_line-requires-clause-unbroken
expect_line-requires-clause-unbroken c =
    let input = c.args.input.now in
    let sets = map has c.args.sets.now in
    let shown : c.as_bytes.result.now ≡ revealed_line sets input = search rules in
    subst Unbroken (sym shown) (revealed-unbroken sets input (omega (arith, c.requires.long, c.requires.head.input_length)) c.requires.choice)

pub returns-in_err-expect_line-clause-err : goal.returns-in_err-expect_line-clause-err
returns-in_err-expect_line-clause-err c =
    let past = c.requires.past in
    let of = c.args.head.now in
    let input = c.args.input.now in
    let sets = map has c.args.sets.now in
    let at = c.args.lines.now in
    let shown : c.as_bytes.result.now ≡ revealed_line sets input = search rules in
    let p = err_from_is_err_and c.from_residual-in_err-expect_line.result c.from_residual-in_err-expect_line.ensures.1 in
    rw (p.1, p.2) (refusal-at at.text.now (λ l. l ≡ c.as_bytes.result.now) at _ c.in_err-expect_line.ensures.err
    (λ none. tail-fails of input sets past.told past.others past.sets_are c.requires.choice at.text.now at.rest.now at.count past.stands past.past (λ l more is. none l more (is ∙ sym shown))))

pub expect_line-requires-2-clause-count : goal.expect_line-requires-2-clause-count
expect_line-requires-2-clause-count c =
    let past = c.requires.past in
    let of = c.args.head.now in
    let input = c.args.input.now in
    let sets = map has c.args.sets.now in
    let at = c.args.lines.now in
    omega (arith, count-small (FitsSets of input past.told) at.text.now at.rest.now at.count past.stands, c.in_ok-expect_line.ensures.ok.counted)

pub returns-in_err-expect_line-2-clause-err : goal.returns-in_err-expect_line-2-clause-err
returns-in_err-expect_line-2-clause-err c =
    let past = c.requires.past in
    let of = c.args.head.now in
    let input = c.args.input.now in
    let sets = map has c.args.sets.now in
    let at = c.args.lines.now in
    let shown : c.as_bytes.result.now ≡ revealed_line sets input = search rules in
    let takes = c.in_ok-expect_line.ensures.ok in
    let follows : at.rest.now ≡ revealed_line sets input ++ (10 ∷ c.expect_line.new.lines.rest.now) = rw shown at takes.parts in
    let after : IsAfter (FitsTail of input sets (codes "end" ∷ [])) at.text.now c.expect_line.new.lines.rest.now c.expect_line.new.lines.count =
    rw takes.counted (tail-step of input sets past.told past.others past.sets_are c.requires.choice at.text.now at.rest.now c.expect_line.new.lines.rest.now at.count c.requires.head c.requires.long past.stands follows) in
    let p = err_from_is_err_and c.from_residual-in_err-expect_line-2.result c.from_residual-in_err-expect_line-2.ensures.1 in
    rw (p.1, p.2) (refusal-at at.text.now (λ l. l ≡ codes "end") c.expect_line.new.lines _ c.in_err-expect_line-2.ensures.err
    (λ none. end-fails of input sets at.text.now c.expect_line.new.lines.rest.now c.expect_line.new.lines.count after none))

pub overflow_add-result : goal.overflow_add-result
overflow_add-result c =
    let past = c.requires.past in
    let of = c.args.head.now in
    let input = c.args.input.now in
    let sets = map has c.args.sets.now in
    let at = c.args.lines.now in
    record { fits = omega (arith, count-small (FitsSets of input past.told) at.text.now at.rest.now at.count past.stands, c.in_ok-expect_line.ensures.ok.counted, c.in_ok-expect_line-2.ensures.ok.counted) }

pub returns-then-lines-gt0-clause-err : goal.returns-then-lines-gt0-clause-err
returns-then-lines-gt0-clause-err c =
    let past = c.requires.past in
    let of = c.args.head.now in
    let input = c.args.input.now in
    let sets = map has c.args.sets.now in
    let at = c.args.lines.now in
    let shown : c.as_bytes.result.now ≡ revealed_line sets input = search rules in
    let takes = c.in_ok-expect_line.ensures.ok in
    let follows : at.rest.now ≡ revealed_line sets input ++ (10 ∷ c.expect_line.new.lines.rest.now) = rw shown at takes.parts in
    let after : IsAfter (FitsTail of input sets (codes "end" ∷ [])) at.text.now c.expect_line.new.lines.rest.now c.expect_line.new.lines.count =
    rw takes.counted (tail-step of input sets past.told past.others past.sets_are c.requires.choice at.text.now at.rest.now c.expect_line.new.lines.rest.now at.count c.requires.head c.requires.long past.stands follows) in
    let last = c.in_ok-expect_line-2.ensures.ok in
    let over : IsAfter (FitsTail of input sets []) at.text.now c.expect_line-2.new.lines.rest.now c.expect_line-2.new.lines.count =
    rw last.counted (end-step of input sets at.text.now c.expect_line.new.lines.rest.now c.expect_line-2.new.lines.rest.now c.expect_line.new.lines.count after last.parts) in
    over-fails of input sets at.text.now c.expect_line-2.new.lines.rest.now c.expect_line-2.new.lines.count over (λ none. omega (arith, ap length none, c.if-lines-gt0.true))

pub returns-clause-ok : goal.returns-clause-ok
returns-clause-ok c =
    let past = c.requires.past in
    let of = c.args.head.now in
    let input = c.args.input.now in
    let sets = map has c.args.sets.now in
    let at = c.args.lines.now in
    let shown : c.as_bytes.result.now ≡ revealed_line sets input = search rules in
    let takes = c.in_ok-expect_line.ensures.ok in
    let follows : at.rest.now ≡ revealed_line sets input ++ (10 ∷ c.expect_line.new.lines.rest.now) = rw shown at takes.parts in
    let after : IsAfter (FitsTail of input sets (codes "end" ∷ [])) at.text.now c.expect_line.new.lines.rest.now c.expect_line.new.lines.count =
    rw takes.counted (tail-step of input sets past.told past.others past.sets_are c.requires.choice at.text.now at.rest.now c.expect_line.new.lines.rest.now at.count c.requires.head c.requires.long past.stands follows) in
    let last = c.in_ok-expect_line-2.ensures.ok in
    let over : IsAfter (FitsTail of input sets []) at.text.now c.expect_line-2.new.lines.rest.now c.expect_line-2.new.lines.count =
    rw last.counted (end-step of input sets at.text.now c.expect_line.new.lines.rest.now c.expect_line-2.new.lines.rest.now c.expect_line.new.lines.count after last.parts) in
    all-read of input sets at.text.now c.expect_line-2.new.lines.rest.now c.expect_line-2.new.lines.count c.requires.head c.requires.long
    (All-map IsByteSet has c.args.sets.now (λ i d lt. low (get_or c.args.sets.now i d))) c.requires.choice over (no_more _ c.if-lines-gt0.false)

pub returns-clause-only : goal.returns-clause-only
returns-clause-only c =
    let past = c.requires.past in
    let of = c.args.head.now in
    let input = c.args.input.now in
    let sets = map has c.args.sets.now in
    let at = c.args.lines.now in
    let shown : c.as_bytes.result.now ≡ revealed_line sets input = search rules in
    let takes = c.in_ok-expect_line.ensures.ok in
    let follows : at.rest.now ≡ revealed_line sets input ++ (10 ∷ c.expect_line.new.lines.rest.now) = rw shown at takes.parts in
    let after : IsAfter (FitsTail of input sets (codes "end" ∷ [])) at.text.now c.expect_line.new.lines.rest.now c.expect_line.new.lines.count =
    rw takes.counted (tail-step of input sets past.told past.others past.sets_are c.requires.choice at.text.now at.rest.now c.expect_line.new.lines.rest.now at.count c.requires.head c.requires.long past.stands follows) in
    let last = c.in_ok-expect_line-2.ensures.ok in
    let over : IsAfter (FitsTail of input sets []) at.text.now c.expect_line-2.new.lines.rest.now c.expect_line-2.new.lines.count =
    rw last.counted (end-step of input sets at.text.now c.expect_line.new.lines.rest.now c.expect_line-2.new.lines.rest.now c.expect_line.new.lines.count after last.parts) in
    only-report of input sets at.text.now c.expect_line-2.new.lines.rest.now c.expect_line-2.new.lines.count c.requires.head over (no_more _ c.if-lines-gt0.false)
