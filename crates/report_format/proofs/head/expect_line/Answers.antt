use Rattle.std.proofs.Common.{◌≡◌, ◌∙◌, true, not, true≢false, List, ℕ, ap, sym, subst}
use Rattle.std.specs.Str.{bytes_eq}
use Rattle.std.proofs.lemmas.Slice.Eq.{bytes_eq-Decides}
use Rattle.text_lines.specs.Lines.{Unbroken}
use Rattle.report_format.proofs.StageLemmas.{refused}
use Rattle.report_format.proofs.head.expect_line.Goals as goal

differ : (xs ys : List ℕ) → true ≡ not (bytes_eq xs ys) → xs ≡ ys → ⊥
differ xs ys e same =
    let equal : bytes_eq xs ys ≡ true = (bytes_eq-Decides xs ys).1 same in
    true≢false (e ∙ ap not equal)

pub returns-then-ne-clause-err : goal.returns-then-ne-clause-err
returns-then-ne-clause-err c =
    refused (λ l. l ≡ c.args.expected.now) c.in_ok-line.line.now c.args.lines.now c.take_line.new.lines c.in_ok-line.ensures.ok.0 c.in_ok-line.ensures.ok.1
    (λ l is. subst Unbroken (sym is) c.requires.unbroken) (λ is. differ _ _ c.if-ne.ensures is)
