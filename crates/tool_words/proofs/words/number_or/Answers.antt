use Rattle.std.proofs.Common.{◌≡◌, ◌∙◌, ◌<◌, ◌^◌, refl, sym, arith}
use Rattle.std.specs.Fmt.{decimal}
use Rattle.tool_words.proofs.NumberLemmas.{number-read, number-outside, number-none}
use Rattle.tool_words.proofs.words.number_or.Goals as goal

pub returns-in_err-number-clause-number : goal.returns-in_err-number-clause-number
returns-in_err-number-clause-number c =
    rw c.in-Some.is (rw c.from_residual.ensures (sym (number-none c.args.least c.args.most c.in-Some.text.now (omega arith)
    (λ n small is. c.in_err-number.ensures.none refl n small (c.as_bytes.ensures.value ∙ is)))))

pub returns-then-number-least-clause-number : goal.returns-then-number-least-clause-number
returns-then-number-least-clause-number c =
    let spells = sym c.as_bytes.ensures.value ∙ c.in_ok-number.ensures.some in
    rw c.in-Some.is (sym (number-outside c.args.least c.args.most c.in_ok-number.number c.in-Some.text.now (omega arith) spells c.then-number-least.either))

pub returns-clause-number : goal.returns-clause-number
returns-clause-number c =
    let spells = sym c.as_bytes.ensures.value ∙ c.in_ok-number.ensures.some in
    rw c.in-Some.is (sym (number-read c.args.least c.args.most c.in_ok-number.number c.in-Some.text.now (omega arith) spells (omega arith) (omega arith)))
