use Rattle.std.proofs.Common.{◌≡◌, ◌<◌, ◌^◌, sym, ◌∙◌, arith}
use Rattle.std.proofs.lemmas.Fmt.{decimal_injective}
use Rattle.text_lines.proofs.numbers.read_number_between.Goals as goal

pub returns-then-number-least-clause-none : goal.returns-then-number-least-clause-none
returns-then-number-least-clause-none c = λ none n low high is.
    let small : n < 2 ^ 64 = omega arith in
    let fits : c.in_ok-number.number < 2 ^ 64 = omega arith in
    let same : n ≡ c.in_ok-number.number = decimal_injective _ _ small fits (sym is ∙ c.in_ok-number.ensures.some) in
    omega (arith, same, c.then-number-least.either)
