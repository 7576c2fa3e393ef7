use Rattle.std.proofs.Common.{true≢false, sym, ◌∙◌}
use Rattle.std.proofs.lemmas.Slice.Eq.{starts_is}
use Rattle.std.proofs.lemmas.Bool.Decides.{Decides-eqb}
use Rattle.text_lines.proofs.fields.after.Goals as goal

pub returns-then-not-starts_with-clause-none : goal.returns-then-not-starts_with-clause-none
returns-then-not-starts_with-clause-none c = λ none rest is.
    true≢false (sym ((starts_is Decides-eqb c.args.line.now c.args.beginning.now c.starts_with.result c.starts_with.ensures.value).1 rest is) ∙ c.if-not-starts_with.true)
