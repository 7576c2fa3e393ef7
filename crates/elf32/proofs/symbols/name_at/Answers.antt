use Rattle.std.proofs.Common.{◌≡◌, ◌∙◌, ℕ, List, All, length, min, take, drop, refl, sym, ap, subst}
use Rattle.elf32.proofs.SymbolLemmas.{past_table, no_name, some_name, checked, unchecked}
use Rattle.elf32.proofs.symbols.name_at.Goals as goal

pub returns-then-place-strings-clause-none : goal.returns-then-place-strings-clause-none
returns-then-place-strings-clause-none c = λ none. past_table c.args.strings.now c.args.place c.if-place-strings.true

pub returns-in_err-name-clause-none : goal.returns-in_err-name-clause-none
returns-in_err-name-clause-none c = λ none.
    let rest = drop c.args.place c.args.strings.now in
    let first = c.split_at-2.ensures.front ∙ ap (take c.min.result) c.split_at.ensures.back in
    let size = c.min.ensures ∙ ap (λ xs. min (length xs) 256) c.split_at.ensures.back in
    no_name rest c.min.result size (subst (λ (xs : List ℕ). All (λ b. b ≡ 0 → ⊥) xs) first (c.in_err-name.ensures.none refl))

pub returns-then-not-is_name-clause-none : goal.returns-then-not-is_name-clause-none
returns-then-not-is_name-clause-none c = λ none.
    let rest = drop c.args.place c.args.strings.now in
    let first = c.split_at-2.ensures.front ∙ ap (take c.min.result) c.split_at.ensures.back in
    unchecked _ c.in_ok-name.name.now (some_name rest c.split_at-2.result.0.now c.in_ok-name.name.now c.in_ok-name.field-0-1.now c.min.result first c.in_ok-name.ensures.some.0 c.in_ok-name.ensures.some.1) (sym c.if-not-is_name.ensures)

pub returns-clause-some : goal.returns-clause-some
returns-clause-some c =
    let rest = drop c.args.place c.args.strings.now in
    let first = c.split_at-2.ensures.front ∙ ap (take c.min.result) c.split_at.ensures.back in
    checked _ c.in_ok-name.name.now (some_name rest c.split_at-2.result.0.now c.in_ok-name.name.now c.in_ok-name.field-0-1.now c.min.result first c.in_ok-name.ensures.some.0 c.in_ok-name.ensures.some.1) (sym c.if-not-is_name.ensures)
