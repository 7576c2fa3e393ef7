use Rattle.std.proofs.Common.{◌≡◌, ◌⊎◌, ◌∙◌, inl, inr, ap, sym, refl, List, ℕ, Option, None}
use Rattle.std.proofs.lemmas.Result.{err_from_is_err_and}
use Rattle.tool_words.specs.Words.{texts_of, asked_in, asked_of}
use Rattle.tool_words.specs.declared.command.WordsError.{WordsError}
use Rattle.tool_words.specs.declared.command.WordsError.TheVariants.{NoMemory, Usage}
use Rattle.tool_words.proofs.words.read_words.Goals as goal

-- words that give no texts ask for nothing
asks_nothing : (words : List (List ℕ)) (e : WordsError) → (e ≡ NoMemory) ⊎ ((e ≡ Usage) × (texts_of words ≡ None)) → (e ≡ NoMemory) ⊎ ((e ≡ Usage) × (asked_of words ≡ None))
unfolding asked_of
asks_nothing words e (inl memory) = inl memory
asks_nothing words e (inr usage) = inr (usage.0, ap asked_in usage.1)

pub returns-in_err-raw-clause-refused : goal.returns-in_err-raw-clause-refused
returns-in_err-raw-clause-refused c =
    let p = err_from_is_err_and c.from_residual.result c.from_residual.ensures.1 in
    rw (p.1, p.2) (asks_nothing _ c.in_err-raw.field-0.0 c.in_err-raw.ensures.refused)

pub returns-in-Some-clause-read : goal.returns-in-Some-clause-read
unfolding asked_of
returns-in-Some-clause-read c = ap asked_in c.in_ok-raw.ensures.read ∙ sym c.in-Some.ensures.asked

pub returns-in-None-clause-refused : goal.returns-in-None-clause-refused
unfolding asked_of
returns-in-None-clause-refused c = inr (refl, ap asked_in c.in_ok-raw.ensures.read ∙ sym c.in-None.ensures.asked)
