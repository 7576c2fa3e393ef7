use Rattle.std.proofs.Common.{refl, inl, inr, Some, None}
use Rattle.tool_words.specs.Words.{raw_texts}
use Rattle.tool_words.proofs.CommandLemmas.{parse_Ok, parse_Err}
use Rattle.tool_words.proofs.command.read_texts.Goals as goal

pub returns-in-Some-clause-read : goal.returns-in-Some-clause-read
returns-in-Some-clause-read c =
    let parse = c.in-Ok-try_get_matches_from.ensures in
    parse_Ok _ _ c.in-Ok-try_get_matches_from.matches (Some (raw_texts c.in-Some.raw)) c.in-Ok.ensures parse.kinds parse.matches c.in-Some.ensures

pub returns-in-Ok-try_get_matches_from-clause-refused : goal.returns-in-Ok-try_get_matches_from-clause-refused
returns-in-Ok-try_get_matches_from-clause-refused c =
    let parse = c.in-Ok-try_get_matches_from.ensures in
    inr (refl, parse_Ok _ _ c.in-Ok-try_get_matches_from.matches None c.in-Ok.ensures parse.kinds parse.matches c.in-None.ensures)

pub returns-clause-refused : goal.returns-clause-refused
returns-clause-refused c = elim c.reason.ensures.either [
  | inl e ↦ inl e
  | inr e ↦ inr (e.0, parse_Err _ _ c.in-Err.error c.in-Ok.ensures c.in-Err.ensures.kinds e.1)
]
