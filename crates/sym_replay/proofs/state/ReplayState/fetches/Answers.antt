use Rattle.std.proofs.Common.{Some, sym, ap, ◌∙◌}
use Rattle.std.proofs.lemmas.Bool.{eqb-true}
use Rattle.sym_replay.proofs.state.ReplayState.fetches.Goals as goal

pub returns-in-Some : goal.returns-in-Some
returns-in-Some c e = sym c.fetch.ensures ∙ c.in-Some.is ∙ ap Some (eqb-true c.in-Some.fetched c.args.word e)
