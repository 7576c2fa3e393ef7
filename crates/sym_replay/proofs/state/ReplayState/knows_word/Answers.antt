use Rattle.sym_replay.proofs.StateLemmas.{fetched_bytes}
use Rattle.sym_replay.proofs.state.ReplayState.knows_word.Goals as goal

pub returns-then-is_beside_terms : goal.returns-then-is_beside_terms
returns-then-is_beside_terms c e =
    let beside = c.if-is_beside_terms.true in
    fetched_bytes c.args.self.now c.args.address c.args.word c.requires.held (c.is_beside_terms.ensures.fits beside)
    (c.is_beside_terms.ensures.none beside c.requires.within) (c.fetches.ensures e)
