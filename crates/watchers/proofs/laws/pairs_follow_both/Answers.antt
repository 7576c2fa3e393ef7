use Rattle.watchers.proofs.PairLemmas.{both_is}
use Rattle.watchers.proofs.laws.pairs_follow_both.Goals as goal

pub returns : goal.returns
returns g c = both_is g.A.Watched.after g.B.Watched.after
