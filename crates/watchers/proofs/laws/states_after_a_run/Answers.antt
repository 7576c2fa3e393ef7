use Rattle.watchers.proofs.RunLemmas.{covered_is, last_is}
use Rattle.watchers.proofs.laws.states_after_a_run.Goals as goal

pub returns : goal.returns
returns c = record { covered = covered_is; last = last_is }
