use Rattle.receiver_replay.proofs.AcceptedLemmas.{made_is_accepted}
use Rattle.receiver_replay.proofs.laws.a_report_that_is_made_is_accepted.Goals as goal

pub returns : goal.returns
returns c = made_is_accepted
