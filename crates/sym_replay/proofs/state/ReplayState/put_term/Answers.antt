use Rattle.sym_replay.proofs.StateLemmas.{put_state}
use Rattle.sym_replay.proofs.state.ReplayState.put_term.Goals as goal

pub returns-clause-state : goal.returns-clause-state
returns-clause-state c trees h t = put_state trees c.args.self.now c.insert.new.self c.args.address c.args.t c.min-self.result c.max-self.result h t c.in_ok-insert.ensures.updates c.min-self.ensures c.max-self.ensures
