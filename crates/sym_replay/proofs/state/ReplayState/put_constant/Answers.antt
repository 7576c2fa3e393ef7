use Rattle.std.proofs.Common.{arith}
use Rattle.sym_replay.proofs.state.ReplayState.put_constant.Goals as goal

pub returns-clause-state : goal.returns-clause-state
returns-clause-state c = c.put.ensures.state c.args.arena.now c.requires.state (omega arith)

pub returns-clause-terms : goal.returns-clause-terms
returns-clause-terms c = c.put.ensures.terms c.args.arena.now
