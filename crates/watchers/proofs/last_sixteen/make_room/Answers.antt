use Rattle.std.proofs.Common.{arith}
use Rattle.watchers.proofs.LastLemmas.{moved}
use Rattle.watchers.proofs.last_sixteen.make_room.Goals as goal

pub returns-clause-same : goal.returns-clause-same
returns-clause-same c = moved c.args.counters.now c.copy_within.new.self c.args.end (omega (arith, c.told-counters)) (omega (arith, c.if-end-lt32.false)) c.copy_within.ensures.after
