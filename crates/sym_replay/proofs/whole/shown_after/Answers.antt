use Rattle.std.proofs.Common.{◌+◌}
use Rattle.sym_replay.proofs.RunLemmas.{shown_at}
use Rattle.sym_replay.proofs.whole.shown_after.Goals as goal

pub returns-then-len-place-gt1 : goal.returns-then-len-place-gt1
returns-then-len-place-gt1 c = shown_at c.args.events.now c.args.end (c.args.place + 1) c.event.result c.event.ensures
