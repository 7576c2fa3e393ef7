use Rattle.std.proofs.Common.{◌≡◌, fold, take}
use Rattle.watchers.proofs.watch.Watch.feed_all.Given as goal

-- the state is the fold over the events so far
abbrev pub invariant-loop-event : goal.invariant-loop-event
invariant-loop-event g l = l.watch ≡ fold g.S.Watched.after l.fn.self (take l.event-index l.events)
