use Rattle.std.proofs.Common.{arith}
use Rattle.watchers.proofs.LastLemmas.{next_last}
use Rattle.watchers.proofs.last_sixteen.LastSixteen.push.Goals as goal

pub returns : goal.returns
returns c =
    next_last c.self.inside.counters c.make_room-end.new.counters c.args.self.now c.make_room-end.result c.self.inside.end c.args.pc
    (omega (arith, c.make_room-end.ensures.room, c.make_room-end.ensures.size)) c.make_room-end.ensures.same c.self.view_is
