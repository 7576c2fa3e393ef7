use Rattle.std.proofs.Common.{◌≡◌, length, arith}
use Rattle.rv_event.proofs.PackedLemmas.{pushed_apart}
use Rattle.rv_event.proofs.events.Events.push_apart.Goals as goal

pub returns-in-Ok-clause-added : goal.returns-in-Ok-clause-added
returns-in-Ok-clause-added c =
    let last : c.len-place.result ≡ length c.self.inside.numbers.items = omega arith in
    pushed_apart c.self.inside.numbers.items c.push-2.new.self.items c.self.inside.packed.items c.push.new.self.items c.args.event c.len-place.result c.args.self.now c.self.invariant c.self.view_is last c.in-Ok.ensures.items c.in_ok-push.ensures.items
