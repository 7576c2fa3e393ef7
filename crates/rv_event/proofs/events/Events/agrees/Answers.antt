use Rattle.std.proofs.Common.{◌≡◌, length, arith, rules}
use Rattle.rv_event.proofs.PackedLemmas.{same_lists}
use Rattle.rv_event.proofs.events.Events.agrees.Goals as goal

pub returns : goal.returns
returns c =
    let long : length c.args.self.now ≡ length c.args.other.now = omega (arith, c.len.ensures, c.len-2.ensures) in
    (λ _. same_lists c.args.self.now c.args.other.now long (λ k lt. c.loop-place.invariant k (omega (arith, c.len-place-end.ensures, c.loop-place-test.false))), λ _. search rules)
