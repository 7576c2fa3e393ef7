use Rattle.std.proofs.Common.{◌∙◌}
use Rattle.sym_replay.proofs.HeapLemmas.{one_cleared, none_left}
use Rattle.sym_replay.proofs.state.ReplayState.clear.Goals as goal

pub loop-address-preserved : goal.loop-address-preserved
loop-address-preserved c = (
  λ q. one_cleared c.loop-address.self.bytes c.remove.new.self c.args.from c.args.to c.in-Some.address c.in-Some.ensures.some.0 c.in-Some.ensures.some.1 c.remove.ensures.updates q ∙ c.loop-address.invariant.0 q,
  (λ i. record (c.loop-address.invariant.1 i) { bytes = c.remove.new.self }),
)

pub returns-clause-bytes : goal.returns-clause-bytes
returns-clause-bytes c q = none_left c.loop-address.self.bytes c.args.from c.args.to q c.in_default.ensures.none ∙ c.loop-address.invariant.0 q
