use Rattle.gate_net.proofs.NetLemmas.{gates_are_net}
use Rattle.gate_net.proofs.store.Net.len.Goals as goal

pub returns-clause-net : goal.returns-clause-net
returns-clause-net c = rw (← c.self.view_is) (gates_are_net _ c.self.invariant)
