use Rattle.gate_net.proofs.NetLemmas.{gate_top}
use Rattle.gate_net.proofs.store.Net.gate.Goals as goal

pub returns-clause-top : goal.returns-clause-top
returns-clause-top c = rw (← c.self.view_is) (gate_top _ _ _ c.self.invariant c.index.ensures)

pub returns-clause-place : goal.returns-clause-place
returns-clause-place c = c.self.invariant.ordered _ _ c.index.ensures
