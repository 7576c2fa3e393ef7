use Rattle.std.proofs.Common.{ap}
use Rattle.gate_model.specs.Tree.{plain}
use Rattle.gate_net.proofs.NetLemmas.{placed, placed_below, placed_tree, adds_extends}
use Rattle.gate_net.proofs.store.Net.place.Goals as goal

pub invariant_of-self-2 : goal.invariant_of-self-2
invariant_of-self-2 c =
    (placed c.self.inside.gates.keys _ c.args.gate c.in_ok-name.ensures.keys (rw (← c.self.view_is) at c.requires.at) (rw (← c.self.view_is) at c.requires.made) c.self.invariant).0

pub returns-clause-adds : goal.returns-clause-adds
returns-clause-adds c =
    rw (← c.self.view_is)
    (placed c.self.inside.gates.keys _ c.args.gate c.in_ok-name.ensures.keys (rw (← c.self.view_is) at c.requires.at) (rw (← c.self.view_is) at c.requires.made) c.self.invariant).1

pub returns-clause-keeps : goal.returns-clause-keeps
returns-clause-keeps c = adds_extends _ _ _ (returns-clause-adds c)

pub returns-clause-below : goal.returns-clause-below
returns-clause-below c =
    let s = c.in_ok-name.ensures.stored in
    placed_below c.self.inside.gates.keys _ c.args.gate c.in_ok-name.ensures.keys (rw (← c.self.view_is) at c.requires.at) (rw (← c.self.view_is) at c.requires.made) c.self.invariant
    c.in_ok-name.name s.0 s.1 s.2

pub returns-clause-tree : goal.returns-clause-tree
returns-clause-tree c =
    let s = c.in_ok-name.ensures.stored in
    rw (← c.self.view_is)
    (ap plain (placed_tree c.self.inside.gates.keys _ c.args.gate c.in_ok-name.ensures.keys (rw (← c.self.view_is) at c.requires.at) (rw (← c.self.view_is) at c.requires.made) c.self.invariant
    c.in_ok-name.name s.0 s.1 s.2))
