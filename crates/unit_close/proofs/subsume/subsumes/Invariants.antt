use Rattle.std.proofs.Common.{drop}
use Rattle.std.specs.Prelude.{Contains}
use Rattle.gate_net.specs.declared.literals.Lit.{Lit}
use Rattle.unit_close.proofs.subsume.subsumes.Given as goal

abbrev pub invariant-loop-i : goal.invariant-loop-i
invariant-loop-i l = (m : Lit) → Contains (drop l.i l.part) m → Contains l.clause m
