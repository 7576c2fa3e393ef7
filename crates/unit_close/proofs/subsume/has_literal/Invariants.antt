use Rattle.std.proofs.Common.{take}
use Rattle.std.specs.Prelude.{Contains}
use Rattle.unit_close.proofs.subsume.has_literal.Given as goal

abbrev pub invariant-loop-m : goal.invariant-loop-m
invariant-loop-m l = Contains (take l.m-index l.clause) l.l → ⊥
