use Rattle.unit_close.proofs.SubsumeLemmas.{Thins}
use Rattle.unit_close.proofs.subsume.thinned.Given as goal

abbrev pub invariant-loop-i : goal.invariant-loop-i
invariant-loop-i l = Thins l.given l.watches l.thin l.signatures.items l.i
