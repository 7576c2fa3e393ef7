use Rattle.bit_blast.proofs.WalkLemmas.{AreMaking}
use Rattle.bit_blast.proofs.walk.make_rows.Given as goal

abbrev pub invariant-loop-done : goal.invariant-loop-done
invariant-loop-done l = AreMaking l.arena l.fn.net l.net l.terms l.fn.rows l.rows l.done
