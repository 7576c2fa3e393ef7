use Rattle.report_maker.proofs.PutLemmas.{IsPut}
use Rattle.report_maker.proofs.put.put.Given as goal

abbrev pub invariant-loop-k : goal.invariant-loop-k
invariant-loop-k g l = IsPut l.places l.items l.fn.list l.list l.k
