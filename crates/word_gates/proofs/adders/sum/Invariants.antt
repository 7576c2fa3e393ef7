use Rattle.gate_net.specs.Trees.{signed_of}
use Rattle.word_gates.proofs.SumLemmas.{IsSummed}
use Rattle.word_gates.proofs.adders.sum.Given as goal

abbrev pub invariant-loop-i : goal.invariant-loop-i
invariant-loop-i l = IsSummed l.fn.net l.net (signed_of l.fn.net l.fn.carry_in) l.a l.b l.bits.items l.so_far l.i
