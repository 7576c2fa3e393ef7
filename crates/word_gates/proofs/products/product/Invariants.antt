use Rattle.word_gates.proofs.ProductLemmas.{IsProductSoFar}
use Rattle.word_gates.proofs.products.product.Given as goal

abbrev pub invariant-loop-i : goal.invariant-loop-i
invariant-loop-i l = IsProductSoFar l.fn.net l.net l.a l.b l.so_far.items l.i
