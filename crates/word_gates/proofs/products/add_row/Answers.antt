use Rattle.std.proofs.Common.{rules, arith}
use Rattle.word_gates.proofs.ProductLemmas.{row_added}
use Rattle.word_gates.proofs.products.add_row.Goals as goal

pub returns-clause-word : goal.returns-clause-word
returns-clause-word c =
    let e = rw c.deref.ensures.value at c.in_ok-row.ensures.trees in
    let f = rw c.deref-2.ensures.value at c.in_ok-total.ensures.bits.trees in
    record {
      below = c.in_ok-total.ensures.bits.below;
      trees = row_added _ _ _ _ _ _ _ _ _ _ c.in_ok-taken.ensures.keeps c.len-net.ensures.net.yes c.requires.so_far c.in_ok-taken.ensures.word.trees e f;
      width = search (rules, arith);
    }
