use Rattle.std.proofs.Common.{◌≡◌, length, rules}
use Rattle.std.specs.Prelude.{replicate}
use Rattle.word_gates.proofs.MoveLemmas.{no_lit}
use Rattle.word_gates.proofs.ProductLemmas.{product_start, product_more}
use Rattle.word_gates.proofs.products.product.Goals as goal

pub loop-i-init : goal.loop-i-init
loop-i-init c =
    let is : c.in_ok-so_far.so_far.items ≡ replicate (length c.args.a.now) no_lit = search rules in
    rw is (product_start _ _ _ c.len-net.ensures.net.yes c.len-net.ensures.net.some)

pub loop-i-preserved : goal.loop-i-preserved
loop-i-preserved c =
    let made = c.in_ok-so_far-2.ensures in
    let e = rw c.deref.ensures.value at made.word.trees in
    product_more _ _ _ _ _ _ _ _ c.loop-i.invariant c.requires.first c.requires.second c.loop-i-test.true made.keeps made.word.below made.word.width e
