use Rattle.std.proofs.Common.{◌<◌, length, length-drop, arith}
use Rattle.std.proofs.lemmas.List.Elements.{All-drop}
use Rattle.gate_net.specs.declared.literals.Lit.{Lit}
use Rattle.word_gates.proofs.ProductLemmas.{upper_trees}
use Rattle.word_gates.proofs.products.upper_product.Goals as goal

pub returns-clause-word : goal.returns-clause-word
returns-clause-word c =
    let whole = c.in_ok-whole.ensures.word in
    let width = rw c.deref.ensures.value at c.in_ok-whole.ensures.word.width in
    let e = rw (c.deref.ensures.value, c.deref-2.ensures.value) at whole.trees in
    let f = c.in_ok-first.ensures.trees c.args.net.now c.len-net.ensures.net.yes in
    let g = c.in_ok-second.ensures.trees c.args.net.now c.len-net.ensures.net.yes in
    let h = rw (f, g) at e in
    record {
      below = rw c.in_ok-upper.ensures.tail (All-drop (λ (l : Lit). l.name < length c.product.new.net) (length c.args.a.now) c.in_ok-whole.whole.items whole.below);
      trees = upper_trees c.args.net.now c.product.new.net c.args.a.now c.in_ok-whole.whole.items c.in_ok-upper.upper.items _ h c.in_ok-upper.ensures.tail;
      width = rw c.in_ok-upper.ensures.tail (omega (arith, length-drop (length c.args.a.now) c.in_ok-whole.whole.items, width, c.in_ok-first.ensures.width));
    }
