use Rattle.std.proofs.Common.{◌≡◌, ◌∙◌, length, rules, arith}
use Rattle.std.specs.Prelude.{replicate}
use Rattle.word_gates.proofs.ProductLemmas.{under_trees}
use Rattle.word_gates.proofs.products.under.Goals as goal

pub returns-clause-word : goal.returns-clause-word
returns-clause-word c =
    let is : c.deref.result.now ≡ replicate (length c.args.a.now) c.args.bit = search rules in
    let e = rw is at c.in_ok-made.ensures.word.trees in
    record {
      below = c.in_ok-made.ensures.word.below;
      trees = e ∙ under_trees c.args.net.now c.args.bit c.args.a.now;
      width = search (rules, arith);
    }
