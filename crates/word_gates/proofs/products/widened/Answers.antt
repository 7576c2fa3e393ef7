use Rattle.std.proofs.Common.{◌≡◌, ◌++◌, length, rules}
use Rattle.std.specs.Prelude.{replicate}
use Rattle.word_gates.proofs.ProductLemmas.{widened_trees}
use Rattle.word_gates.proofs.products.widened.Goals as goal

pub returns-clause-trees : goal.returns-clause-trees
returns-clause-trees c = λ net h.
    let is : c.extend_from_slice.new.self.items ≡ c.args.a.now ++ replicate (length c.args.a.now) c.args.fill = search rules in
    rw is (widened_trees c.args.fill c.args.a.now net h)
