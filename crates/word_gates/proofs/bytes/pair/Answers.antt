use Rattle.std.proofs.Common.{◌≡◌, ◌++◌, take, rules}
use Rattle.std.specs.Prelude.{replicate}
use Rattle.word_gates.proofs.MoveLemmas.{no_lit}
use Rattle.word_gates.proofs.ByteLemmas.{pair_below, pair_trees}
use Rattle.word_gates.proofs.bytes.pair.Goals as goal

pub returns-clause-below : goal.returns-clause-below
returns-clause-below c = let is : c.extend_from_slice-2.new.self.items ≡ (take 8 c.args.a.now ++ take 8 c.args.b.now) ++ replicate 16 no_lit = search rules in rw is (pair_below c.args.a.now c.args.b.now)

pub returns-clause-trees : goal.returns-clause-trees
returns-clause-trees c = let is : c.extend_from_slice-2.new.self.items ≡ (take 8 c.args.a.now ++ take 8 c.args.b.now) ++ replicate 16 no_lit = search rules in rw is (pair_trees c.args.a.now c.args.b.now)
