use Rattle.std.proofs.Common.{◌≡◌, ◌++◌, take, rules}
use Rattle.word_gates.proofs.ByteLemmas.{halves_below, halves_trees, halves_width}
use Rattle.word_gates.proofs.bytes.halves.Goals as goal

pub returns-clause-below : goal.returns-clause-below
returns-clause-below c = let is : c.extend_from_slice.new.self.items ≡ take 16 c.args.a.now ++ take 16 c.args.b.now = search rules in rw is (halves_below c.args.a.now c.args.b.now)

pub returns-clause-trees : goal.returns-clause-trees
returns-clause-trees c = let is : c.extend_from_slice.new.self.items ≡ take 16 c.args.a.now ++ take 16 c.args.b.now = search rules in rw is (halves_trees c.args.a.now c.args.b.now)

pub returns-clause-width : goal.returns-clause-width
returns-clause-width c = let is : c.extend_from_slice.new.self.items ≡ take 16 c.args.a.now ++ take 16 c.args.b.now = search rules in rw is (halves_width c.args.a.now c.args.b.now c.requires.first_width c.requires.second_width)
