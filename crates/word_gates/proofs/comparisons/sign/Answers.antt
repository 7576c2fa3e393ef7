use Rattle.word_gates.proofs.SignLemmas.{sign_tree}
use Rattle.word_gates.proofs.comparisons.sign.Goals as goal

pub returns-clause-tree : goal.returns-clause-tree
returns-clause-tree c = sign_tree c.args.a.now c.requires.some
