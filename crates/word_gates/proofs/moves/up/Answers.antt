use Rattle.std.proofs.Common.{◌≡◌, length, take, ◌++◌, rules}
use Rattle.std.specs.Prelude.{replicate}
use Rattle.word_gates.proofs.MoveLemmas.{no_lit, moved_up}
use Rattle.word_gates.proofs.moves.up.Goals as goal

pub returns-clause-trees : goal.returns-clause-trees
returns-clause-trees c = λ net e.
    let is : c.truncate.new.self.items ≡ take (length c.args.a.now) (replicate c.args.k no_lit ++ c.args.a.now) = search rules in
    rw is (moved_up c.args.k c.args.a.now net e)
