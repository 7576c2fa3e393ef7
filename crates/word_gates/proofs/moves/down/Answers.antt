use Rattle.std.proofs.Common.{◌≡◌, drop, ◌++◌, rules}
use Rattle.std.specs.Prelude.{replicate}
use Rattle.word_gates.proofs.MoveLemmas.{moved_down}
use Rattle.word_gates.proofs.moves.down.Goals as goal

pub returns-clause-trees : goal.returns-clause-trees
returns-clause-trees c = λ net e.
    let is : c.in_ok-moved.moved.items ≡ drop c.args.k (c.args.a.now ++ replicate c.args.k c.args.fill) = search rules in
    rw is (moved_down c.args.fill c.args.k c.args.a.now net e)
