use Rattle.std.proofs.Common.{◌≡◌, ◌∷◌, length, take, rules}
use Rattle.word_gates.proofs.MoveLemmas.{moved_in}
use Rattle.word_gates.proofs.moves.shift_in.Goals as goal

pub returns-clause-trees : goal.returns-clause-trees
returns-clause-trees c = λ net e.
    let is : c.truncate.new.self.items ≡ take (length c.args.a.now) (c.args.lowest ∷ c.args.a.now) = search rules in
    rw is (moved_in c.args.lowest c.args.a.now net e)
