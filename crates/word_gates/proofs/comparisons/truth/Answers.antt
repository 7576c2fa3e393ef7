use Rattle.std.proofs.Common.{◌≡◌, ◌∷◌, rules}
use Rattle.std.specs.Prelude.{replicate}
use Rattle.word_gates.proofs.MoveLemmas.{no_lit}
use Rattle.word_gates.proofs.SignLemmas.{truth_below}
use Rattle.word_gates.proofs.comparisons.truth.Goals as goal

pub returns-clause-below : goal.returns-clause-below
returns-clause-below c =
    let is : c.extend_from_slice.new.self.items ≡ c.args.bit ∷ replicate 31 no_lit = search rules in
    rw is (truth_below c.args.bit)
