use Rattle.std.proofs.Common.{◌∙◌}
use Rattle.word_gates.proofs.SignedLemmas.{signed_by_trees}
use Rattle.word_gates.proofs.signed.signed_by.Goals as goal

pub returns-clause-word : goal.returns-clause-word
returns-clause-word c =
    let negative = c.in_ok-negative.ensures.word in
    let chosen = rw c.deref.ensures.value at c.in_ok-chosen.ensures.word in
    record {
      below = chosen.below;
      trees = signed_by_trees _ _ _ _ _ c.in_ok-negative.negative.items _ c.in_ok-negative.ensures.keeps c.requires.turned c.requires.word negative.trees chosen.trees;
      width = chosen.width ∙ negative.width;
    }
