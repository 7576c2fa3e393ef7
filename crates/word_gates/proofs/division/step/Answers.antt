use Rattle.std.proofs.Common.{◌∙◌}
use Rattle.word_gates.proofs.DivisionLemmas.{left_trees}
use Rattle.word_gates.proofs.division.step.Goals as goal

pub returns-clause-left : goal.returns-clause-left
returns-clause-left c =
    let total = c.in_ok-total.ensures in
    let chosen = rw c.deref.ensures.value at c.in_ok-chosen.ensures.word in
    record {
      below = chosen.below;
      trees = left_trees _ _ _ c.args.left.now c.in_ok-total.total.bits.items _ _ _ _ total.keeps c.requires.left total.carry.tree total.bits.trees chosen.trees;
      width = chosen.width ∙ total.bits.width;
    }
