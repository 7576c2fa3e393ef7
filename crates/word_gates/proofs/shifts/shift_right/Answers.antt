use Rattle.std.proofs.Common.{◌∙◌}
use Rattle.word_gates.proofs.ShiftLemmas.{five_down}
use Rattle.word_gates.proofs.shifts.shift_right.Goals as goal

pub returns-clause-word : goal.returns-clause-word
returns-clause-word c =
    let by_1 = c.in_ok-by_1.ensures.word in
    let by_2 = rw c.deref.ensures.value at c.in_ok-by_2.ensures.word in
    let by_4 = rw c.deref-2.ensures.value at c.in_ok-by_4.ensures.word in
    let by_8 = rw c.deref-3.ensures.value at c.in_ok-by_8.ensures.word in
    let by_16 = rw c.deref-4.ensures.value at c.in_ok-by_16.ensures.word in
    record {
      below = by_16.below;
      trees = five_down c.args.fill _ _ _ _ _ c.args.b.now c.in_ok-by_1.ensures.keeps c.in_ok-by_2.ensures.keeps c.in_ok-by_4.ensures.keeps c.in_ok-by_8.ensures.keeps c.requires.fill c.requires.second c.requires.width _ _ _ _ _ _ by_1.trees by_2.trees by_4.trees by_8.trees by_16.trees;
      width = by_16.width ∙ by_8.width ∙ by_4.width ∙ by_2.width ∙ by_1.width;
    }
