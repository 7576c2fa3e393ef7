use Rattle.std.proofs.Common.{length, ◌∙◌}
use Rattle.word_gates.proofs.SignedLemmas.{by_signs}
use Rattle.word_gates.proofs.signed.quotient_by_signs.Goals as goal

pub returns-clause-word : goal.returns-clause-word
returns-clause-word c =
    let net = c.args.net.now in
    let first = c.sign-first.ensures in
    let second = c.sign-second.ensures in
    let quotient = c.in_ok-quotient.ensures in
    let made = rw c.deref.ensures.value at c.in_ok-made.ensures.word in
    record {
      below = made.below;
      trees = by_signs net _ _ _ c.sign-first.result c.sign-second.result c.in_ok-turned.turned c.in_ok-quotient.quotient.items _ _ _ _ quotient.keeps c.in_ok-turned.ensures.keeps (first.below (length net) c.requires.first) (second.below (length net) c.requires.second) quotient.word.below (first.tree net) (second.tree net) quotient.word.trees c.in_ok-turned.ensures.tree made.trees;
      width = made.width ∙ quotient.word.width;
    }
