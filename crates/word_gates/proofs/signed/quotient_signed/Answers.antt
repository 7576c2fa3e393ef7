use Rattle.std.proofs.Common.{◌≡◌, true, length, rules, arith}
use Rattle.std.specs.Prelude.{replicate}
use Rattle.word_gates.proofs.SignedLemmas.{final_quotient}
use Rattle.word_gates.proofs.signed.quotient_signed.Goals as goal

pub returns-clause-word : goal.returns-clause-word
returns-clause-word c =
    let is : c.deref.result.now ≡ replicate (length c.args.b.now) (record { name = 0; positive = true }) = search rules in
    let m = rw (is, c.deref-2.ensures.value) at c.in_ok-chosen.ensures.word.trees in
    record {
      below = c.in_ok-chosen.ensures.word.below;
      trees = final_quotient c.args.net.now c.quotient_by_signs.new.net c.is_zero.new.net c.each.new.net c.args.b.now c.in_ok-quotient.quotient.items c.in_ok-chosen.chosen.items c.in_ok-zero.zero _ c.in_ok-quotient.ensures.keeps c.in_ok-zero.ensures.keeps c.len-net.ensures.net.yes c.requires.second c.in_ok-quotient.ensures.word.below c.in_ok-quotient.ensures.word.trees c.in_ok-zero.ensures.zero.tree m;
      width = search (rules, arith);
    }
