use Rattle.std.proofs.Common.{◌≡◌, length, rules, arith}
use Rattle.std.specs.Prelude.{replicate}
use Rattle.word_gates.proofs.MoveLemmas.{no_lit}
use Rattle.word_gates.proofs.SignedLemmas.{negate_trees}
use Rattle.word_gates.proofs.signed.negate.Goals as goal

pub returns-clause-word : goal.returns-clause-word
returns-clause-word c =
    let is : c.deref.result.now ≡ replicate (length c.args.a.now) no_lit = search rules in
    record {
      below = c.in_ok-total.ensures.bits.below;
      trees = negate_trees _ _ _ c.deref.result.now _ c.len-net.ensures.net.yes is c.in_ok-total.ensures.bits.trees;
      width = search (rules, arith);
    }
