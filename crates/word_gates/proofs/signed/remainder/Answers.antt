use Rattle.std.proofs.Common.{◌≡◌, length, take, rules, arith}
use Rattle.gate_net.specs.Trees.{all_signed_of}
use Rattle.word_gates.proofs.SignedLemmas.{remainder_trees}
use Rattle.word_gates.proofs.signed.remainder.Goals as goal

pub returns-clause-word : goal.returns-clause-word
returns-clause-word c =
    let is : c.truncate.new.self.items ≡ take (length c.args.b.now) c.in_ok-division.division.left.items = search rules in
    record {
      below = search (rules, arith);
      trees = remainder_trees c.args.net.now c.divide.new.net c.args.b.now c.in_ok-division.division.left.items c.truncate.new.self.items (all_signed_of c.args.net.now c.args.a.now) c.in_ok-division.ensures.left.trees is;
      width = search (rules, arith);
    }
