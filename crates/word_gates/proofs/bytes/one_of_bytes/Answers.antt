use Rattle.std.proofs.Common.{◌≡◌, ◌+◌, ◌-◌, ◌∙◌, ap, take, drop, arith, rules}
use Rattle.gate_model.specs.Makers.{tree_gates}
use Rattle.gate_net.specs.Trees.{signed_of, all_signed_of}
use Rattle.word_bits.specs.Circuits.{choose, byte_at}
use Rattle.word_gates.proofs.ByteLemmas.{byte_trees}
use Rattle.word_gates.proofs.bytes.one_of_bytes.Goals as goal

pub returns-clause-word : goal.returns-clause-word
returns-clause-word c =
    let first : c.args.first + 8 - c.args.first ≡ 8 = omega arith in
    let second : c.args.second + 8 - c.args.second ≡ 8 = omega arith in
    let e = rw (first, second) at c.in_ok-byte.ensures.word.trees in
    record {
      below = c.in_ok-byte.ensures.word.below;
      trees =
          e ∙ ap (λ x. choose tree_gates (signed_of c.args.net.now c.args.choice) x (all_signed_of c.args.net.now (take 8 (drop c.args.second c.args.a.now)))) (byte_trees c.args.net.now c.args.first c.args.a.now)
          ∙ ap (choose tree_gates (signed_of c.args.net.now c.args.choice) (byte_at tree_gates c.args.first (all_signed_of c.args.net.now c.args.a.now))) (byte_trees c.args.net.now c.args.second c.args.a.now);
      width = search (rules, arith);
    }
