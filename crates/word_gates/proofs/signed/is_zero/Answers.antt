use Rattle.std.proofs.Common.{◌≡◌, ◌∙◌, ap, length, rules}
use Rattle.std.specs.Prelude.{replicate}
use Rattle.gate_model.specs.Makers.{tree_gates}
use Rattle.gate_net.specs.Trees.{all_signed_of}
use Rattle.word_bits.specs.Circuits.{equal}
use Rattle.word_gates.proofs.MoveLemmas.{no_lit}
use Rattle.word_gates.proofs.SignedLemmas.{zeros_trees}
use Rattle.word_gates.proofs.signed.is_zero.Goals as goal

pub returns-clause-zero : goal.returns-clause-zero
returns-clause-zero c =
    let is : c.deref.result.now ≡ replicate (length c.args.b.now) no_lit = search rules in
    let e = rw is at c.in_ok-zero.ensures.bit.tree in
    record {
      below = c.in_ok-zero.ensures.bit.below;
      tree = e ∙ ap (equal tree_gates (all_signed_of c.args.net.now c.args.b.now)) (zeros_trees c.args.net.now c.args.net.now c.args.b.now c.len-net.ensures.net.yes);
    }
