use Rattle.std.proofs.Common.{◌∙◌, ap}
use Rattle.gate_model.specs.Makers.{tree_gates}
use Rattle.word_bits.specs.Circuits.{magnitude}
use Rattle.word_gates.proofs.NetLemmas.{kept_all, still_all}
use Rattle.word_gates.proofs.signed.both_magnitudes.Goals as goal

pub returns-clause-first : goal.returns-clause-first
returns-clause-first c =
    let first = c.in_ok-first.ensures.word in
    let keeps = c.in_ok-second.ensures.keeps in
    record {
      below = still_all _ _ c.in_ok-first.first.items keeps first.below;
      trees = kept_all _ _ c.in_ok-first.first.items keeps first.below ∙ first.trees;
      width = first.width;
    }

pub returns-clause-second : goal.returns-clause-second
returns-clause-second c =
    let second = c.in_ok-second.ensures.word in
    record {
      below = second.below;
      trees = second.trees ∙ ap (magnitude tree_gates) (kept_all _ _ c.args.b.now c.in_ok-first.ensures.keeps c.requires.second);
      width = second.width;
    }
