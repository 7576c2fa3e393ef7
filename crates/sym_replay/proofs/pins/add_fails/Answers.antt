use Rattle.std.proofs.Common.{◌∙◌, ◌∷◌, []}
use Rattle.replay_law.specs.Forms.{with_conditions}
use Rattle.path_condition.proofs.ListLemmas.{then_ok, grown_trees}
use Rattle.sym_replay.proofs.pins.add_fails.Goals as goal

pub returns-clause-trees : goal.returns-clause-trees
returns-clause-trees c =
    let grown = grown_trees c.args.arena.now c.made.new.arena c.in_ok-fails.ensures.keeps c.args.conditions.now c.requires.listed in
    then_ok c.add_holds.result c.add_holds.ensures.trees (λ e. e ∙ (λ i. with_conditions (grown i) (c.in_ok-fails.ensures.value.is i ∷ [])))
