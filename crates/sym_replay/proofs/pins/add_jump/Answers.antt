use Rattle.std.proofs.Common.{◌∙◌}
use Rattle.normal_form.specs.Norm.{norm}
use Rattle.replay_law.specs.Forms.{with_conditions, target}
use Rattle.path_condition.proofs.ListLemmas.{then_ok, grown_trees}
use Rattle.sym_replay.proofs.pins.add_jump.Goals as goal

pub returns-clause-trees : goal.returns-clause-trees
returns-clause-trees c =
    let grown = grown_trees c.args.arena.now c.sum.new.arena c.in_ok-sum.ensures.keeps c.args.conditions.now c.requires.listed in
    then_ok c.add_target.result c.add_target.ensures.trees (λ e. e ∙ (λ i. with_conditions (grown i) (target norm (c.in_ok-sum.ensures.value.is i) c.args.target)))
