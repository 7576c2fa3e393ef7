use Rattle.std.proofs.Common.{◌∙◌}
use Rattle.term_arena.specs.Trees.{trees_of}
use Rattle.normal_form.specs.Norm.{norm}
use Rattle.replay_law.specs.Forms.{with_conditions, target}
use Rattle.path_condition.proofs.ListLemmas.{then_ok, grown_trees}
use Rattle.sym_replay.proofs.PinLemmas.{reached}
use Rattle.sym_replay.proofs.pins.add_target.Goals as goal

pub returns-then-is_known_target-clause-trees : goal.returns-then-is_known_target-clause-trees
returns-then-is_known_target-clause-trees c = reached (trees_of c.args.arena.now c.args.conditions.now) c.args.arena.now c.args.sum.now c.args.target (c.is_known_target.ensures c.if-is_known_target.true)

pub returns-clause-trees : goal.returns-clause-trees
returns-clause-trees c =
    let grown = grown_trees c.args.arena.now c.interned.new.arena c.in_ok-t.ensures.keeps c.args.conditions.now c.requires.listed in
    then_ok c.add_target.result c.add_target.ensures.trees (λ e. e ∙ (λ i. with_conditions (grown i) (target norm (c.in_ok-t.ensures.term.is i) c.args.target)))
