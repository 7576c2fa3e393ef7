use Rattle.std.proofs.Common.{◌∙◌}
use Rattle.term_arena.specs.Trees.{trees_of}
use Rattle.replay_law.specs.Forms.{with_conditions, succeeds}
use Rattle.path_condition.proofs.ListLemmas.{then_ok, grown_trees}
use Rattle.sym_replay.proofs.PinLemmas.{holding}
use Rattle.sym_replay.proofs.pins.add_holds.Goals as goal

pub returns-then-is_number-clause-trees : goal.returns-then-is_number-clause-trees
returns-then-is_number-clause-trees c = holding (trees_of c.args.arena.now c.args.conditions.now) c.args.arena.now c.args.v.now (c.is_number.ensures c.if-is_number.true)

pub returns-clause-trees : goal.returns-clause-trees
returns-clause-trees c =
    let grown = grown_trees c.args.arena.now c.interned.new.arena c.in_ok-t.ensures.keeps c.args.conditions.now c.requires.listed in
    then_ok c.add_holds.result c.add_holds.ensures.trees (λ e. e ∙ (λ i. with_conditions (grown i) (succeeds (c.in_ok-t.ensures.term.is i))))
