use Rattle.std.proofs.Common.{◌∙◌}
use Rattle.term_arena.specs.Trees.{trees_of}
use Rattle.normal_form.specs.Norm.{norm}
use Rattle.replay_law.specs.Forms.{with_conditions, pin}
use Rattle.path_condition.proofs.ListLemmas.{then_ok, grown_trees}
use Rattle.sym_replay.proofs.PinLemmas.{pinned}
use Rattle.sym_replay.proofs.pins.add_pin.Goals as goal

pub returns-then-is_number-clause-trees : goal.returns-then-is_number-clause-trees
returns-then-is_number-clause-trees c = pinned (trees_of c.args.arena.now c.args.conditions.now) c.args.arena.now c.args.v.now c.args.number (c.is_number.ensures c.if-is_number.true)

pub returns-clause-trees : goal.returns-clause-trees
returns-clause-trees c =
    let grown = grown_trees c.args.arena.now c.interned.new.arena c.in_ok-t.ensures.keeps c.args.conditions.now c.requires.listed in
    then_ok c.add_pin.result c.add_pin.ensures.trees (λ e. e ∙ (λ i. with_conditions (grown i) (pin norm (c.in_ok-t.ensures.term.is i) c.args.number)))
