use Rattle.std.proofs.Common.{◌∙◌}
use Rattle.term_arena.specs.Trees.{trees_of}
use Rattle.normal_form.specs.Norm.{norm}
use Rattle.replay_law.specs.Forms.{with_conditions, equal}
use Rattle.path_condition.proofs.ListLemmas.{then_ok, grown_trees}
use Rattle.sym_replay.proofs.ValueLemmas.{further, grown_value_tree}
use Rattle.sym_replay.proofs.PinLemmas.{equal_numbers}
use Rattle.sym_replay.proofs.pins.add_equal.Goals as goal

pub returns-then-are_same_number-clause-trees : goal.returns-then-are_same_number-clause-trees
returns-then-are_same_number-clause-trees c = equal_numbers (trees_of c.args.arena.now c.args.conditions.now) c.args.arena.now c.args.a.now c.args.b.now (c.are_same_number.ensures c.if-are_same_number.true)

pub returns-clause-trees : goal.returns-clause-trees
returns-clause-trees c =
    let a0 = c.args.arena.now in
    let a1 = c.interned.new.arena in
    let a2 = c.interned-2.new.arena in
    let one = c.in_ok-first.ensures.keeps in
    let two = c.in_ok-second.ensures.keeps in
    let grown = grown_trees a0 a2 (further a0 a1 a2 one two) c.args.conditions.now c.requires.listed in
    let first = two.same c.in_ok-first.first c.in_ok-first.ensures.term.belongs ∙ c.in_ok-first.ensures.term.is in
    let second = c.in_ok-second.ensures.term.is ∙ grown_value_tree a0 a1 one c.args.b.now c.requires.second in
    then_ok c.add_equal.result c.add_equal.ensures.trees (λ e. e ∙ (λ i. with_conditions (grown i) (equal norm (first i) (second i))))
