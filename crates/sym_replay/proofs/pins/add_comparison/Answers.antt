use Rattle.std.proofs.Common.{◌∙◌, Bool, sym, ap, if◌then◌else◌}
use Rattle.term_arena.specs.Trees.{trees_of}
use Rattle.normal_form.specs.Norm.{norm}
use Rattle.replay_law.specs.Forms.{with_conditions, succeeds, fails}
use Rattle.path_condition.proofs.ListLemmas.{then_ok, grown_trees}
use Rattle.sym_replay.specs.Values.{value_tree}
use Rattle.sym_replay.proofs.pins.add_comparison.Goals as goal

pub returns-then-holds-clause-trees : goal.returns-then-holds-clause-trees
returns-then-holds-clause-trees c =
    let old = trees_of c.args.arena.now c.args.conditions.now in
    let tree = norm c.args.op (value_tree c.args.arena.now c.args.a.now) (value_tree c.args.arena.now c.args.b.now) in
    let grown = grown_trees c.args.arena.now c.made.new.arena c.in_ok-comparison.ensures.keeps c.args.conditions.now c.requires.listed in
    then_ok c.add_holds.result c.add_holds.ensures.trees
    (λ e. e ∙ (λ i. with_conditions (grown i) (succeeds (c.in_ok-comparison.ensures.value.is i))) ∙ ap (λ (b : Bool). with_conditions old (if b then succeeds tree else fails norm tree)) (sym c.if-holds.true))

pub returns-else-holds-clause-trees : goal.returns-else-holds-clause-trees
returns-else-holds-clause-trees c =
    let old = trees_of c.args.arena.now c.args.conditions.now in
    let tree = norm c.args.op (value_tree c.args.arena.now c.args.a.now) (value_tree c.args.arena.now c.args.b.now) in
    let grown = grown_trees c.args.arena.now c.made.new.arena c.in_ok-comparison.ensures.keeps c.args.conditions.now c.requires.listed in
    then_ok c.add_fails.result c.add_fails.ensures.trees
    (λ e. e ∙ (λ i. with_conditions (grown i) (fails norm (c.in_ok-comparison.ensures.value.is i))) ∙ ap (λ (b : Bool). with_conditions old (if b then succeeds tree else fails norm tree)) (sym c.if-holds.false))
