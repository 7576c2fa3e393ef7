use Rattle.std.proofs.Common.{◌==◌}
use Rattle.std.proofs.lemmas.Bool.{eq-eqb}
use Rattle.term_arena.specs.Trees.{trees_of}
use Rattle.normal_form.specs.Norm.{norm}
use Rattle.replay_law.specs.Forms.{branch_conditions}
use Rattle.sym_replay.specs.Values.{value_tree}
use Rattle.sym_replay.proofs.PinLemmas.{none_more}
use Rattle.sym_replay.proofs.pins.add_branch.Goals as goal

pub returns-then-target-next-clause-trees : goal.returns-then-target-next-clause-trees
returns-then-target-next-clause-trees c =
    none_more (trees_of c.args.arena.now c.args.conditions.now) (branch_conditions norm c.args.cond (value_tree c.args.arena.now c.args.a.now) (value_tree c.args.arena.now c.args.b.now) (c.args.shown == c.args.target)) (c.args.target == c.args.next)
    (eq-eqb c.args.target c.args.next c.if-target-next.true)
