use Rattle.std.proofs.Common.{◌≡◌}
use Rattle.term_model.specs.Value.{val}
use Rattle.term_arena.specs.Trees.{tree_of, trees_of}
use Rattle.normal_form.specs.Norm.{norm}
use Rattle.replay_law.specs.Forms.{equal}
use Rattle.path_condition.proofs.ListLemmas.{added, then_ok, meant}
use Rattle.path_condition.proofs.list.Conditions.add_equal.Goals as goal

pub returns-clause-trees : goal.returns-clause-trees
returns-clause-trees c =
    then_ok c.add_all.result c.add_all.ensures.trees
    (added c.args.arena.now c.equal.new.arena c.in_ok-terms.ensures.keeps c.args.self.now c.add_all.new.self c.in_ok-terms.terms (equal norm (tree_of c.args.arena.now c.args.a) (tree_of c.args.arena.now c.args.b)) c.requires.listed (c.in_ok-terms.ensures.trees))

pub returns-clause-meaning : goal.returns-clause-meaning
returns-clause-meaning c =
    then_ok c.add_all.result (returns-clause-trees c) (λ e y bs.
    meant c.lists_hold_together.ensures.together y (trees_of c.equal.new.arena c.add_all.new.self) (trees_of c.args.arena.now c.args.self.now) (equal norm (tree_of c.args.arena.now c.args.a) (tree_of c.args.arena.now c.args.b)) (val (tree_of c.args.arena.now c.args.a) y ≡ val (tree_of c.args.arena.now c.args.b) y) e
    (c.forms_say_what_they_name.ensures.equal (tree_of c.args.arena.now c.args.a) (tree_of c.args.arena.now c.args.b) y c.requires.normal_first c.requires.normal_second bs))
