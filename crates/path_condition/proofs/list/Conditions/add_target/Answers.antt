use Rattle.std.proofs.Common.{◌≡◌, ◌^◌, ◌<◌, ◌∙◌, arith}
use Rattle.term_model.specs.Value.{val}
use Rattle.term_arena.specs.Trees.{tree_of, trees_of}
use Rattle.normal_form.specs.Norm.{norm}
use Rattle.replay_law.specs.Forms.{target}
use Rattle.rv_machine.specs.Effects.{even}
use Rattle.path_condition.proofs.ListLemmas.{added, then_ok, meant}
use Rattle.path_condition.proofs.list.Conditions.add_target.Goals as goal

pub returns-clause-trees : goal.returns-clause-trees
returns-clause-trees c =
    then_ok c.add_all.result c.add_all.ensures.trees
    (added c.args.arena.now c.target_bytes.new.arena c.in_ok-terms.ensures.keeps c.args.self.now c.add_all.new.self c.in_ok-terms.terms (target norm (tree_of c.args.arena.now c.args.sum) c.args.target) c.requires.listed (c.in_ok-terms.ensures.trees ∙ c.without_even_constants-rest.ensures.target))

pub returns-clause-meaning : goal.returns-clause-meaning
returns-clause-meaning c =
    let word : c.args.target < 2 ^ 32 = omega arith in
    then_ok c.add_all.result (returns-clause-trees c) (λ e ev y bs.
    meant c.lists_hold_together.ensures.together y (trees_of c.target_bytes.new.arena c.add_all.new.self) (trees_of c.args.arena.now c.args.self.now) (target norm (tree_of c.args.arena.now c.args.sum) c.args.target) (even (val (tree_of c.args.arena.now c.args.sum) y) ≡ c.args.target) e
    (c.forms_say_what_they_name.ensures.target (tree_of c.args.arena.now c.args.sum) c.args.target y c.requires.normal word ev bs))
