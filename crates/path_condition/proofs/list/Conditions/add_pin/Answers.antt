use Rattle.std.proofs.Common.{◌≡◌, ◌^◌, ◌<◌, ◌∙◌, arith}
use Rattle.term_model.specs.Value.{val}
use Rattle.term_arena.specs.Trees.{tree_of, trees_of}
use Rattle.normal_form.specs.Norm.{norm}
use Rattle.replay_law.specs.Forms.{pin}
use Rattle.path_condition.proofs.ListLemmas.{added, then_ok, meant}
use Rattle.path_condition.proofs.list.Conditions.add_pin.Goals as goal

pub returns-clause-trees : goal.returns-clause-trees
returns-clause-trees c =
    then_ok c.add_all.result c.add_all.ensures.trees
    (added c.args.arena.now c.bytes_are.new.arena c.in_ok-terms.ensures.keeps c.args.self.now c.add_all.new.self c.in_ok-terms.terms (pin norm (tree_of c.args.arena.now c.args.t) c.args.value) c.requires.listed (c.in_ok-terms.ensures.trees ∙ c.without_constants-rest.ensures.pin))

pub returns-clause-meaning : goal.returns-clause-meaning
returns-clause-meaning c =
    let word : c.args.value < 2 ^ 32 = omega arith in
    then_ok c.add_all.result (returns-clause-trees c) (λ e y bs.
    meant c.lists_hold_together.ensures.together y (trees_of c.bytes_are.new.arena c.add_all.new.self) (trees_of c.args.arena.now c.args.self.now) (pin norm (tree_of c.args.arena.now c.args.t) c.args.value) (val (tree_of c.args.arena.now c.args.t) y ≡ c.args.value) e
    (c.forms_say_what_they_name.ensures.pin (tree_of c.args.arena.now c.args.t) c.args.value y c.requires.normal word bs))
