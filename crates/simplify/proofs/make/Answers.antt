use Rattle.term_arena.specs.Trees.{tree_of}
use Rattle.simplify.proofs.StepLemmas.{made_normal, made_value}
use Rattle.simplify.proofs.make.Goals as goal

pub returns-clause-normal : goal.returns-clause-normal
returns-clause-normal c =
    made_normal c.normal_form.result c.normal_form.new.arena c.args.op (tree_of c.args.arena.now c.args.a) (tree_of c.args.arena.now c.args.b)
    c.requires.first_is_normal c.requires.second_is_normal c.requires.byte_number c.normal_form.ensures.tree

pub returns-clause-value : goal.returns-clause-value
returns-clause-value c =
    made_value c.normal_form.result c.normal_form.new.arena c.args.op (tree_of c.args.arena.now c.args.a) (tree_of c.args.arena.now c.args.b)
    c.requires.first_is_normal c.requires.second_is_normal c.requires.byte_number c.normal_form.ensures.tree
