use Rattle.std.proofs.Common.{◌≡◌, ◌∙◌, sym, ◌∷◌, []}
use Rattle.term_model.specs.Value.{val}
use Rattle.term_model.proofs.HoldLemmas.{hold_one, first_holds}
use Rattle.term_arena.specs.Trees.{tree_of, trees_of}
use Rattle.path_condition.proofs.ListLemmas.{with_conditions-one, then_ok, meant}
use Rattle.path_condition.proofs.list.Conditions.add_holds.Goals as goal

pub returns-clause-trees : goal.returns-clause-trees
returns-clause-trees c =
    then_ok c.add.result c.add.ensures.trees (λ e. e ∙ sym (with_conditions-one (trees_of c.args.arena.now c.args.self.now) (tree_of c.args.arena.now c.args.t)))

pub returns-clause-meaning : goal.returns-clause-meaning
returns-clause-meaning c =
    let t = tree_of c.args.arena.now c.args.t in
    then_ok c.add.result (returns-clause-trees c) (λ e y.
    meant c.lists_hold_together.ensures.together y (trees_of c.args.arena.now c.add.new.self) (trees_of c.args.arena.now c.args.self.now) (t ∷ []) (val t y ≡ 1) e (λ h. first_holds y t [] h, λ h. hold_one y t h))
