use Rattle.std.proofs.Common.{◌∙◌, sym, ◌||◌}
use Rattle.path_condition.proofs.ListLemmas.{listed_tree}
use Rattle.path_condition.proofs.list.Conditions.has_no_need_of.Goals as goal

pub returns-else-is_one-clause-value : goal.returns-else-is_one-clause-value
returns-else-is_one-clause-value c =
    let no = sym c.is_one.ensures ∙ c.if-is_one.false in
    let listed = listed_tree c.same_trees_are_equal.ensures.equal c.same_trees_are_equal.ensures.itself c.args.arena.now c.are_shared.ensures c.args.t c.requires.belongs c.args.self.now c.requires.listed in
    c.contains.ensures ∙ sym (λ i. no i || listed i)
