-- By the laws for any literals.
use Rattle.std.proofs.Common.{length}
use Rattle.search_model.specs.Search.{search_end}
use Rattle.search_laws.proofs.TestLemmas.{in_is, is_in, conflict_is, is_conflicting}
use Rattle.search_laws.proofs.After.{end_comes}
use Rattle.search_laws.proofs.Runs.{the_end, come_to_end, has_counted, counted_one}
use Rattle.wide_laws.specs.Formula.{signed_trees}
use Rattle.wide_laws.proofs.Forcing.{trees_are_literals}
use Rattle.wide_laws.proofs.the_search_of_trees_is_its_turns.Goals as goal

pub returns-clause-closure : goal.returns-clause-closure
returns-clause-closure c = λ clauses decisions l. (in_is signed_trees trees_are_literals clauses decisions l, is_in signed_trees trees_are_literals clauses decisions l)

pub returns-clause-conflict : goal.returns-clause-conflict
returns-clause-conflict c = λ clauses decisions. (conflict_is signed_trees trees_are_literals clauses decisions, is_conflicting signed_trees trees_are_literals clauses decisions)

pub returns-clause-comes : goal.returns-clause-comes
returns-clause-comes c = end_comes signed_trees trees_are_literals

pub returns-clause-ends : goal.returns-clause-ends
returns-clause-ends c = the_end signed_trees trees_are_literals

pub returns-clause-one_end : goal.returns-clause-one_end
returns-clause-one_end c = come_to_end signed_trees trees_are_literals

pub returns-clause-count : goal.returns-clause-count
returns-clause-count c = λ clauses order n count run h.
    counted_one signed_trees trees_are_literals clauses order n (search_end signed_trees clauses order) run count (length (search_end signed_trees clauses order).learned) h
    (has_counted signed_trees trees_are_literals clauses order n (search_end signed_trees clauses order) run)
