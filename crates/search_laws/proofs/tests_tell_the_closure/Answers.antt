-- By the passes.
use Rattle.search_model.specs.Literals.{named}
use Rattle.search_laws.proofs.LitLemmas.{named_are_literals}
use Rattle.search_laws.proofs.TestLemmas.{in_is, is_in, conflict_is, is_conflicting}
use Rattle.search_laws.proofs.tests_tell_the_closure.Goals as goal

pub returns-clause-closure : goal.returns-clause-closure
returns-clause-closure c = λ clauses decisions l. (in_is named named_are_literals clauses decisions l, is_in named named_are_literals clauses decisions l)

pub returns-clause-conflict : goal.returns-clause-conflict
returns-clause-conflict c = λ clauses decisions. (conflict_is named named_are_literals clauses decisions, is_conflicting named named_are_literals clauses decisions)
