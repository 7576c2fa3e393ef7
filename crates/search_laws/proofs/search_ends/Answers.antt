-- By the bound on turns.
use Rattle.std.proofs.Common.{◌≡◌, length, take, subst}
use Rattle.gate_net.specs.declared.literals.Lit.{Lit}
use Rattle.search_model.specs.Literals.{named}
use Rattle.search_model.specs.Search.{State, after, search_end}
use Rattle.search_laws.proofs.LitLemmas.{named_are_literals}
use Rattle.search_laws.proofs.After.{end_comes, end_front, front_is_take}
use Rattle.search_laws.proofs.Runs.{the_end, come_to_end, turns_after}
use Rattle.search_laws.proofs.search_ends.Goals as goal

pub returns-clause-comes : goal.returns-clause-comes
returns-clause-comes c = end_comes named named_are_literals

pub returns-clause-ends : goal.returns-clause-ends
returns-clause-ends c = the_end named named_are_literals

pub returns-clause-one_end : goal.returns-clause-one_end
returns-clause-one_end c = come_to_end named named_are_literals

pub returns-clause-after : goal.returns-clause-after
returns-clause-after c = turns_after named named_are_literals

pub returns-clause-learned : goal.returns-clause-learned
returns-clause-learned c = λ clauses order s (n, run).
    let P : State Lit → Type 0 = λ x. x.learned ≡ take (length x.learned) (search_end named clauses order).learned in
    subst P (turns_after named named_are_literals clauses order n s run)
    (front_is_take named named_are_literals clauses order (after named clauses order n).learned (search_end named clauses order).learned (end_front named named_are_literals clauses order n))
