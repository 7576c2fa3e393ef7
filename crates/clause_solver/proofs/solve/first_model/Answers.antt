use Rattle.std.proofs.Common.{◌≡◌, ◌<◌, ◌≤◌, List, [], true, false, length, map, take, arith, sym, ◌∙◌, subst}
use Rattle.gate_net.specs.declared.literals.Lit.{Lit}
use Rattle.unit_close.specs.Closing.{clauses_of}
use Rattle.search_model.specs.Literals.{named}
use Rattle.std.proofs.lemmas.Grind.{common_steps}
use Rattle.search_model.specs.Tests.{in_closure, is_conflict}
use Rattle.search_laws.proofs.ListLemmas.{true_is_false}
use Rattle.clause_solver.proofs.ReachedLemmas.{no_elements}
use Rattle.search_model.specs.Search.{search_end, conflict_count}
use Rattle.clause_solver.proofs.SolveLemmas.{counts_start, conflict_ends, filled_old, learned_so_far, model_count, model_learned, model_calm, model_values, model_first, conflict_count_is, conflict_learned, conflict_is, conflict_no_model, counts_more, spent_count, spent_learned}
use Rattle.clause_solver.proofs.solve.first_model.Goals as goal

pub loop-conflicts-init : goal.loop-conflicts-init
loop-conflicts-init c = counts_start c.args.closer.now c.args.order.now c.new-decisions.result.items c.requires.fresh c.new-decisions.ensures.items

pub returns-in_err-descend-clause-learned : goal.returns-in_err-descend-clause-learned
returns-in_err-descend-clause-learned c =
    learned_so_far c.args.closer.now c.args.order.now c.loop-conflicts.conflicts c.loop-conflicts.closer c.loop-conflicts.decisions.items c.loop-conflicts.invariant c.descend.new.closer c.descend.new.decisions.items c.descend.ensures.kept c.descend.ensures.reached

pub returns-in_err-values-clause-learned : goal.returns-in_err-values-clause-learned
returns-in_err-values-clause-learned c =
    learned_so_far c.args.closer.now c.args.order.now c.loop-conflicts.conflicts c.loop-conflicts.closer c.loop-conflicts.decisions.items c.loop-conflicts.invariant c.descend.new.closer c.descend.new.decisions.items c.descend.ensures.kept c.descend.ensures.reached

pub returns-then-not-branch-clause-found : goal.returns-then-not-branch-clause-found
returns-then-not-branch-clause-found c =
    let calm : false ≡ is_conflict named (clauses_of c.loop-conflicts.closer) c.descend.new.decisions.items = sym c.if-not-branch.true ∙ c.in_ok-descend.ensures.conflict in
    let none = c.in_ok-descend.ensures.settled c.if-not-branch.true in
    let values : c.from_vec-values.result ≡ map (in_closure named (clauses_of c.descend.new.closer) c.descend.new.decisions.items) c.args.order.now =
    c.from_vec-values.ensures ∙ c.in_ok-values.ensures c.descend.new.decisions.items (c.in_ok-descend.ensures.closure c.if-not-branch.true) in (
      model_calm c.args.closer.now c.args.order.now c.loop-conflicts.conflicts c.loop-conflicts.closer c.loop-conflicts.decisions.items c.loop-conflicts.invariant c.descend.new.closer c.descend.new.decisions.items c.descend.ensures.kept c.descend.ensures.reached calm none,
      model_values c.args.closer.now c.args.order.now c.loop-conflicts.conflicts c.loop-conflicts.closer c.loop-conflicts.decisions.items c.loop-conflicts.invariant c.descend.new.closer c.descend.new.decisions.items c.descend.ensures.kept c.descend.ensures.reached calm none c.from_vec-values.result values,
      model_count c.args.closer.now c.args.order.now c.loop-conflicts.conflicts c.loop-conflicts.closer c.loop-conflicts.decisions.items c.loop-conflicts.invariant c.descend.new.closer c.descend.new.decisions.items c.descend.ensures.kept c.descend.ensures.reached calm none,
      model_first c.args.closer.now c.args.order.now c.loop-conflicts.conflicts c.loop-conflicts.closer c.loop-conflicts.decisions.items c.loop-conflicts.invariant c.descend.new.closer c.descend.new.decisions.items c.descend.ensures.kept c.descend.ensures.reached calm none c.from_vec-values.result values c.requires.settled
          (filled_old c.args.closer.now c.args.order.now c.loop-conflicts.conflicts c.loop-conflicts.closer c.loop-conflicts.decisions.items c.loop-conflicts.invariant c.descend.ensures.filled),
    )

pub returns-then-not-branch-clause-no_model : goal.returns-then-not-branch-clause-no_model
returns-then-not-branch-clause-no_model c = λ no_models.
    let filled = (filled_old c.args.closer.now c.args.order.now c.loop-conflicts.conflicts c.loop-conflicts.closer c.loop-conflicts.decisions.items c.loop-conflicts.invariant c.descend.ensures.filled) in
    let calm : false ≡ is_conflict named (clauses_of c.loop-conflicts.closer) c.descend.new.decisions.items = sym c.if-not-branch.true ∙ c.in_ok-descend.ensures.conflict in
    let none = c.in_ok-descend.ensures.settled c.if-not-branch.true in
    let conflict = conflict_ends c.args.closer.now.formula c.args.order.now c.requires.settled filled no_models in
    let calm_end = model_calm c.args.closer.now c.args.order.now c.loop-conflicts.conflicts c.loop-conflicts.closer c.loop-conflicts.decisions.items c.loop-conflicts.invariant c.descend.new.closer c.descend.new.decisions.items c.descend.ensures.kept c.descend.ensures.reached calm none in
    absurd (true_is_false _ conflict calm_end)

pub returns-then-not-branch-clause-below : goal.returns-then-not-branch-clause-below
returns-then-not-branch-clause-below c =
    let calm : false ≡ is_conflict named (clauses_of c.loop-conflicts.closer) c.descend.new.decisions.items = sym c.if-not-branch.true ∙ c.in_ok-descend.ensures.conflict in
    let none = c.in_ok-descend.ensures.settled c.if-not-branch.true in
    let count : c.loop-conflicts.conflicts ≡ conflict_count named c.args.closer.now.formula c.args.order.now = model_count c.args.closer.now c.args.order.now c.loop-conflicts.conflicts c.loop-conflicts.closer c.loop-conflicts.decisions.items c.loop-conflicts.invariant c.descend.new.closer c.descend.new.decisions.items c.descend.ensures.kept c.descend.ensures.reached calm none in
    let less : c.loop-conflicts.conflicts < c.args.budget = c.loop-conflicts-test.true in
    omega (arith, count, less)

pub returns-then-not-branch-clause-all_learned : goal.returns-then-not-branch-clause-all_learned
returns-then-not-branch-clause-all_learned c =
    let calm : false ≡ is_conflict named (clauses_of c.loop-conflicts.closer) c.descend.new.decisions.items = sym c.if-not-branch.true ∙ c.in_ok-descend.ensures.conflict in
    let none = c.in_ok-descend.ensures.settled c.if-not-branch.true in
    model_learned c.args.closer.now c.args.order.now c.loop-conflicts.conflicts c.loop-conflicts.closer c.loop-conflicts.decisions.items c.loop-conflicts.invariant c.descend.new.closer c.descend.new.decisions.items c.descend.ensures.kept c.descend.ensures.reached calm none

pub returns-then-is_empty-clause-found : goal.returns-then-is_empty-clause-found
returns-then-is_empty-clause-found c =
    let conflict : true ≡ is_conflict named (clauses_of c.loop-conflicts.closer) c.descend.new.decisions.items = sym c.if-not-branch.false ∙ c.in_ok-descend.ensures.conflict in
    let empty : length c.descend.new.decisions.items ≡ 0 = grind (arith, common_steps) in
    let none : c.descend.new.decisions.items ≡ [] = no_elements c.descend.new.decisions.items empty in
    (conflict_is c.args.closer.now c.args.order.now c.loop-conflicts.conflicts c.loop-conflicts.closer c.loop-conflicts.decisions.items c.loop-conflicts.invariant c.descend.new.closer c.descend.new.decisions.items c.descend.ensures.kept c.descend.ensures.reached conflict none, conflict_no_model c.args.closer.now c.args.order.now c.loop-conflicts.conflicts c.loop-conflicts.closer c.loop-conflicts.decisions.items c.loop-conflicts.invariant c.descend.new.closer c.descend.new.decisions.items c.descend.ensures.kept c.descend.ensures.reached conflict none)

pub returns-then-is_empty-clause-below : goal.returns-then-is_empty-clause-below
returns-then-is_empty-clause-below c =
    let conflict : true ≡ is_conflict named (clauses_of c.loop-conflicts.closer) c.descend.new.decisions.items = sym c.if-not-branch.false ∙ c.in_ok-descend.ensures.conflict in
    let empty : length c.descend.new.decisions.items ≡ 0 = grind (arith, common_steps) in
    let none : c.descend.new.decisions.items ≡ [] = no_elements c.descend.new.decisions.items empty in
    let count : c.loop-conflicts.conflicts ≡ conflict_count named c.args.closer.now.formula c.args.order.now = conflict_count_is c.args.closer.now c.args.order.now c.loop-conflicts.conflicts c.loop-conflicts.closer c.loop-conflicts.decisions.items c.loop-conflicts.invariant c.descend.new.closer c.descend.new.decisions.items c.descend.ensures.kept c.descend.ensures.reached conflict none in
    let less : c.loop-conflicts.conflicts < c.args.budget = c.loop-conflicts-test.true in
    omega (arith, count, less)

pub returns-then-is_empty-clause-all_learned : goal.returns-then-is_empty-clause-all_learned
returns-then-is_empty-clause-all_learned c =
    let conflict : true ≡ is_conflict named (clauses_of c.loop-conflicts.closer) c.descend.new.decisions.items = sym c.if-not-branch.false ∙ c.in_ok-descend.ensures.conflict in
    let empty : length c.descend.new.decisions.items ≡ 0 = grind (arith, common_steps) in
    let none : c.descend.new.decisions.items ≡ [] = no_elements c.descend.new.decisions.items empty in
    conflict_learned c.args.closer.now c.args.order.now c.loop-conflicts.conflicts c.loop-conflicts.closer c.loop-conflicts.decisions.items c.loop-conflicts.invariant c.descend.new.closer c.descend.new.decisions.items c.descend.ensures.kept c.descend.ensures.reached conflict none

pub returns-then-not-branch-clause-learned : goal.returns-then-not-branch-clause-learned
returns-then-not-branch-clause-learned c =
    learned_so_far c.args.closer.now c.args.order.now c.loop-conflicts.conflicts c.loop-conflicts.closer c.loop-conflicts.decisions.items c.loop-conflicts.invariant c.descend.new.closer c.descend.new.decisions.items c.descend.ensures.kept c.descend.ensures.reached

pub returns-then-is_empty-clause-learned : goal.returns-then-is_empty-clause-learned
returns-then-is_empty-clause-learned c =
    learned_so_far c.args.closer.now c.args.order.now c.loop-conflicts.conflicts c.loop-conflicts.closer c.loop-conflicts.decisions.items c.loop-conflicts.invariant c.descend.new.closer c.descend.new.decisions.items c.descend.ensures.kept c.descend.ensures.reached

pub returns-in_err-learn-clause-learned : goal.returns-in_err-learn-clause-learned
returns-in_err-learn-clause-learned c =
    let same : c.learn.new.closer.learned ≡ c.descend.new.closer.learned = c.in_err-learn.ensures.err in
    let P : List (List Lit) → Type 0 = λ k. k ≡ take (length k) (search_end named c.args.closer.now.formula c.args.order.now).learned in
    subst P (sym same)
    (learned_so_far c.args.closer.now c.args.order.now c.loop-conflicts.conflicts c.loop-conflicts.closer c.loop-conflicts.decisions.items c.loop-conflicts.invariant c.descend.new.closer c.descend.new.decisions.items c.descend.ensures.kept c.descend.ensures.reached)

pub loop-conflicts-preserved : goal.loop-conflicts-preserved
loop-conflicts-preserved c =
    let conflict : true ≡ is_conflict named (clauses_of c.loop-conflicts.closer) c.descend.new.decisions.items = sym c.if-not-branch.false ∙ c.in_ok-descend.ensures.conflict in
    let some : 0 < length c.descend.new.decisions.items = grind (arith, common_steps) in
    counts_more c.args.closer.now c.args.order.now c.loop-conflicts.conflicts c.loop-conflicts.closer c.loop-conflicts.decisions.items c.loop-conflicts.invariant c.descend.new.closer c.descend.new.decisions.items c.descend.ensures.kept c.descend.ensures.reached conflict c.learn.new.closer c.learn.new.decisions.items some c.learn.ensures.kept c.learn.ensures.named c.in_ok-learn.ensures.one c.in_ok-learn.ensures.learned

pub returns-clause-spent : goal.returns-clause-spent
returns-clause-spent c = λ is.
    let most : c.args.budget ≤ c.loop-conflicts.conflicts = c.loop-conflicts-test.false in
    omega (arith, most, spent_count c.args.closer.now c.args.order.now c.loop-conflicts.conflicts c.loop-conflicts.closer c.loop-conflicts.decisions.items c.loop-conflicts.invariant)

pub returns-clause-learned : goal.returns-clause-learned
returns-clause-learned c = spent_learned c.args.closer.now c.args.order.now c.loop-conflicts.conflicts c.loop-conflicts.closer c.loop-conflicts.decisions.items c.loop-conflicts.invariant
