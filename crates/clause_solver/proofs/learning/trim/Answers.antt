use Rattle.std.proofs.Common.{◌≡◌, ◌++◌, List, [], Bool, true, drop, length, arith, refl, sym, ◌∙◌, ap, subst}
use Rattle.std.proofs.lemmas.List.{drop_all}
use Rattle.std.proofs.lemmas.Grind.{common_steps}
use Rattle.gate_net.specs.declared.literals.Lit.{Lit}
use Rattle.unit_close.specs.Closing.{Closing, clauses_of}
use Rattle.search_model.specs.Literals.{named}
use Rattle.search_model.specs.Tests.{is_conflict}
use Rattle.clause_solver.specs.Solved.{Trims}
use Rattle.clause_solver.proofs.TrimLemmas.{trims_skip, trims_all, conflicts_grow, old_trims}
use Rattle.clause_solver.proofs.learning.trim.Goals as goal

pub returns-then-is_empty-clause-trimmed : goal.returns-then-is_empty-clause-trimmed
returns-then-is_empty-clause-trimmed c =
    let none : 0 ≡ length c.args.decisions.now = grind (arith, common_steps) in
    rw c.new.ensures.items (trims_all (is_conflict named (clauses_of c.args.closer.now)) c.args.decisions.now [] 0 0 none refl)

pub returns-then-conflicts-clause-trimmed : goal.returns-then-conflicts-clause-trimmed
returns-then-conflicts-clause-trimmed c =
    let test : List Lit → Bool = is_conflict named (clauses_of c.args.closer.now) in
    let n = length c.args.decisions.now in
    let passes : test ([] ++ drop n c.args.decisions.now) ≡ true =
    ap (λ (xs : List Lit). test xs) (drop_all n c.args.decisions.now (omega arith)) ∙ sym c.conflicts.ensures.conflict ∙ c.if-conflicts.true in
    rw c.new.ensures.items
    (trims_all test c.args.decisions.now [] 0 n refl (trims_skip test (conflicts_grow (clauses_of c.args.closer.now)) c.args.decisions.now 0 n [] 0 (omega arith) passes))

pub returns-clause-trimmed : goal.returns-clause-trimmed
returns-clause-trimmed c =
    let old : Closing = c.args.closer.now in
    let new : Closing = c.conflicts.new.closer in
    let n = length c.args.decisions.now in
    let left : List Lit = c.trim_part.new.trimmed.left.items in
    let before = c.trim_part.new.trimmed.before in
    let whole : Trims (is_conflict named (clauses_of new)) c.args.decisions.now 0 n [] 0 left before =
    subst (λ (xs : List Lit). Trims (is_conflict named (clauses_of new)) c.args.decisions.now 0 n xs 0 left before) c.new.ensures.items c.in_ok-trim_part.ensures.trimmed in
    trims_all (is_conflict named (clauses_of old)) c.args.decisions.now left before n refl
    (old_trims old new c.conflicts.ensures.kept c.args.decisions.now 0 n [] 0 left before whole)
