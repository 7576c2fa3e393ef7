use Rattle.std.proofs.Common.{◌≡◌, ◌++◌, List, [], Bool, true, drop, length, arith, refl, sym, ◌∙◌, ap, subst}
use Rattle.std.proofs.lemmas.List.{drop_all}
use Rattle.std.proofs.lemmas.Grind.{common_steps}
use Rattle.gate_net.specs.declared.literals.Lit.{Lit}
use Rattle.unit_close.specs.Closing.{Closing, clauses_of}
use Rattle.search_model.specs.Literals.{named}
use Rattle.wide_laws.specs.Sets.{has_roots, yes_name}
use Rattle.wide_solve.specs.Freeing.{Frees}
use Rattle.wide_solve.proofs.FixedLemmas.{roots_grow, frees_skip, frees_all, old_frees}
use Rattle.wide_solve.proofs.fixed.bits_kept.Goals as goal

pub returns-then-is_empty-clause-fixed : goal.returns-then-is_empty-clause-fixed
returns-then-is_empty-clause-fixed c =
    let none : 0 ≡ length c.args.order.now = grind (arith, common_steps) in
    rw c.new-kept.ensures.items (frees_all (has_roots named yes_name (clauses_of c.args.closer.now) c.args.roots.now) c.args.order.now 0 [] none refl)

pub returns-then-forces-clause-fixed : goal.returns-then-forces-clause-fixed
returns-then-forces-clause-fixed c =
    let clauses : List (List Lit) = clauses_of c.args.closer.now in
    let frees : List Lit → Bool = has_roots named yes_name clauses c.args.roots.now in
    let n = length c.args.order.now in
    let passes : frees ([] ++ drop n c.args.order.now) ≡ true =
    ap (λ (xs : List Lit). frees xs) (drop_all n c.args.order.now (omega arith)) ∙ sym c.forces.ensures.roots ∙ c.if-forces.true in
    rw c.new-kept.ensures.items
    (frees_all frees c.args.order.now n [] refl (frees_skip frees (roots_grow clauses c.args.roots.now) c.args.order.now 0 n [] (omega arith) passes))

pub returns-clause-fixed : goal.returns-clause-fixed
returns-clause-fixed c =
    let old : Closing = c.args.closer.now in
    let new : Closing = c.forces.new.closer in
    let n = length c.args.order.now in
    let kept : List Lit = c.free_part.new.kept.items in
    let whole : Frees (has_roots named yes_name (clauses_of new) c.args.roots.now) c.args.order.now 0 n [] kept =
    subst (λ (xs : List Lit). Frees (has_roots named yes_name (clauses_of new) c.args.roots.now) c.args.order.now 0 n xs kept) c.new-kept.ensures.items c.in_ok-free_part.ensures.freed in
    frees_all (has_roots named yes_name (clauses_of old) c.args.roots.now) c.args.order.now n kept refl
    (old_frees old new c.forces.ensures.kept c.args.roots.now c.args.order.now 0 n [] kept whole)
