use Rattle.std.proofs.Common.{◌≡◌, ℕ, List, [], ◌++◌, length, ◌∙◌, ap, subst, append-nil}
use Rattle.std.specs.Prelude.{All}
use Rattle.gate_net.specs.declared.literals.Lit.{Lit}
use Rattle.gate_net.specs.Lits.{AreNamed}
use Rattle.gate_net.specs.Trees.{all_signed_of}
use Rattle.unit_close.specs.Closing.{clauses_of}
use Rattle.search_model.specs.Literals.{named}
use Rattle.search_model.specs.Tests.{is_conflict}
use Rattle.wide_laws.specs.Sets.{fixed_from, has_roots, force_roots, yes_name}
use Rattle.wide_laws.proofs.Freed.{names_fixed, names_calm}
use Rattle.clause_solver.proofs.TrimLemmas.{ok_more}
use Rattle.wide_solve.proofs.SearchLemmas.{named_below}
use Rattle.wide_solve.proofs.fixed.fixed_bits.Goals as goal

pub bits_kept-requires-clause-calm : goal.bits_kept-requires-clause-calm
bits_kept-requires-clause-calm c = λ bits among.
    let clauses : List (List Lit) = c.in_ok-formula.formula.clauses in
    let below : All (AreNamed (length c.args.net.now)) clauses = named_below clauses c.in_ok-formula.formula.names (length c.args.net.now) c.in_ok-formula.ensures.names c.in_ok-formula.formula.named in
    let given : clauses_of c.in_ok-closer.closer ≡ clauses =
    ap (λ (cs : List (List Lit)). c.in_ok-closer.closer.formula ++ cs) c.in_ok-closer.ensures.learned ∙ append-nil c.in_ok-closer.closer.formula ∙ c.in_ok-closer.ensures.formula in
    ap (λ (cs : List (List Lit)). is_conflict named cs bits) given
    ∙ names_calm c.args.net.now c.len-net.ensures.net c.args.roots.now clauses below c.in_ok-formula.ensures.clauses
    c.requires.own.0 c.requires.own.1 c.args.order.now c.requires.order c.requires.own.2 bits among

pub returns-clause-named : goal.returns-clause-named
returns-clause-named c =
    ok_more c.bits_kept.result (λ kept. AreNamed c.in_ok-closer.closer.names kept.items) (λ kept. AreNamed (length c.args.net.now) kept.items)
    (λ kept are. let e : c.in_ok-closer.closer.names ≡ length c.args.net.now = c.in_ok-closer.ensures.names ∙ c.in_ok-formula.ensures.names in
    subst (λ (n : ℕ). AreNamed n kept.items) e are)
    c.bits_kept.ensures.named

pub returns-clause-fixed : goal.returns-clause-fixed
returns-clause-fixed c =
    let clauses : List (List Lit) = c.in_ok-formula.formula.clauses in
    let below : All (AreNamed (length c.args.net.now)) clauses = named_below clauses c.in_ok-formula.formula.names (length c.args.net.now) c.in_ok-formula.ensures.names c.in_ok-formula.formula.named in
    let given : clauses_of c.in_ok-closer.closer ≡ clauses =
    ap (λ (cs : List (List Lit)). c.in_ok-closer.closer.formula ++ cs) c.in_ok-closer.ensures.learned ∙ append-nil c.in_ok-closer.closer.formula ∙ c.in_ok-closer.ensures.formula in
    let by_trees =
    names_fixed c.args.net.now c.len-net.ensures.net c.args.roots.now clauses below c.in_ok-formula.ensures.clauses c.requires.roots c.args.order.now c.requires.order in
    ok_more c.bits_kept.result (λ kept. kept.items ≡ fixed_from (has_roots named yes_name (clauses_of c.in_ok-closer.closer) c.args.roots.now) [] c.args.order.now)
    (λ kept. all_signed_of c.args.net.now kept.items ≡ fixed_from (force_roots (all_signed_of c.args.net.now c.args.roots.now)) [] (all_signed_of c.args.net.now c.args.order.now))
    (λ kept is.
    ap (all_signed_of c.args.net.now) is
    ∙ ap (λ (cs : List (List Lit)). all_signed_of c.args.net.now (fixed_from (has_roots named yes_name cs c.args.roots.now) [] c.args.order.now)) given
    ∙ by_trees)
    c.bits_kept.ensures.fixed
