use Rattle.std.proofs.Common.{◌≡◌, List, sym, ap, ◌∙◌, arith, length, take, subst}
use Rattle.std.proofs.lemmas.List.{take_all}
use Rattle.gate_net.specs.declared.literals.Lit.{Lit}
use Rattle.search_model.specs.Model.{AreFilled}
use Rattle.unit_close.proofs.DecideLemmas.{working_empty}
use Rattle.unit_close.proofs.SubsumeLemmas.{stand_none}
use Rattle.unit_close.proofs.closer.Closer.load.Goals as goal

pub invariant_of-result : goal.invariant_of-result
invariant_of-result c =
    let w = c.loop-clause.watches in
    let given = c.len-given.result in
    let all : w.clauses ≡ c.args.formula.now.clauses =
    c.loop-clause.invariant.clauses ∙ take_all c.loop-clause.clause-index c.args.formula.now.clauses (omega (arith, c.loop-clause-test.false, ap length c.as_slice-clause-items.ensures)) in
    let first : take given w.clauses ≡ c.args.formula.now.clauses = take_all given w.clauses (omega (arith, c.len-given.ensures.len)) ∙ all in
    record {
      working = working_empty w c.in_ok-trail.trail c.len-given.ensures.watching (c.loop-clause.invariant.names ∙ sym c.in_ok-trail.ensures.fresh.values) c.in_ok-trail.ensures.fresh.literals c.in_ok-trail.ensures.fresh.marks;
      idle = c.loop-clause.invariant.idle;
      standing = stand_none given w.clauses c.new-3.result c.len-given.ensures.len c.new-3.ensures;
      filled = subst (λ (cs : List (List Lit)). AreFilled cs) (sym first) c.args.formula.now.filled;
      ready = λ e. cc;
      fresh = λ _. (c.in_ok-trail.ensures.fresh.literals, c.in_ok-trail.ensures.fresh.marks);
    }
