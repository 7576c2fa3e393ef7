use Rattle.std.proofs.Common.{List, sym, ◌∙◌, subst}
use Rattle.gate_net.specs.declared.literals.Lit.{Lit}
use Rattle.search_model.specs.Model.{AreFilled}
use Rattle.unit_close.proofs.DecideLemmas.{working_empty}
use Rattle.unit_close.proofs.SubsumeLemmas.{stand_learned}
use Rattle.unit_close.proofs.closer.Closer.learn.Goals as goal

pub invariant_of-self-in-Ok : goal.invariant_of-self-in-Ok
invariant_of-self-in-Ok c =
    let old = c.self.inside.watches in
    let new = c.add_learned.new.watches in
    record {
      working = working_empty new c.clear.new.self c.len.ensures.watching (c.in-Ok.ensures.names ∙ c.self.invariant.working.names ∙ sym c.clear.ensures.names) c.clear.ensures.literals c.clear.ensures.marks;
      idle = c.in-Ok.ensures.loose;
      standing = rw c.in_ok-push.ensures.ok
          (stand_learned c.self.inside.given old.clauses new.clauses c.self.inside.learned c.args.clause.now c.in-Ok.ensures.first c.self.invariant.standing c.in-Ok.ensures.standing);
      filled = subst (λ (cs : List (List Lit)). AreFilled cs) (sym c.in-Ok.ensures.first) c.self.invariant.filled;
      ready = λ e. cc;
      fresh = λ _. (c.clear.ensures.literals, c.clear.ensures.marks);
    }
