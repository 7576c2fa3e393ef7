use Rattle.std.proofs.Common.{◌≡◌, ◌++◌, List, take, ap, subst, refl}
use Rattle.std.specs.Prelude.{Bool, Option}
use Rattle.gate_net.specs.declared.literals.Lit.{Lit}
use Rattle.search_model.specs.Literals.{named}
use Rattle.search_model.specs.Closure.{IsConflict}
use Rattle.unit_close.specs.Values.{IsClosure}
use Rattle.unit_close.specs.Closing.{clauses_of}
use Rattle.unit_close.proofs.CloserLemmas.{only_conflict}
use Rattle.unit_close.proofs.DecideLemmas.{closure_calm}
use Rattle.unit_close.proofs.SubsumeLemmas.{conflict_all, closure_all}
use Rattle.unit_close.proofs.closer.Closer.close.Goals as goal
use Rattle.unit_close.proofs.closer.Closer.close.Goals.{After-make_ready}

all : (c : After-make_ready) → take c.self.inside.given c.self.inside.watches.clauses ++ c.self.inside.learned ≡ clauses_of c.args.self.now
all c = ap clauses_of c.self.view_is

conflict : (c : After-make_ready) → IsConflict named c.self.inside.watches.clauses c.args.decisions.now → IsConflict named (clauses_of c.args.self.now) c.args.decisions.now
conflict c h =
    subst (λ (cs : List (List Lit)). IsConflict named cs c.args.decisions.now) (all c)
    (conflict_all c.self.inside.given c.self.inside.watches.clauses c.self.inside.learned c.self.invariant.standing c.args.decisions.now h)

closure : (c : After-make_ready) (values : List (Option Bool)) → IsClosure c.self.inside.watches.clauses c.args.decisions.now values → IsClosure (clauses_of c.args.self.now) c.args.decisions.now values
closure c values h =
    subst (λ (cs : List (List Lit)). IsClosure cs c.args.decisions.now values) (all c)
    (closure_all c.self.inside.given c.self.inside.watches.clauses c.self.inside.learned c.self.invariant.standing c.args.decisions.now values h)

pub returns-in-Conflict-clause-conflict : goal.returns-in-Conflict-clause-conflict
returns-in-Conflict-clause-conflict c = (
  λ _. conflict (goal.at.returns-in-Conflict-clause-conflict c).After-make_ready (c.in-Conflict.ensures.conflict refl c.args.decisions.now),
  λ _. refl,
)

pub returns-in-Set-clause-closed : goal.returns-in-Set-clause-closed
returns-in-Set-clause-closed c = λ is_set.
    closure (goal.at.returns-in-Set-clause-closed c).After-make_ready c.close_trail.new.trail.values
    (rw c.make_ready.ensures.same.clauses at (c.close_trail.ensures.closed is_set))

pub returns-in-Set-clause-conflict : goal.returns-in-Set-clause-conflict
returns-in-Set-clause-conflict c =
    let ready = (goal.at.returns-in-Set-clause-conflict c).After-make_ready in (
      (λ is. conflict ready (rw c.make_ready.ensures.same.clauses at (c.close_trail.ensures.conflict is))),
      (λ all_conflict. only_conflict c.close_trail.result (λ is_set.
          closure_calm (clauses_of c.args.self.now) c.args.decisions.now c.close_trail.new.trail.values
          (closure ready c.close_trail.new.trail.values (rw c.make_ready.ensures.same.clauses at (c.close_trail.ensures.closed is_set))) all_conflict)),
    )
