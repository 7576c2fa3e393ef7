use Rattle.std.proofs.Common.{◌≡◌, List, [], ◌∷◌, ◌++◌, false, get_or, sym, ◌∙◌, ap, subst}
use Rattle.std.proofs.lemmas.List.{take_all}
use Rattle.gate_net.specs.declared.literals.Lit.{Lit}
use Rattle.unit_close.specs.Closing.{Closing, clauses_of}
use Rattle.unit_close.specs.Values.{IsClosure}
use Rattle.search_model.specs.Literals.{named}
use Rattle.search_model.specs.Tests.{is_conflict, is_open}
use Rattle.clause_solver.proofs.ReachedLemmas.{none_found}
use Rattle.clause_solver.proofs.LoopLemmas.{descends_on, descends_by, descends_start}
use Rattle.clause_solver.proofs.descent.descend.Goals as goal
use Rattle.clause_solver.proofs.descent.descend.Goals.{then-is_open+in_ok-push, else-is_open}

pub loop-l-init : goal.loop-l-init
loop-l-init c =
    let same : c.as_slice.result.now ≡ c.args.decisions.now.items = c.as_slice.ensures.value in
    let P : List Lit → Type 0 = λ ds. IsClosure (clauses_of c.conflicts-conflict.new.closer) ds c.conflicts-conflict.new.closer.values in
    descends_start c.args.closer.now c.args.order.now c.conflicts-conflict.new.closer c.args.decisions.now.items c.conflicts-conflict.result
    c.requires.decisions c.requires.reached c.conflicts-conflict.ensures.kept
    (c.conflicts-conflict.ensures.conflict ∙ ap (is_conflict named (clauses_of c.args.closer.now)) same)
    (λ e. subst P same (c.conflicts-conflict.ensures.closure e))

pub loop-l-preserved : goal.loop-l-preserved
loop-l-preserved c =
    let d : Lit = record { name = 0; positive = false } in
    let calm : c.loop-l.conflict ≡ false = c.if-conflict.false in
    let tested = c.is_open.ensures c.loop-l.decisions.items (c.loop-l.invariant.closure calm) in
    elim c.if-is_open.branch [
      | then-is_open+in_ok-push w ↦
          let new : Closing = w.conflicts-conflict-then-is_open.new.closer in
          let decided : w.as_slice-then-is_open.result.now ≡ c.loop-l.decisions.items ++ get_or c.args.order.now c.loop-l.l-index d ∷ [] = w.as_slice-then-is_open.ensures.value ∙ w.in_ok-push.ensures.items in
          let P : List Lit → Type 0 = λ ds. IsClosure (clauses_of new) ds new.values in
          rw (w.closer-is, w.decisions-is, w.conflict-is, w.in_ok-push.ensures.items)
          (descends_by c.args.closer.now c.args.order.now c.loop-l.l-index c.loop-l.closer c.loop-l.decisions.items c.loop-l.conflict d c.loop-l-test.true calm c.loop-l.invariant
          new w.conflicts-conflict-then-is_open.result c.requires.order (sym w.if-is_open.true ∙ tested) w.conflicts-conflict-then-is_open.ensures.kept
          (w.conflicts-conflict-then-is_open.ensures.conflict ∙ ap (is_conflict named (clauses_of c.loop-l.closer)) decided)
          (λ e. subst P decided (w.conflicts-conflict-then-is_open.ensures.closure e)))
      | else-is_open w ↦
          rw (w.closer-is, w.decisions-is, w.conflict-is)
          (descends_on c.args.closer.now c.args.order.now c.loop-l.l-index c.loop-l.closer c.loop-l.decisions.items c.loop-l.conflict d c.loop-l-test.true calm c.loop-l.invariant (sym w.if-is_open.false ∙ tested))
    ]

pub returns-clause-settled : goal.returns-clause-settled
returns-clause-settled c = λ calm.
    none_found (is_open named (clauses_of c.args.closer.now) c.loop-l.decisions.items) c.args.order.now
    (rw (take_all c.loop-l.l-index c.args.order.now c.loop-l-test.false) at c.loop-l.invariant.settled)
