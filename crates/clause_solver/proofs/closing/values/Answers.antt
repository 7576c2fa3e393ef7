use Rattle.std.proofs.Common.{Bool, false, List, [], ◌∷◌, ◌++◌, sym, ◌∙◌, ap, take, map}
use Rattle.unit_close.specs.Closing.{clauses_of}
use Rattle.gate_net.specs.declared.literals.Lit.{Lit}
use Rattle.search_model.specs.Literals.{named}
use Rattle.search_model.specs.Tests.{in_closure}
use Rattle.clause_solver.proofs.CloserLemmas.{map_take_more}
use Rattle.clause_solver.proofs.closing.values.Goals as goal

pub loop-l-preserved : goal.loop-l-preserved
loop-l-preserved c = λ decisions closure.
    let d : Lit = record { name = 0; positive = false } in
    let f : Lit → Bool = in_closure named (clauses_of c.args.closer.now) decisions in
    c.in_ok-push.ensures.items
    ∙ ap (λ (vs : List Bool). vs ++ c.is_true.result ∷ []) (c.loop-l.invariant decisions closure)
    ∙ ap (λ b. map f (take c.loop-l.l-index c.args.literals.now) ++ b ∷ []) (c.is_true.ensures decisions closure)
    ∙ sym (map_take_more f c.args.literals.now c.loop-l.l-index d c.loop-l-test.true)
