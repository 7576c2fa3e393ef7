use Rattle.std.proofs.Common.{List, [], ◌∷◌, ◌++◌, ap, sym, ◌∙◌}
use Rattle.gate_net.specs.declared.literals.Lit.{Lit}
use Rattle.unit_close.proofs.SubsumeLemmas.{take_here}
use Rattle.unit_close.proofs.subsume.first_clauses.Goals as goal

pub loop-i-preserved : goal.loop-i-preserved
loop-i-preserved c = record {
  names = c.in_ok-add.ensures.names ∙ c.loop-i.invariant.names;
  clauses =
      c.in_ok-add.ensures.clauses
      ∙ ap (λ (cs : List (List Lit)). cs ++ c.clause_at.result.now ∷ []) c.loop-i.invariant.clauses
      ∙ sym (take_here c.args.watches.now.clauses c.loop-i.i c.clause_at.result.now c.clause_at.ensures.clause);
  idle = c.in_ok-add.ensures.loose;
}
