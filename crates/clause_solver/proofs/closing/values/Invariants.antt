use Rattle.std.proofs.Common.{◌≡◌, take, map, List}
use Rattle.gate_net.specs.declared.literals.Lit.{Lit}
use Rattle.unit_close.specs.Closing.{clauses_of}
use Rattle.unit_close.specs.Values.{IsClosure}
use Rattle.search_model.specs.Literals.{named}
use Rattle.search_model.specs.Tests.{in_closure}
use Rattle.clause_solver.proofs.closing.values.Given as goal

abbrev pub invariant-loop-l : goal.invariant-loop-l
invariant-loop-l l =
    (decisions : List Lit) → IsClosure (clauses_of l.closer) decisions l.closer.values →
    l.values.items ≡ map (in_closure named (clauses_of l.closer) decisions) (take l.l-index l.literals)
