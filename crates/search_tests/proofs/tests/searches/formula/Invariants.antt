use Rattle.std.proofs.Common.{◌<◌, length, List}
use Rattle.std.specs.Prelude.{All}
use Rattle.gate_net.specs.declared.literals.Lit.{Lit}
use Rattle.gate_net.specs.Lits.{AreNamed}
use Rattle.search_tests.proofs.tests.searches.formula.Given as goal

abbrev pub invariant-loop-row : goal.invariant-loop-row
invariant-loop-row l = record {
  named : All (AreNamed l.names) l.clauses.items;
  filled : All (λ (c : List Lit). 0 < length c) l.clauses.items;
}
