use Rattle.std.proofs.Common.{◌≤◌, ◌+◌}
use Rattle.search_tests.proofs.tests.formulas.kinds.Given as goal

abbrev pub invariant-loop-name : goal.invariant-loop-name
invariant-loop-name l = l.ands + l.xors ≤ l.name
