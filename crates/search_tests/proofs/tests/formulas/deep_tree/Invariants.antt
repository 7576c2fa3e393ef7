use Rattle.std.proofs.Common.{◌<◌, length}
use Rattle.search_tests.proofs.tests.formulas.deep_tree.Given as goal

abbrev pub invariant-loop : goal.invariant-loop
invariant-loop l = (l.deep.name < length l.net) × (l.second.name < length l.net)
