use Rattle.std.proofs.Common.{◌<◌, length}
use Rattle.search_tests.proofs.tests.formulas.byte_is.Given as goal

abbrev pub invariant-loop-bit : goal.invariant-loop-bit
invariant-loop-bit l = l.equal.name < length l.net
