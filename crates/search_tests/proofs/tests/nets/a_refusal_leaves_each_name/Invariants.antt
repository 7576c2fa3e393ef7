use Rattle.std.proofs.Common.{◌<◌, length}
use Rattle.search_tests.proofs.tests.nets.a_refusal_leaves_each_name.Given as goal

abbrev pub invariant-loop-place : goal.invariant-loop-place
invariant-loop-place g l = l.a.name < length l.net
