use Rattle.std.proofs.Common.{◌≡◌}
use Rattle.rv_assemble.specs.Demo.{demo_input}
use Rattle.rv_assemble.proofs.demo.demo_input.Given as goal

abbrev pub invariant-loop-i : goal.invariant-loop-i
invariant-loop-i l = l.input.items ≡ demo_input l.fn.kind l.i
