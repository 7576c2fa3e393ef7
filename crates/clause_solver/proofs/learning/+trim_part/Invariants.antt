use Rattle.std.proofs.Common.{◌-◌}
use Rattle.clause_solver.proofs.learning.+trim_part.Given as goal

abbrev pub decreases-trim_part : goal.decreases-trim_part
decreases-trim_part l = l.end - l.start
