use Rattle.term_arena.specs.Trees.{tree_of}
use Rattle.normal_form.specs.Norm.{measure}
use Rattle.simplify.specs.Steps.{IsOnTheWay}
use Rattle.simplify.proofs.steps.normal_form.Given as goal

abbrev pub invariant-steps : goal.invariant-steps
invariant-steps l = IsOnTheWay l.fn.arena l.arena l.fn.op (tree_of l.fn.arena l.fn.a) (tree_of l.fn.arena l.fn.b) l.operation l.first l.second

abbrev pub decreases-steps : goal.decreases-steps
decreases-steps l = measure l.operation (tree_of l.arena l.first) (tree_of l.arena l.second)
