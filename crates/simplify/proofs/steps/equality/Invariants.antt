use Rattle.term_model.specs.declared.Op.TheVariants.{Eq}
use Rattle.term_arena.specs.Trees.{tree_of}
use Rattle.normal_form.specs.Norm.{measure}
use Rattle.simplify.specs.Steps.{IsOnTheWay}
use Rattle.simplify.proofs.steps.equality.Given as goal

abbrev pub invariant-steps : goal.invariant-steps
invariant-steps l = IsOnTheWay l.fn.arena l.arena Eq (tree_of l.fn.arena l.fn.a) (tree_of l.fn.arena l.fn.b) Eq l.first l.second

abbrev pub decreases-steps : goal.decreases-steps
decreases-steps l = measure Eq (tree_of l.arena l.first) (tree_of l.arena l.second)
