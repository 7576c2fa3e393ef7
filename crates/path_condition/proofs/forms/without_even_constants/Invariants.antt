use Rattle.std.proofs.Common.{◌≡◌, ◌<◌, length}
use Rattle.term_arena.specs.Trees.{tree_of}
use Rattle.normal_form.specs.Norm.{norm}
use Rattle.normal_form.specs.Normal.{IsNormal}
use Rattle.replay_law.specs.Forms.{target}
use Rattle.path_condition.proofs.forms.without_even_constants.Given as goal

-- the term belongs to the arena, is normal, and has the same target condition
abbrev pub invariant-loop-sum : goal.invariant-loop-sum
invariant-loop-sum l =
    (l.term < length l.arena) × IsNormal (tree_of l.arena l.term) × (target norm (tree_of l.arena l.term) l.word ≡ target norm (tree_of l.arena l.fn.sum) l.fn.target)

abbrev pub decreases-loop-sum : goal.decreases-loop-sum
decreases-loop-sum l = l.term
