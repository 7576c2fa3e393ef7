use Rattle.std.proofs.Common.{◌≡◌, ◌<◌, length}
use Rattle.term_arena.specs.Trees.{tree_of}
use Rattle.normal_form.specs.Norm.{norm}
use Rattle.normal_form.specs.Normal.{IsNormal}
use Rattle.replay_law.specs.Forms.{pin}
use Rattle.path_condition.proofs.forms.without_constants.Given as goal

-- the term belongs to the arena, is normal, and has the same pin
abbrev pub invariant-loop-sum : goal.invariant-loop-sum
invariant-loop-sum l =
    (l.term < length l.arena) × IsNormal (tree_of l.arena l.term) × (pin norm (tree_of l.arena l.term) l.word ≡ pin norm (tree_of l.arena l.fn.t) l.fn.value)

abbrev pub decreases-loop-sum : goal.decreases-loop-sum
decreases-loop-sum l = l.term
