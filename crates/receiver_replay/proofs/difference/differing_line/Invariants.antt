use Rattle.receiver_replay.proofs.DifferenceLemmas.{IsAt}
use Rattle.receiver_replay.proofs.difference.differing_line.Given as goal

-- all bytes before the place are the same
abbrev pub invariant-loop-index : goal.invariant-loop-index
invariant-loop-index l = IsAt l.left l.right l.index l.line
