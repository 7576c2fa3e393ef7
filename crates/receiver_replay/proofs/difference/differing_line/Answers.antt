use Rattle.std.proofs.Common.{◌≡◌, ◌<◌, ◌≤◌, length, get_or, sym, arith}
use Rattle.receiver_replay.proofs.DifferenceLemmas.{past_end, within_line, left_is_over, both_are_over}
use Rattle.receiver_replay.proofs.difference.differing_line.Goals as goal
use Rattle.receiver_replay.proofs.difference.differing_line.Goals.{then-byte-eq10, else-byte-eq10}

pub loop-index-preserved : goal.loop-index-preserved
loop-index-preserved c =
    let within : c.loop-index.index ≤ length c.args.right.now = c.loop-index.invariant.within in
    let more : c.loop-index.index < length c.args.right.now = omega (arith, c.if-index-right.false, within) in
    let same : get_or c.args.left.now c.loop-index.index 0 ≡ get_or c.args.right.now c.loop-index.index 0 = omega (arith, c.if-byte-right.false) in
    elim c.if-byte-eq10.branch [
      | then-byte-eq10 w ↦ rw w.line-is (past_end c.args.left.now c.args.right.now c.loop-index.index c.loop-index.line c.loop-index.invariant c.loop-index-test.true more same (omega (arith, w.if-byte-eq10)))
      | else-byte-eq10 w ↦ rw w.line-is (within_line c.args.left.now c.args.right.now c.loop-index.index c.loop-index.line c.loop-index.invariant c.loop-index-test.true more same (λ is. omega (arith, w.if-byte-eq10, is)))
    ]

pub returns-then-left-right : goal.returns-then-left-right
returns-then-left-right c = sym (left_is_over c.args.left.now c.args.right.now c.loop-index.index c.loop-index.line c.loop-index.invariant (omega (arith, c.loop-index-test.false, c.loop-index.auto.index-end)) c.if-left-right.true)

pub returns : goal.returns
returns c =
    let less : length c.args.right.now ≤ length c.args.left.now = omega (arith, c.if-left-right.false) in
    sym (both_are_over c.args.left.now c.args.right.now c.loop-index.index c.loop-index.line c.loop-index.invariant (omega (arith, c.loop-index-test.false, c.loop-index.auto.index-end)) less)
