use Rattle.std.proofs.Common.{refl}
use Rattle.byte_groups.specs.Gathered.{lists_of}
use Rattle.byte_groups.proofs.GatherLemmas.{gathered_same}
use Rattle.byte_groups.proofs.gathered.gather.Goals as goal
use Rattle.byte_groups.proofs.gathered.gather.Goals.{then-marks-place+in_ok-put, else-marks-place}

pub loop-place-preserved : goal.loop-place-preserved
loop-place-preserved c =
    elim c.if-marks-place.branch [
      | then-marks-place+in_ok-put w ↦
          let done = w.in_ok-put.ensures c.args.labels.now c.args.marks.now refl w.if-marks-place.true c.loop-place.invariant in
          rw (w.numbers-is, w.lists-is) done
      | else-marks-place w ↦
          let done = gathered_same c.args.labels.now c.args.marks.now c.loop-place.numbers (lists_of c.loop-place.lists.items) c.loop-place.place c.loop-place.invariant w.if-marks-place.false in
          rw (w.numbers-is, w.lists-is) done
    ]
