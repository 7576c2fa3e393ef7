use Rattle.std.proofs.Common.{◌<◌, All, subst}
use Rattle.std.proofs.lemmas.List.Elements.{All-more}
use Rattle.elf32.specs.declared.segments.Segment.{Segment}
use Rattle.sym_replay.proofs.state.segments_hold_bytes.Goals as goal

pub loop-segment-preserved : goal.loop-segment-preserved
loop-segment-preserved c =
    let P : Segment → Type 0 = λ s. All (λ b. b < 256) s.bytes in
    let bytes : P c.segment-item.result = subst (All (λ b. b < 256)) c.as_slice.ensures c.are_bytes.ensures in
    All-more P c.args.segments.now c.loop-segment.segment-index c.segment-item.result c.loop-segment-test.true c.loop-segment.invariant (subst P c.segment-item.is bytes)
