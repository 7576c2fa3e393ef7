use Rattle.std.proofs.Common.{◌<◌, All, take}
use Rattle.elf32.specs.declared.segments.Segment.{Segment}
use Rattle.sym_replay.proofs.state.segments_hold_bytes.Given as goal

-- the segments so far hold bytes
abbrev pub invariant-loop-segment : goal.invariant-loop-segment
invariant-loop-segment l = All (λ (s : Segment). All (λ b. b < 256) s.bytes) (take l.segment-index l.segments)
