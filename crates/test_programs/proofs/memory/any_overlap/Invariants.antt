use Rattle.std.proofs.Common.{◌≡◌, drop, map}
use Rattle.elf32.specs.Spans.{overlap}
use Rattle.rv_assemble.specs.Parts.{span_of}
use Rattle.test_programs.proofs.memory.any_overlap.Given as goal

abbrev pub invariant-loop-i : goal.invariant-loop-i
invariant-loop-i l = overlap (map span_of l.regions) ≡ overlap (map span_of (drop l.i l.regions))
