use Rattle.std.proofs.Common.{◌≡◌, drop}
use Rattle.elf32.specs.Spans.{overlap}
use Rattle.elf32.specs.Rules.{spans_of}
use Rattle.elf32.proofs.rules.any_overlap.Given as goal

abbrev pub invariant-loop-i : goal.invariant-loop-i
invariant-loop-i l = overlap (spans_of l.headers) ≡ overlap (spans_of (drop l.i l.headers))
