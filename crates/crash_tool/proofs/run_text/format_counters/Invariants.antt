use Rattle.std.proofs.Common.{◌≡◌, ◌++◌, drop}
use Rattle.std.specs.Prelude.{codes}
use Rattle.std.specs.String.{string_bytes}
use Rattle.crash_tool.specs.RunText.{spaced}
use Rattle.crash_tool.proofs.run_text.format_counters.Given as goal

-- the text so far and that of the rest are the whole line
abbrev pub invariant-loop-counter : goal.invariant-loop-counter
invariant-loop-counter l = string_bytes l.line ++ spaced (drop l.counter-index l.last) ≡ codes "last" ++ spaced l.last
