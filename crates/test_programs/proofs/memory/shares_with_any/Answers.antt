use Rattle.std.proofs.Common.{◌∙◌}
use Rattle.elf32.specs.Spans.{share}
use Rattle.test_programs.proofs.Regions.{any_span}
use Rattle.test_programs.proofs.memory.shares_with_any.Goals as goal

pub returns : goal.returns
returns c = c.any_shares.ensures ∙ any_span (share (record { base = c.args.base; size = c.args.size })) c.args.regions.now
