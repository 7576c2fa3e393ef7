use Rattle.std.proofs.Common.{◌<◌, ◌^◌, arith}
use Rattle.simplify.proofs.ByteLemmas.{not_ones_past}
use Rattle.simplify.proofs.reading.is_all_ones.Goals as goal

pub returns-else-k-lt4 : goal.returns-else-k-lt4
returns-else-k-lt4 c = let word : c.args.c < 2 ^ 32 = omega arith in not_ones_past c.args.k c.args.c word c.if-k-lt4.false
