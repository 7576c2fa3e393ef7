use Rattle.std.proofs.Common.{arith}
use Rattle.memory_map.proofs.Runs.{half_in}
use Rattle.memory_map.proofs.memory.Memory.load_half.Goals as goal

pub returns-in-len2-up : goal.returns-in-len2-up
returns-in-len2-up c = half_in _ c.args.address _ c.args.self.now.map _ c.run.ensures c.in-len2-up.len_at_least (omega arith) c.from_le_bytes.ensures
