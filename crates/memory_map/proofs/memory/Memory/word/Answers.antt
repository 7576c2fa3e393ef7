use Rattle.std.proofs.Common.{arith}
use Rattle.memory_map.proofs.Runs.{word_in}
use Rattle.memory_map.proofs.memory.Memory.word.Goals as goal

pub returns-in-len4-up : goal.returns-in-len4-up
returns-in-len4-up c = word_in _ c.args.address _ c.args.self.now.map _ c.run.ensures c.in-len4-up.len_at_least (omega arith) c.from_le_bytes.ensures
