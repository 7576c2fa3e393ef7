use Rattle.memory_map.specs.Cells.{placed}
use Rattle.memory_map.proofs.memory.Memory.store.Goals as goal

pub returns-clause-after : goal.returns-clause-after
unfolding placed
returns-clause-after c = c.write_within.ensures.after
