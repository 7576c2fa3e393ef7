use Rattle.memory_map.proofs.Heaps.{get-with_break}
use Rattle.memory_laws.proofs.break_moves_what_is_between.Goals as goal

pub returns : goal.returns
returns c = get-with_break
