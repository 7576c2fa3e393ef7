use Rattle.memory_laws.proofs.Heaps.{heap_empty, heap_apart, heap_below}
use Rattle.memory_laws.proofs.heap_at_start.Goals as goal

pub returns : goal.returns
returns c = record { empty = heap_empty; apart = heap_apart; below = heap_below }
