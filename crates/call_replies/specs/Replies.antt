-- What a reply moves, and that it may.
use Rattle.std.specs.Prelude.{◌≡◌, ℕ, Option, Some, None, true}
use Rattle.memory_map.specs.Cells.{Map, first_without, write}
use Rattle.memory_map.specs.declared.heap.Heap.{Heap}
use Rattle.memory_map.specs.Heaps.{may_break}
use Rattle.call_replies.specs.declared.Reply.{Reply}
use Rattle.call_replies.specs.declared.Reply.TheVariants.{Answers, Moves, Breaks, Exits}

-- how many bytes of the input a reply moves
abbrev pub moved : Reply → ℕ
moved (Answers v) = 0
moved (Moves k) = k
moved (Breaks heap a) = 0
moved (Exits code) = 0

-- where a reply moves bytes to the addresses from one up, these may be written
abbrev pub IsWritable : Map → ℕ → Reply → Type 0
IsWritable memory address (Moves k) = first_without write memory address k ≡ None
IsWritable memory address reply = Unit {0}

-- where a reply moves the break, it is that of the heap, and moves to where it may be
abbrev pub IsOfHeap : Option Heap → Reply → Type 0
IsOfHeap heap (Breaks h a) = (heap ≡ Some h) × (may_break h a ≡ true)
IsOfHeap heap reply = Unit {0}
