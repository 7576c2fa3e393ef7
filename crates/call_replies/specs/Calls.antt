-- What ECALL does, by the values that the call was made with, the rights of memory, the heap, and the bytes left of the input.
-- The number of the call is in a7 (x17), its arguments are in a0, a1 and a2 (x10, x11 and x12).
use Rattle.std.specs.Prelude.{ℕ, ◌-◌, ◌^◌, ◌==◌, ◌||◌, min, if◌then◌else◌, Option, Some, None}
use Rattle.memory_map.specs.Cells.{Map, first_without, read, write}
use Rattle.memory_map.specs.declared.heap.Heap.{Heap}
use Rattle.memory_map.specs.Heaps.{may_break}
use Rattle.call_replies.specs.declared.Reply.{Reply}
use Rattle.call_replies.specs.declared.Reply.TheVariants.{Answers, Moves, Breaks, Exits}

-- -9 as a word: no such descriptor
abbrev pub bad_descriptor : ℕ
bad_descriptor = 2 ^ 32 - 9

-- -14 as a word: an address lacks a right
abbrev pub bad_address : ℕ
bad_address = 2 ^ 32 - 14

-- -38 as a word: no such call
abbrev pub no_such_call : ℕ
no_such_call = 2 ^ 32 - 38

-- a reply where no address lacks the right, else -14
abbrev pub if_none : Option ℕ → Reply → Reply
if_none None reply = reply
if_none (Some address) reply = Answers bad_address

-- read (63): descriptor 0 is the input, of which at most a2 bytes are left to move to the addresses from a1 up
abbrev pub read_reply : Map → ℕ → ℕ → ℕ → ℕ → Reply
read_reply memory left a0 a1 a2 = if a0 == 0 then if_none (first_without write memory a1 (min a2 left)) (Moves (min a2 left)) else Answers bad_descriptor

-- write (64): descriptors 1 and 2 take the a2 bytes from a1 up, which go nowhere
abbrev pub write_reply : Map → ℕ → ℕ → ℕ → Reply
write_reply memory a0 a1 a2 = if (a0 == 1) || (a0 == 2) then if_none (first_without read memory a1 a2) (Answers a2) else Answers bad_descriptor

-- brk (214): the break moves to a0 where it may be there, and else stays
abbrev pub break_reply : Option Heap → ℕ → Reply
break_reply None a0 = Answers no_such_call
break_reply (Some heap) a0 = if may_break heap a0 then Breaks heap a0 else Answers heap.brk

-- read, write, exit (93) and exit_group (94), brk, and every other number
unfoldable pub reply_to : Map → Option Heap → ℕ → ℕ → ℕ → ℕ → ℕ → Reply
reply_to memory heap left a7 a0 a1 a2 =
    if a7 == 63 then read_reply memory left a0 a1 a2
    else if a7 == 64 then write_reply memory a0 a1 a2
    else if (a7 == 93) || (a7 == 94) then Exits a0
    else if a7 == 214 then break_reply heap a0
    else Answers no_such_call
