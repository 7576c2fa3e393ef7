-- What holds of every reply, by the table of calls alone.
use Rattle.std.proofs.Common.{◌≡◌, ℕ, ◌<◌, ◌≤◌, ◌^◌, ◌==◌, ◌||◌, min, Bool, true, false, cond, Option, Some, None, IfSome, arith, if◌then◌else◌}
use Rattle.memory_map.specs.Cells.{Map, first_without, read, write}
use Rattle.memory_map.specs.declared.heap.Heap.{Heap}
use Rattle.memory_map.specs.Heaps.{may_break}
use Rattle.call_replies.specs.declared.Reply.{Reply}
use Rattle.call_replies.specs.declared.Reply.TheVariants.{Answers, Moves, Breaks, Exits}
use Rattle.call_replies.specs.Calls.{bad_descriptor, no_such_call, if_none, read_reply, write_reply, break_reply, reply_to}
use Rattle.call_replies.specs.Replies.{moved}

-- what a reply puts in a0 is a word
abbrev pub IsWord : Reply → Type 0
IsWord (Answers v) = v < 2 ^ 32
IsWord (Moves k) = k < 2 ^ 32
IsWord (Breaks heap a) = a < 2 ^ 32
IsWord (Exits code) = Unit {0}

-- what holds of both of two replies holds of the one that a test takes
either : (P : Reply → Type 0) (t : Bool) (a b : Reply) → P a → P b → P (cond t a b)
either P true a b h l = h
either P false a b h l = l

-- what holds of a reply and of the answer -14 holds where an address may lack a right
unless_lacking : (P : Reply → Type 0) (o : Option ℕ) (reply : Reply) → ((v : ℕ) → v < 2 ^ 32 → P (Answers v)) → P reply → P (if_none o reply)
unless_lacking P None reply answers h = h
unless_lacking P (Some address) reply answers h = answers _ (omega arith)

-- what holds of each row's reply holds of every reply
by_rows : (P : Reply → Type 0) (m : Map) (heap : Option Heap) (left a7 a0 a1 a2 : ℕ) → ((v : ℕ) → v < 2 ^ 32 → P (Answers v)) → P (Moves (min a2 left)) → P (Answers a2) → P (Exits a0) → P (break_reply heap a0) → P (reply_to m heap left a7 a0 a1 a2)
unfolding reply_to
by_rows P m heap left a7 a0 a1 a2 answers moves writes exits breaks =
    either P (a7 == 63) (read_reply m left a0 a1 a2) _ (either P (a0 == 0) _ (Answers bad_descriptor) (unless_lacking P (first_without write m a1 (min a2 left)) (Moves (min a2 left)) answers moves) (answers _ (omega arith)))
    (either P (a7 == 64) (write_reply m a0 a1 a2) _ (either P ((a0 == 1) || (a0 == 2)) _ (Answers bad_descriptor) (unless_lacking P (first_without read m a1 a2) (Answers a2) answers writes) (answers _ (omega arith)))
    (either P ((a7 == 93) || (a7 == 94)) (Exits a0) _ exits
    (either P (a7 == 214) (break_reply heap a0) (Answers no_such_call) breaks (answers _ (omega arith)))))

break_moves : (heap : Option Heap) (left a0 : ℕ) → moved (break_reply heap a0) ≤ left
break_moves None left a0 = omega arith
break_moves (Some heap) left a0 = either (λ r. moved r ≤ left) (may_break heap a0) (Breaks heap a0) (Answers heap.brk) (omega arith) (omega arith)

-- a reply moves no more bytes than are left
pub moves_at_most : (m : Map) (heap : Option Heap) (left a7 a0 a1 a2 : ℕ) → moved (reply_to m heap left a7 a0 a1 a2) ≤ left
moves_at_most m heap left a7 a0 a1 a2 =
    by_rows (λ r. moved r ≤ left) m heap left a7 a0 a1 a2 (λ v l. omega arith) (omega arith) (omega arith) (omega arith) (break_moves heap left a0)

break_is_word : (heap : Option Heap) (a0 : ℕ) → IfSome heap (λ h. h.brk < 2 ^ 32) → a0 < 2 ^ 32 → IsWord (break_reply heap a0)
break_is_word None a0 h l = omega arith
break_is_word (Some heap) a0 h l = either IsWord (may_break heap a0) (Breaks heap a0) (Answers heap.brk) l h

-- a reply puts a word in a0, where the break and the values are words
pub puts_a_word : (m : Map) (heap : Option Heap) (left a7 a0 a1 a2 : ℕ) → IfSome heap (λ h. h.brk < 2 ^ 32) → a0 < 2 ^ 32 → a2 < 2 ^ 32 → IsWord (reply_to m heap left a7 a0 a1 a2)
puts_a_word m heap left a7 a0 a1 a2 h k l =
    by_rows IsWord m heap left a7 a0 a1 a2 (λ v small. small) (let small : min a2 left < 2 ^ 32 = omega arith in small) l tt (break_is_word heap a0 h k)

-- a reply rests on the rights of memory alone
pub rests_on_rights : (m k : Map) → ((right len a : ℕ) → first_without right m a len ≡ first_without right k a len) → (heap : Option Heap) (left a7 a0 a1 a2 : ℕ) → reply_to m heap left a7 a0 a1 a2 ≡ reply_to k heap left a7 a0 a1 a2
unfolding reply_to
rests_on_rights m k same heap left a7 a0 a1 a2 =
    (λ i. if a7 == 63 then (if a0 == 0 then if_none (same write (min a2 left) a1 i) (Moves (min a2 left)) else Answers bad_descriptor)
    else if a7 == 64 then (if (a0 == 1) || (a0 == 2) then if_none (same read a2 a1 i) (Answers a2) else Answers bad_descriptor)
    else if (a7 == 93) || (a7 == 94) then Exits a0
    else if a7 == 214 then break_reply heap a0
    else Answers no_such_call)
