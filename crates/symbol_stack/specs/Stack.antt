-- The calls that a run is in, by its events.
use Rattle.std.specs.Prelude.{ℕ, ◌-◌, ◌==◌, ◌&&◌, List, [], ◌∷◌, ◌++◌, take, length, Bool, false, Option, Some, None, fold, if◌then◌else◌}
use Rattle.std.specs.List.{slice_get}
use Rattle.rv_event.specs.declared.event.Event.{Event}
use Rattle.rv_event.specs.declared.event.EventKind.{EventKind}
use Rattle.rv_event.specs.declared.event.EventKind.TheVariants.{NoFetch}
use Rattle.rv_decode.specs.Table.{decoded}
use Rattle.rv_decode.specs.declared.instr.Instr.{Instr}
use Rattle.rv_decode.specs.declared.instr.Instr.TheVariants.{Jal, Jalr}
use Rattle.symbol_stack.specs.declared.reached.Reached.{Reached}

-- the instruction of an event: none where nothing was fetched or the word has none
abbrev pub fetched_word : EventKind → ℕ → Option Instr
fetched_word NoFetch word = None
fetched_word _ word = decoded word

-- a JAL or a JALR that writes x1, the return address by the standard calling convention
abbrev pub is_call : Option Instr → Bool
is_call (Some (Jal rd offset)) = rd == 1
is_call (Some (Jalr rd rs1 imm)) = rd == 1
is_call _ = false

-- a JALR to x1 that writes nothing
abbrev pub is_return : Option Instr → Bool
is_return (Some (Jalr rd rs1 imm)) = (rd == 0) && (rs1 == 1)
is_return _ = false

-- a list without its last element, where it has one
abbrev pub without_last : List ℕ → List ℕ
without_last list = take (length list - 1) list

-- the calls after one more event, the newest last: a call is added, a return takes the last away
abbrev pub stack_after : List ℕ → Event → List ℕ
stack_after stack e =
    if is_call (fetched_word e.kind e.word) then stack ++ e.pc ∷ []
    else if is_return (fetched_word e.kind e.word) then without_last stack
    else stack

-- the calls after all events but the last
abbrev pub stack_of : List Event → List ℕ
stack_of events = fold stack_after [] (take (length events - 1) events)

-- the last event
abbrev pub last_of : List Event → Option Event
last_of events = slice_get events (length events - 1)

-- the program counter of an event, where there is one
abbrev pub counter_of : Option Event → ℕ
counter_of None = 0
counter_of (Some e) = e.pc

abbrev pub last_counter : List Event → ℕ
last_counter events = counter_of (last_of events)

-- ---- one event behind

-- the calls after one more event, where there is one
abbrev pub calls_after : List ℕ → Option Event → List ℕ
calls_after stack None = stack
calls_after stack (Some e) = stack_after stack e

-- the calls before the last event that was fed and that event, after one more
abbrev pub reached_after : Reached → Event → Reached
reached_after r e = record { calls = calls_after r.calls r.last; last = Some e }

-- the calls after all events but the last, and the last
abbrev pub reached_by : List Event → Reached
reached_by events = record { calls = stack_of events; last = last_of events }
