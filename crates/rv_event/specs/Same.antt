-- The test for equal runs, field by field.
use Rattle.std.specs.Prelude.{ℕ, ◌==◌, ◌&&◌, Bool, true, false, List, [], ◌∷◌}
use Rattle.rv_event.specs.declared.event.Event.{Event}
use Rattle.rv_event.specs.declared.event.EventKind.{EventKind}
use Rattle.rv_event.specs.declared.event.EventKind.TheVariants as kinds
use Rattle.rv_event.specs.declared.event.Trap.{Trap}
use Rattle.rv_event.specs.declared.event.TrapKind.{TrapKind}
use Rattle.rv_event.specs.declared.event.TrapKind.TheVariants as traps
use Rattle.rv_event.specs.declared.event.End.{End}
use Rattle.rv_event.specs.declared.event.End.TheVariants as ends
use Rattle.rv_event.specs.declared.transcript.Transcript.{Transcript}

-- two kinds of event are the same
abbrev pub same_kind : EventKind → EventKind → Bool
same_kind kinds.Plain kinds.Plain = true
same_kind kinds.Load kinds.Load = true
same_kind kinds.Store kinds.Store = true
same_kind kinds.Call kinds.Call = true
same_kind kinds.NoFetch kinds.NoFetch = true
same_kind _ _ = false

-- two kinds of trap are the same
abbrev pub same_trap_kind : TrapKind → TrapKind → Bool
same_trap_kind traps.Illegal traps.Illegal = true
same_trap_kind traps.FetchFault traps.FetchFault = true
same_trap_kind traps.MisalignedJump traps.MisalignedJump = true
same_trap_kind traps.LoadFault traps.LoadFault = true
same_trap_kind traps.StoreFault traps.StoreFault = true
same_trap_kind traps.Breakpoint traps.Breakpoint = true
same_trap_kind traps.Abort traps.Abort = true
same_trap_kind _ _ = false

-- two lists have the same numbers in the same order
unfoldable pub same_numbers : List ℕ → List ℕ → Bool
same_numbers [] [] = true
same_numbers (x ∷ xs) (y ∷ ys) = (x == y) && same_numbers xs ys
same_numbers _ _ = false

-- two events are the same in all five parts
unfoldable pub same_event : Event → Event → Bool
same_event a b = (a.pc == b.pc) && ((a.word == b.word) && ((a.addr == b.addr) && (same_numbers a.call b.call && same_kind a.kind b.kind)))

-- two lists have the same events in the same order
unfoldable pub same_events : List Event → List Event → Bool
same_events [] [] = true
same_events (a ∷ as') (b ∷ bs) = same_event a b && same_events as' bs
same_events _ _ = false

-- two traps are the same in all three parts
unfoldable pub same_trap : Trap → Trap → Bool
same_trap a b = same_trap_kind a.kind b.kind && ((a.pc == b.pc) && (a.value == b.value))

-- two ends are the same: traps by their parts, exits by their codes
unfoldable pub same_end : End → End → Bool
same_end (ends.Trap a) (ends.Trap b) = same_trap a b
same_end (ends.Exit a) (ends.Exit b) = a == b
same_end ends.Limit ends.Limit = true
same_end _ _ = false

-- two runs are the same: the length of the input, the events and the end
unfoldable pub same_transcript : Transcript → Transcript → Bool
same_transcript a b = (a.n == b.n) && (same_events a.events b.events && same_end a.end b.end)
