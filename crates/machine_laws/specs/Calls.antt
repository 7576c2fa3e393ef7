-- Events of calls.
use Rattle.std.specs.Prelude.{◌≢◌}
use Rattle.rv_event.specs.declared.event.Event.{Event}
use Rattle.rv_event.specs.declared.event.EventKind.TheVariants as kinds

-- an event that is no ECALL
abbrev pub IsNoCall : Event → Type 0
IsNoCall e = e.kind ≢ kinds.Call
