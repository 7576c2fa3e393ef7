-- Whole runs.
use Rattle.std.specs.Prelude.{ℕ, zero, suc, List, [], ◌∷◌, length, Bool, true, false}
use Rattle.elf32.specs.Loads.{Program}
use Rattle.rv_event.specs.declared.event.Event.{Event}
use Rattle.rv_event.specs.declared.event.End.{End}
use Rattle.rv_event.specs.declared.event.End.TheVariants as ends
use Rattle.rv_event.specs.declared.transcript.Transcript.{Transcript}
use Rattle.rv_machine.specs.State.{State, Next, Goes, Ends, start}
use Rattle.rv_machine.specs.Effects.{step}

-- the events of a run, and its end
pub record Trace : Type 0 where
  pub events : List Event
  pub end : End

-- a run with an event before it
abbrev pub with_event : Event → Trace → Trace
with_event e run = record { events = e ∷ run.events; end = run.end }

-- a run that goes on, or has ended
abbrev pub onward : (State → Trace) → Next → Trace
onward run (Goes s) = run s
onward run (Ends e) = record { events = []; end = e }

-- the run of at most so many steps on an input from a state; the end is Limit where they made none
unfoldable pub trace_from : ℕ → List ℕ → State → Trace
trace_from zero x s = record { events = []; end = ends.Limit }
trace_from (suc n) x s = with_event (step x s).event (onward (trace_from n x) (step x s).next)

-- the state that a step that goes on comes to, taken further, or else the state before the step
abbrev pub onward_state : (State → State) → State → Next → State
onward_state further s (Goes t) = further t
onward_state further s (Ends e) = s

-- the state after at most so many steps: where the run ends, the state in which it ended
unfoldable pub state_after : ℕ → List ℕ → State → State
state_after zero x s = s
state_after (suc n) x s = onward_state (state_after n x) s (step x s).next

-- the run of a program from its start on an input, for at most `limit` steps
abbrev pub trace_of_program : Program → List ℕ → ℕ → Trace
trace_of_program program input limit = trace_from limit input (start program.entry program.segments)

-- what that run tells
unfoldable pub transcript_of : Program → List ℕ → ℕ → Transcript
transcript_of program input limit = record { n = length input; events = (trace_of_program program input limit).events; end = (trace_of_program program input limit).end }

-- whether a run was ended by a trap or an exit
abbrev pub has_ended : End → Bool
has_ended ends.Limit = false
has_ended _ = true
