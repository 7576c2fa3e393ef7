-- Two states that follow the same events.
use Rattle.rv_event.specs.declared.event.Event.{Event}

-- each of the two after one more event
abbrev pub both_after : {A B : Type 0} → (A → Event → A) → (B → Event → B) → A × B → Event → A × B
both_after first second pair event = (first pair.0 event, second pair.1 event)
