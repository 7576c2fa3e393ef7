-- Events as they are kept: what stands apart of an event is one entry of a second list.
use Rattle.std.specs.Prelude.{◌≡◌, ◌<◌, ◌≤◌, true, List, [], ◌∷◌, length, cond, slice_index_or, All}
use Rattle.rv_event.specs.declared.event.Event.{Event}
use Rattle.rv_event.specs.declared.events.Packed.{Packed}
use Rattle.rv_event.specs.declared.events.Numbers.{Numbers}

-- what a packed event doesn't hold itself: where nothing stands apart, its own address and four zeros
abbrev pub numbers_of : List Numbers → Packed → Numbers
numbers_of ns p =
    let own : Numbers = record { addr = p.addr; call = 0 ∷ 0 ∷ 0 ∷ 0 ∷ [] } in
    cond p.has_numbers (slice_index_or ns p.addr own) own

-- the event that a packed one stands for
abbrev pub unpacked : List Numbers → Packed → Event
unpacked ns p = record { pc = p.pc; word = p.word; addr = (numbers_of ns p).addr; call = (numbers_of ns p).call; kind = p.kind }

-- a packed event has its numbers, where it says so
abbrev pub IsPlaced : List Numbers → Packed → Type 0
IsPlaced ns p = p.has_numbers ≡ true → p.addr < length ns

-- each packed event has its numbers, and there are no more of them than events
pub record ArePlaced (ns : List Numbers) (ps : List Packed) : Type 0 where
  pub placed : All (IsPlaced ns) ps
  pub few : length ns ≤ length ps
