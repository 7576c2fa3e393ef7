-- The program counters of a run: all of them as a set, and the last sixteen.
use Rattle.std.specs.Prelude.{◌≡◌, true, ℕ, ◌-◌, List, [], ◌∷◌, ◌++◌, length, drop, map}
use Rattle.std.specs.Ordering.{nat_cmp}
use Rattle.std.specs.FinSet as set
use Rattle.std.specs.List.{All}
use Rattle.rv_event.specs.declared.event.Event.{Event}

-- the program counters of the events, in order
abbrev pub counters : List Event → List ℕ
counters events = map (λ e. e.pc) events

-- the set of the program counters of the events
abbrev pub all_covered : List Event → set.FinSet nat_cmp
all_covered events = set.from_list (counters events)

-- a set of program counters after one more event
abbrev pub covered_after : set.FinSet nat_cmp → Event → set.FinSet nat_cmp
covered_after covered event = set.insert covered event.pc

-- each of these program counters is in the set
abbrev pub AreIn : set.FinSet nat_cmp → List ℕ → Type 0
AreIn covered list = All (λ pc. set.contains covered pc ≡ true) list

-- the last sixteen numbers of a list, or all of them where there are fewer
abbrev pub last_sixteen : List ℕ → List ℕ
last_sixteen list = drop (length list - 16) list

-- the last sixteen program counters after one more event
abbrev pub last_after : List ℕ → Event → List ℕ
last_after list event = last_sixteen (list ++ event.pc ∷ [])
