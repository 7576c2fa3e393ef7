-- A machine under way, and how it follows the steps.
use Rattle.std.specs.Prelude.{◌≡◌, ℕ, List, Bool, true, false, Option, Some, None, refl}
use Rattle.std.specs.FinMap as finmap
use Rattle.std.specs.Coded.{Coded, code_by, coded×, coded_ℕ, coded_list, coded_option, coded_bool}
use Rattle.memory_map.specs.Cells.{Map, cell_code}
use Rattle.memory_map.specs.declared.heap.Heap.{Heap}
use Rattle.memory_map.specs.Heaps.{heap_code}
use Rattle.rv_event.specs.declared.event.End.{End}
use Rattle.rv_machine.specs.State.{State, Next, Goes, Ends}
use Rattle.rv_machine.specs.Trace.{has_ended}

-- a state, and whether a trap or an exit has come
pub record Progress : Type 0 where
  pub state : State
  pub over : Bool

abbrev pub state_code : Coded State
state_code =
    code_by (List ℕ × (ℕ × (Map × (Option Heap × ℕ)))) (coded× (coded_list coded_ℕ) (coded× coded_ℕ (coded× (finmap.code coded_ℕ cell_code) (coded× (coded_option heap_code) coded_ℕ))))
    (λ s. (s.registers, (s.pc, (s.memory, (s.heap, s.place)))))
    (λ p. record { registers = p.0; pc = p.1.0; memory = p.1.1.0; heap = p.1.1.1.0; place = p.1.1.1.1 })
    (λ _. refl)

abbrev pub progress_code : Coded Progress
progress_code = code_by (State × Bool) (coded× state_code coded_bool) (λ p. (p.state, p.over)) (λ p. record { state = p.0; over = p.1 }) (λ _. refl)

-- the machine before a step, what comes of the step, the end that was answered, and the machine after it
abbrev pub Follows : Progress → Next → Option End → Progress → Type 0
Follows old (Goes new) None after = (after.state ≡ new) × (after.over ≡ old.over)
Follows old (Ends e) (Some f) after = (e ≡ f) × (after ≡ record old { over = true })
Follows old (Goes new) (Some f) after = ⊥
Follows old (Ends e) None after = ⊥

-- the run is over exactly where a step answered an end, which is never Limit
abbrev pub EndsRun : Option End → Bool → Type 0
EndsRun None over = over ≡ false
EndsRun (Some e) over = (over ≡ true) × (has_ended e ≡ true)
