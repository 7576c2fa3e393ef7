-- A stack that is one event behind.
use Rattle.std.proofs.Common.{◌≡◌, ℕ, ◌-◌, List, [], ◌∷◌, length, take, fold, refl, arith}
use Rattle.std.specs.Prelude.{Some, None}
use Rattle.std.specs.List.{slice_get}
use Rattle.rv_event.specs.declared.event.Event.{Event}
use Rattle.symbol_stack.specs.Stack.{stack_after, reached_after, reached_by}

behind : (calls : List ℕ) (e : Event) (events : List Event) → fold reached_after (record { calls = calls; last = Some e }) events ≡ record { calls = fold stack_after calls (take (length events) (e ∷ events)); last = slice_get (e ∷ events) (length events) }
behind calls e [] = refl
behind calls e (next ∷ events) = behind (stack_after calls e) next events

pub reaches : (events : List Event) → fold reached_after (record { calls = []; last = None }) events ≡ reached_by events
reaches [] = refl
reaches (e ∷ events) =
    let n : length events ≡ length (e ∷ events) - 1 = omega arith in
    rw (← n) (behind [] e events)
