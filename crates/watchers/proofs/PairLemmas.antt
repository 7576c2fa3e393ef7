-- Two states after the events of a run.
use Rattle.std.proofs.Common.{◌≡◌, List, [], ◌∷◌, fold, refl}
use Rattle.rv_event.specs.declared.event.Event.{Event}
use Rattle.watchers.specs.Pairs.{both_after}

pub both_is : {A B : Type 0} (f : A → Event → A) (g : B → Event → B) (a : A) (b : B) (events : List Event) → fold (both_after f g) (a, b) events ≡ (fold f a events, fold g b events)
both_is f g a b [] = refl
both_is f g a b (e ∷ events) = both_is f g (f a e) (g b e) events
