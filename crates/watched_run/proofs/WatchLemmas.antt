-- A state that follows a run, step by step.
use Rattle.std.proofs.Common.{◌≡◌, ◌∙◌, ℕ, suc, List, Some, None, fold, sym, ap}
use Rattle.rv_event.specs.declared.event.Event.{Event}
use Rattle.rv_event.specs.declared.event.End.{End}
use Rattle.rv_machine.specs.State.{State}
use Rattle.rv_machine.specs.Effects.{step}
use Rattle.rv_machine.specs.Progress.{Progress, Follows}
use Rattle.rv_machine.specs.Trace.{Trace, trace_from}
use Rattle.rv_machine.proofs.Traces.{trace_more, trace_end, trace_zero}

-- the state taken on by what is left of the run, from a state so far, is the one after the whole run
module _ {S : Type 0} (next : S → Event → S) (whole state later : S) (n m : ℕ) (x : List ℕ) (old after : Progress) (e : Event)
    (so_far : whole ≡ fold next state (trace_from n x old.state).events) where
  pub fold_more : n ≡ suc m → e ≡ (step x old.state).event → later ≡ next state e → Follows old (step x old.state).next None after
      → whole ≡ fold next later (trace_from m x after.state).events
  fold_more k is fed f =
      so_far ∙ ap (λ (r : Trace). fold next state r.events) (trace_more n m x old after k f)
      ∙ ap (λ s. fold next s (trace_from m x after.state).events) (sym (fed ∙ ap (next state) is))

  pub fold_end : (end : End) → n ≡ suc m → e ≡ (step x old.state).event → later ≡ next state e → Follows old (step x old.state).next (Some end) after → later ≡ whole
  fold_end end k is fed f =
      fed ∙ ap (next state) is ∙ sym (so_far ∙ ap (λ (r : Trace). fold next state r.events) (trace_end n m x old after end k f))

-- nothing is left of the run
pub fold_zero : {S : Type 0} → (next : S → Event → S) (whole state : S) (n : ℕ) (x : List ℕ) (s : State) → whole ≡ fold next state (trace_from n x s).events → n ≡ 0 → state ≡ whole
fold_zero next whole state n x s so_far k = sym (so_far ∙ ap (λ (r : Trace). fold next state r.events) (trace_zero n x s k))
