-- One more step of a run.
use Rattle.std.proofs.Common.{◌≡◌, ℕ, zero, suc, ◌≤◌, List, [], ◌∷◌, ◌++◌, Some, None, Result, Ok, Err, IfOk, length, refl, sym, ap, ◌∙◌, arith, append_assoc}
use Rattle.rv_event.specs.declared.event.Event.{Event}
use Rattle.rv_event.specs.declared.event.End.{End}
use Rattle.rv_event.specs.declared.event.End.TheVariants as ends
use Rattle.elf32.specs.Loads.{Program}
use Rattle.rv_event.specs.declared.transcript.Transcript.{Transcript}
use Rattle.rv_machine.specs.State.{State, Next, Goes, Ends, start}
use Rattle.rv_machine.specs.Effects.{step}
use Rattle.rv_machine.specs.Progress.{Progress, Follows}
use Rattle.rv_machine.specs.Trace.{Trace, trace_from, onward, with_event, onward_state, state_after, trace_of_program, transcript_of}

-- a run with events before it
abbrev pub behind : List Event → Trace → Trace
behind es run = record { events = es ++ run.events; end = run.end }

goes : (old after : Progress) (next : Next) → Follows old next None after → next ≡ Goes after.state
goes old after (Goes new) h = ap Goes (sym h.0)
goes old after (Ends e) h = absurd h

stops : (old after : Progress) (next : Next) (e : End) → Follows old next (Some e) after → next ≡ Ends e
stops old after (Goes new) e h = absurd h
stops old after (Ends f) e h = ap Ends h.0

trace_suc : (n m : ℕ) (x : List ℕ) (s : State) → n ≡ suc m → trace_from n x s ≡ with_event (step x s).event (onward (trace_from m x) (step x s).next)
unfolding trace_from
trace_suc n m x s e = ap (λ k. trace_from k x s) e

pub trace_zero : (n : ℕ) (x : List ℕ) (s : State) → n ≡ 0 → trace_from n x s ≡ record { events = []; end = ends.Limit }
unfolding trace_from
trace_zero zero x s h = refl
trace_zero (suc n) x s h = absurd (omega arith)

-- a step that goes on
pub trace_more : (n m : ℕ) (x : List ℕ) (s after : Progress) → n ≡ suc m → Follows s (step x s.state).next None after → trace_from n x s.state ≡ with_event (step x s.state).event (trace_from m x after.state)
trace_more n m x s after h f = trace_suc n m x s.state h ∙ ap (λ y. with_event (step x s.state).event (onward (trace_from m x) y)) (goes s after (step x s.state).next f)

-- a step that ends the run
pub trace_end : (n m : ℕ) (x : List ℕ) (s after : Progress) (e : End) → n ≡ suc m → Follows s (step x s.state).next (Some e) after → trace_from n x s.state ≡ record { events = (step x s.state).event ∷ []; end = e }
trace_end n m x s after e h f = trace_suc n m x s.state h ∙ ap (λ y. with_event (step x s.state).event (onward (trace_from m x) y)) (stops s after (step x s.state).next e f)

state_suc : (n m : ℕ) (x : List ℕ) (s : State) → n ≡ suc m → state_after n x s ≡ onward_state (state_after m x) s (step x s).next
unfolding state_after
state_suc n m x s e = ap (λ k. state_after k x s) e

pub state_zero : (n : ℕ) (x : List ℕ) (s : State) → n ≡ 0 → state_after n x s ≡ s
unfolding state_after
state_zero zero x s h = refl
state_zero (suc n) x s h = absurd (omega arith)

-- the state after a step that goes on
pub state_more : (n m : ℕ) (x : List ℕ) (s after : Progress) → n ≡ suc m → Follows s (step x s.state).next None after → state_after n x s.state ≡ state_after m x after.state
state_more n m x s after h f = state_suc n m x s.state h ∙ ap (onward_state (state_after m x) s.state) (goes s after (step x s.state).next f)

kept : (old after : Progress) (next : Next) (e : End) → Follows old next (Some e) after → after.state ≡ old.state
kept old after (Goes new) e h = absurd h
kept old after (Ends f) e h = ap (λ (p : Progress). p.state) h.1

-- the state after a step that ends the run
pub state_end : (n m : ℕ) (x : List ℕ) (s after : Progress) (e : End) → n ≡ suc m → Follows s (step x s.state).next (Some e) after → state_after n x s.state ≡ after.state
state_end n m x s after e h f =
    state_suc n m x s.state h ∙ ap (onward_state (state_after m x) s.state) (stops s after (step x s.state).next e f)
    ∙ sym (kept s after (step x s.state).next e f)

-- a run so far, and one more step of it
pub behind_more : (es : List Event) (n m : ℕ) (x : List ℕ) (s after : Progress) (e : Event) (run : Trace) → run ≡ behind es (trace_from n x s.state) → n ≡ suc m → e ≡ (step x s.state).event → Follows s (step x s.state).next None after → run ≡ behind (es ++ e ∷ []) (trace_from m x after.state)
behind_more es n m x s after e run h k is f =
    h ∙ ap (behind es) (trace_more n m x s after k f)
    ∙ ap (λ y. behind es (with_event y (trace_from m x after.state))) (sym is)
    ∙ ap (λ y. record { events = y; end = (trace_from m x after.state).end }) (sym (append_assoc es (e ∷ []) (trace_from m x after.state).events))

pub behind_end : (es : List Event) (n m : ℕ) (x : List ℕ) (s after : Progress) (e : Event) (end : End) (run : Trace) → run ≡ behind es (trace_from n x s.state) → n ≡ suc m → e ≡ (step x s.state).event → Follows s (step x s.state).next (Some end) after → run ≡ record { events = es ++ e ∷ []; end = end }
behind_end es n m x s after e end run h k is f =
    h ∙ ap (behind es) (trace_end n m x s after end k f) ∙ ap (λ y. record { events = es ++ y ∷ []; end = end }) (sym is)

-- a run that goes on has no more events than its steps
onward_length : (n : ℕ) (run : State → Trace) (next : Next) → ((s : State) → length (run s).events ≤ n) → length (onward run next).events ≤ n
onward_length n run (Goes s) h = h s
onward_length n run (Ends e) h = omega arith

-- a run has no more events than the limit
pub trace_length : (n : ℕ) (x : List ℕ) (s : State) → length (trace_from n x s).events ≤ n
unfolding trace_from
trace_length zero x s = omega arith
trace_length (suc n) x s = (let h : length (onward (trace_from n x) (step x s).next).events ≤ n = onward_length n (trace_from n x) (step x s).next (λ t. trace_length n x t) in omega arith)

-- the parts of what a run tells
pub tells : {E : Type 0} → (program : Program) (x : List ℕ) (n : ℕ) (s : State) (r : Result Transcript E) → s ≡ start program.entry program.segments → IfOk r (λ t. t.n ≡ length x) → IfOk r (λ t. t.events ≡ (trace_from n x s).events) → IfOk r (λ t. t.end ≡ (trace_from n x s).end) → IfOk r (λ t. t ≡ transcript_of program x n)
unfolding transcript_of
tells program x n s (Ok t) e size events end =
    let run : trace_from n x s ≡ trace_of_program program x n = ap (trace_from n x) e in
    (λ i. record { n = size i; events = (events ∙ ap (λ h. h.events) run) i; end = (end ∙ ap (λ h. h.end) run) i })
tells program x n s (Err f) e size events end = tt

pub tells_length : {E : Type 0} → (x : List ℕ) (n : ℕ) (s : State) (r : Result Transcript E) → IfOk r (λ t. t.events ≡ (trace_from n x s).events) → IfOk r (λ t. length t.events ≤ n)
tells_length x n s (Ok t) events = omega (arith, trace_length n x s, ap length events)
tells_length x n s (Err f) events = tt
