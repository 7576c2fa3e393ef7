-- The replay of a run, event by event.
use Rattle.std.proofs.Common.{◌≡◌, ℕ, zero, suc, ◌+◌, List, [], ◌∷◌, ◌++◌, length, drop, Some, refl, sym, ap, ◌∙◌, arith}
use Rattle.std.specs.Prelude.{slice_get}
use Rattle.elf32.specs.Loads.{Program}
use Rattle.rv_event.specs.declared.event.Event.{Event}
use Rattle.rv_event.specs.declared.event.End.{End}
use Rattle.rv_event.specs.declared.transcript.Transcript.{Transcript}
use Rattle.term_model.specs.Tree.{Tree}
use Rattle.normal_form.specs.Norm.{norm}
use Rattle.replay_law.specs.Forms.{with_conditions}
use Rattle.replay_law.specs.Terms.{SymbolicState, terms_after, start_terms}
use Rattle.replay_law.specs.Follow.{event_conditions, shown_next, follow, conditions}
use Rattle.trace_conditions.specs.Conditions as whole
use Rattle.path_condition.proofs.ListLemmas.{with_conditions-none}
use Rattle.sym_replay.specs.Cells.{over_bare_cells}
use Rattle.sym_replay.proofs.CellLemmas.{follow_bare}
use Rattle.sym_replay.proofs.PinLemmas.{with_conditions-append}

-- the events from one on begin with it
drop_next : (es : List Event) (k : ℕ) (e : Event) → slice_get es k ≡ Some e → drop k es ≡ e ∷ drop (suc k) es
drop_next [] k e item = cc
drop_next (x ∷ es) zero e item = let same : x ≡ e = cc in ap (λ h. h ∷ es) same
drop_next (x ∷ es) (suc k) e item = drop_next es k e item

-- where an event follows, its program counter is shown
pub shown_at : (es : List Event) (end : End) (k : ℕ) (e : Event) → slice_get es k ≡ Some e → e.pc ≡ shown_next (drop k es) end
shown_at es end k e item = sym (ap (λ fs. shown_next fs end) (drop_next es k e item))

-- the conditions of the next event, and those of the events after it
follow_next : (n : ℕ) (s : SymbolicState) (e : Event) (es : List Event) (end : End) → follow norm n s (e ∷ es) end ≡ event_conditions norm s e (shown_next es end) ++ follow norm n (terms_after norm n s e) es end
unfolding follow
follow_next n s e es end = refl

-- one more event is followed
pub next_event : (n : ℕ) (es : List Event) (end : End) (all : List Tree) (k : ℕ) (e : Event) → slice_get es k ≡ Some e → (ts new : List Tree) (s t : SymbolicState) → with_conditions ts (follow norm n s (drop k es) end) ≡ all → new ≡ with_conditions ts (event_conditions norm s e (shown_next (drop (k + 1) es) end)) → t ≡ terms_after norm n s e → with_conditions new (follow norm n t (drop (k + 1) es) end) ≡ all
next_event n es end all k e item ts new s t before added after =
    let next : k + 1 ≡ suc k = omega arith in
    let first = event_conditions norm s e (shown_next (drop (k + 1) es) end) in
    let rest = follow norm n (terms_after norm n s e) (drop (k + 1) es) end in
    let split : drop k es ≡ e ∷ drop (k + 1) es = drop_next es k e item ∙ ap (λ j. e ∷ drop j es) (sym next) in
    (λ i. with_conditions (added i) (follow norm n (after i) (drop (k + 1) es) end))
    ∙ sym (with_conditions-append ts first rest)
    ∙ ap (with_conditions ts) (sym (follow_next n s e (drop (k + 1) es) end))
    ∙ ap (λ fs. with_conditions ts (follow norm n s fs end)) (sym split)
    ∙ before

-- before the first event
pub at_start : (program : Program) (run : Transcript) (ts : List Tree) (s : SymbolicState) → ts ≡ [] → s ≡ over_bare_cells (start_terms program.segments) → with_conditions ts (follow norm run.n s (drop 0 run.events) run.end) ≡ whole.conditions_of program run
unfolding whole.conditions_of conditions
at_start program run ts s none start =
    (λ i. with_conditions (none i) (follow norm run.n (start i) (drop 0 run.events) run.end))
    ∙ ap (with_conditions []) (follow_bare run.n run.end run.events (start_terms program.segments))

drop_all : (es : List Event) (k : ℕ) → k ≡ length es → drop k es ≡ []
drop_all [] zero e = refl
drop_all [] (suc k) e = refl
drop_all (x ∷ es) zero e = absurd (omega arith)
drop_all (x ∷ es) (suc k) e = drop_all es k (omega arith)

follow_none : (n : ℕ) (s : SymbolicState) (end : End) → follow norm n s [] end ≡ []
unfolding follow
follow_none n s end = refl

-- after the last event
pub at_end : (n : ℕ) (es : List Event) (end : End) (all ts : List Tree) (s : SymbolicState) (k : ℕ) → k ≡ length es → with_conditions ts (follow norm n s (drop k es) end) ≡ all → ts ≡ all
at_end n es end all ts s k last before =
    sym (with_conditions-none ts)
    ∙ ap (with_conditions ts) (sym (follow_none n s end))
    ∙ ap (λ fs. with_conditions ts (follow norm n s fs end)) (sym (drop_all es k last))
    ∙ before
