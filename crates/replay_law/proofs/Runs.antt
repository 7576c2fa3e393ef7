-- Whole runs: the conditions along the events hold of exactly the inputs that have the run.
use Rattle.std.proofs.Common.{◌≡◌, ℕ, zero, suc, ◌^◌, ◌<◌, List, [], ◌∷◌, map, set, get_or, replicate, Option, Some, None, true, refl, sym, ap, ◌∙◌, arith, subst, length, ◌↔◌, IsTrue}
use Rattle.std.specs.FinMap.{get}
use Rattle.std.proofs.Math.ListN.{get_or-map}
use Rattle.rv_event.specs.declared.event.Event.{Event}
use Rattle.rv_event.specs.declared.event.End.TheVariants as ends
use Rattle.term_model.specs.Tree.{Tree, Const}
use Rattle.term_model.specs.Value.{val}
use Rattle.memory_map.specs.Cells.{Cell, byte_at, byte_of_cell, start_map}
use Rattle.memory_map.proofs.HeapStarts.{start_break}
use Rattle.rv_machine.specs.State.{State, Next, Goes, Ends, start, start_registers}
use Rattle.rv_machine.specs.Effects.{step}
use Rattle.rv_machine.specs.Trace.{Trace, with_event, onward, trace_from, trace_of_program, transcript_of}
use Rattle.rv_machine.specs.Class.{in_class}
use Rattle.elf32.specs.Loads.{Program}
use Rattle.rv_event.specs.declared.transcript.Transcript.{Transcript}
use Rattle.rv_event.specs.Same.{same_transcript}
use Rattle.input_laws.specs.Inputs.{IsInput}
use Rattle.replay_law.specs.Making.{Making, IsMaker, IsCarefulMaker}
use Rattle.replay_law.specs.Terms.{SymbolicState, terms_after, start_terms}
use Rattle.replay_law.specs.Follow.{event_conditions, shown_next, follow, conditions}
use Rattle.replay_law.proofs.Stepping.{Stands, OnGoes, step_goes}
use Rattle.replay_law.proofs.Pinned.{Looks, shown_by, LookSame}
use Rattle.replay_law.proofs.Steps.{AreTogether, step_looks, step_holds}
use Rattle.replay_law.proofs.Aligned.{IsAligned, step_aligned, step_pc}
use Rattle.term_model.specs.Same.{same_tree}
use Rattle.term_model.specs.Conditions.{Hold}
use Rattle.term_model.proofs.HoldLemmas.{hold_none, hold_both, hold_left, hold_right}
use Rattle.replay_law.proofs.Agreeing.{Each}
use Rattle.replay_law.proofs.Proper.{IsNew, ReadWithin, both_each, new_conditions, after_within, start_within, kept_proper}
use Rattle.replay_law.proofs.Kept.{FindsEqual, kept_hold, kept_give}
use Rattle.replay_law.proofs.Agreement.{cell_with}
use Rattle.replay_law.proofs.Start.{zeros_below, start_below, start_aligned}
use Rattle.replay_law.specs.Crash.{IsProgram, IsTrapped, IsCrash, AreProper}

-- what a step shows stands in the rest of a run that a trap ends
shown_rest : (k : ℕ) (x : List ℕ) (next : Next) → IsTrapped (onward (trace_from k x) next).end → shown_next (onward (trace_from k x) next).events (onward (trace_from k x) next).end ≡ shown_by next
unfolding trace_from
shown_rest zero x (Goes s) h = absurd h
shown_rest (suc k) x (Goes s) h = step_pc x s
shown_rest k x (Ends (ends.Trap t)) h = refl
shown_rest k x (Ends (ends.Exit code)) h = absurd h
shown_rest k x (Ends ends.Limit) h = absurd h

-- a run that goes on from two nexts that look the same
record AreTogetherNext (IsMade : Tree → Type 0) (n : ℕ) (terms : SymbolicState) (x y : List ℕ) (a b : Next) : Type 0 where
  first : IsInput n x
  second : IsInput n y
  here : OnGoes (Stands IsMade terms x) a
  there : OnGoes (Stands IsMade terms y) b
  looks : Looks b a
  aligned : OnGoes IsAligned a

-- what the law says of the runs of so many steps, in both directions
record IsLawful (made : Making) (n : ℕ) (terms : SymbolicState) (y : List ℕ) (run other : Trace) : Type 0 where
  gives : Hold (follow made n terms run.events run.end) y → other ≡ run
  holds : other ≡ run → Hold (follow made n terms run.events run.end) y

-- the law for runs of at most k steps
abbrev LawAt : (made : Making) (IsMade : Tree → Type 0) → ℕ → ℕ → List ℕ → List ℕ → Type 0
LawAt made IsMade n k x y = (terms : SymbolicState) (s r : State) → AreTogether IsMade n terms x y s r → IsTrapped (trace_from k x s).end → IsLawful made n terms y (trace_from k x s) (trace_from k y r)

-- the law for what comes after a step
next_lawful : {made : Making} {IsMade : Tree → Type 0} → IsMaker made IsMade → (n k : ℕ) (x y : List ℕ) → LawAt made IsMade n k x y → (terms : SymbolicState) (a b : Next) → AreTogetherNext IsMade n terms x y a b → IsTrapped (onward (trace_from k x) a).end → IsLawful made n terms y (onward (trace_from k x) a) (onward (trace_from k y) b)
unfolding follow
next_lawful m n k x y law terms (Goes s) (Goes r) h t = law terms s r (record { first = h.first; second = h.second; here = h.here; there = h.there; pc = h.looks; aligned = h.aligned }) t
next_lawful m n k x y law terms (Goes s) (Ends e) h t = absurd h.looks
next_lawful m n k x y law terms (Ends e) (Goes r) h t = absurd h.looks
next_lawful m n k x y law terms (Ends d) (Ends e) h t = record { gives = λ c. ap (λ f. record { events = []; end = f }) h.looks; holds = λ c. hold_none y }

-- what comes after two steps that look the same
nexts : {made : Making} {IsMade : Tree → Type 0} → IsMaker made IsMade → {n : ℕ} {terms : SymbolicState} {x y : List ℕ} {s r : State} → AreTogether IsMade n terms x y s r → LookSame (step x s) (step y r) → AreTogetherNext IsMade n (terms_after made n terms (step x s).event) x y (step x s).next (step y r).next
nexts {made} {IsMade} m {n} {terms} {x} {y} {s} {r} h look = record {
  first = h.first;
  second = h.second;
  here = step_goes m n h.first h.here;
  there = subst (λ (e : Event). OnGoes (Stands IsMade (terms_after made n terms e) y) (step y r).next) look.event (step_goes m n h.second h.there);
  looks = look.next;
  aligned = step_aligned x s h.aligned;
}

-- equal lists of events have the same first event
heads : (a b : Event) (es fs : List Event) → a ∷ es ≡ b ∷ fs → a ≡ b
heads a b es fs e = cc

-- equal lists of events have the same others
tails : (a b : Event) (es fs : List Event) → a ∷ es ≡ b ∷ fs → es ≡ fs
tails a b es fs e = cc

-- runs with the same events and the same end
same_run : (p q : Trace) → p.events ≡ q.events → p.end ≡ q.end → p ≡ q
same_run p q e f = (λ i. record { events = e i; end = f i })

-- a step, and the law for what comes after it
step_lawful : {made : Making} {IsMade : Tree → Type 0} → IsMaker made IsMade → (n k : ℕ) (x y : List ℕ) → LawAt made IsMade n k x y → (terms : SymbolicState) (s r : State) → AreTogether IsMade n terms x y s r → IsTrapped (onward (trace_from k x) (step x s).next).end → IsLawful made n terms y (with_event (step x s).event (onward (trace_from k x) (step x s).next)) (with_event (step y r).event (onward (trace_from k y) (step y r).next))
unfolding follow
step_lawful {made} {IsMade} m n k x y law terms s r h t =
    let rest = onward (trace_from k x) (step x s).next in
    let other = onward (trace_from k y) (step y r).next in
    let e = (step x s).event in
    let shown = shown_rest k x (step x s).next t in
    let cs = event_conditions made terms e (shown_next rest.events rest.end) in
    let more = follow made n (terms_after made n terms e) rest.events rest.end in
    record {
      gives = λ c.
          let look = step_looks m h (subst (λ (v : ℕ). Hold (event_conditions made terms e v) y) shown (hold_left y cs more c)) in
          let later = next_lawful m n k x y law (terms_after made n terms e) (step x s).next (step y r).next (nexts m h look) t in
          (λ i. with_event (look.event i) (later.gives (hold_right y cs more c) i));
      holds = λ c.
          let event : (step y r).event ≡ e = heads (step y r).event e other.events rest.events (λ i. (c i).events) in
          let same : other ≡ rest = same_run other rest (tails (step y r).event e other.events rest.events (λ i. (c i).events)) (λ i. (c i).end) in
          let there : shown_by (step y r).next ≡ shown_by (step x s).next =
          sym (shown_rest k y (step y r).next (subst (λ (p : Trace). IsTrapped p.end) (sym same) t)) ∙ (λ i. shown_next (same i).events (same i).end) ∙ shown in
          let holds = step_holds m h event there in
          let look = step_looks m h holds in
          let later = next_lawful m n k x y law (terms_after made n terms e) (step x s).next (step y r).next (nexts m h look) t in
          hold_both y cs more (subst (λ (v : ℕ). Hold (event_conditions made terms e v) y) (sym shown) holds) (later.holds same);
    }

-- the law for runs of every length
run_lawful : {made : Making} {IsMade : Tree → Type 0} → IsMaker made IsMade → (n : ℕ) (x y : List ℕ) (k : ℕ) → LawAt made IsMade n k x y
unfolding trace_from
run_lawful m n x y zero terms s r h t = absurd t
run_lawful m n x y (suc k) terms s r h t = step_lawful m n k x y (run_lawful m n x y k) terms s r h t

-- ---- the start

-- the constants of the registers have their values
constants_are : (y : List ℕ) (rs : List ℕ) → rs ≡ map (λ t. val t y) (map Const rs)
constants_are y [] = refl
constants_are y (r ∷ rs) = ap (λ l. r ∷ l) (constants_are y rs)

-- a cell with its own byte
image_is : (o : Option Cell) → o ≡ cell_with (byte_of_cell o) o
image_is None = refl
image_is (Some cell) = refl

-- a number below a bound, put in a list of such numbers
set_below : (rs : List ℕ) (i r v b : ℕ) → v < b → get_or rs r 0 < b → get_or (set rs i v) r 0 < b
set_below [] i r v b h k = k
set_below (u ∷ us) zero zero v b h k = h
set_below (u ∷ us) zero (suc r) v b h k = k
set_below (u ∷ us) (suc i) zero v b h k = k
set_below (u ∷ us) (suc i) (suc r) v b h k = set_below us i r v b h k

-- the terms at the start stand for the state at the start, on every input
start_stands : {made : Making} {IsMade : Tree → Type 0} → IsMaker made IsMade → (program : Program) → IsProgram program → (y : List ℕ) → Stands IsMade (start_terms program.segments) y (start program.entry program.segments)
unfolding start
start_stands {made} {IsMade} m program h y = record {
  agrees = record { registers = constants_are y start_registers; memory = λ a. image_is (get (start_map program.segments) a); heap = refl; place = refl };
  made = record {
    registers = λ r. subst IsMade (sym (get_or-map Const start_registers r 0)) (m.constant (get_or start_registers r 0) (set_below (replicate 32 0) 2 r 0x7fffff00 (2 ^ 32) (omega arith) (zeros_below 32 r (2 ^ 32) (omega arith))));
    bytes = λ a. m.constant (byte_at (start_map program.segments) a) (omega (arith, start_below program h a));
    small = λ a y bs. start_below program h a;
    break = start_break program.segments;
  };
}

-- both runs at the start
start_together : {made : Making} {IsMade : Tree → Type 0} → IsMaker made IsMade → (program : Program) → IsProgram program → (n : ℕ) (x y : List ℕ) → IsInput n x → IsInput n y → AreTogether IsMade n (start_terms program.segments) x y (start program.entry program.segments) (start program.entry program.segments)
start_together m program h n x y ix iy = record { first = ix; second = iy; here = start_stands m program h x; there = start_stands m program h y; pc = refl; aligned = start_aligned program h }

-- ---- the law

-- the conditions of a run hold of an input exactly where it has the same run
same_lawful : {made : Making} {IsMade : Tree → Type 0} → IsMaker made IsMade → FindsEqual → (program : Program) (limit : ℕ) (x y : List ℕ) → IsProgram program → IsInput (length x) x → IsInput (length x) y → IsTrapped (transcript_of program x limit).end → Hold (conditions made program (transcript_of program x limit)) y ↔ (transcript_of program y limit ≡ transcript_of program x limit)
unfolding conditions transcript_of
same_lawful {made} m equal program limit x y h ix iy t =
    let run = trace_of_program program x limit in
    let other = trace_of_program program y limit in
    let law = run_lawful m (length x) x y limit (start_terms program.segments) (start program.entry program.segments) (start program.entry program.segments) (start_together m program h (length x) x y ix iy) t in
    let ts = follow made (length x) (start_terms program.segments) run.events run.end in (
      λ c. let e = law.gives (kept_give equal y [] ts c) in (λ i. record { n = iy.long i; events = (e i).events; end = (e i).end }),
      λ e. kept_hold y [] ts (hold_none y) (law.holds (same_run other run (λ i. (e i).events) (λ i. (e i).end))),
    )

-- the same, where the length of the input is the transcript's
traced_lawful : {made : Making} {IsMade : Tree → Type 0} → IsMaker made IsMade → FindsEqual → (program : Program) (limit : ℕ) (x y : List ℕ) → IsProgram program → IsInput (transcript_of program x limit).n x → IsInput (transcript_of program x limit).n y → IsTrapped (transcript_of program x limit).end → Hold (conditions made program (transcript_of program x limit)) y ↔ (transcript_of program y limit ≡ transcript_of program x limit)
unfolding transcript_of
traced_lawful m equal program limit x y h ix iy t = same_lawful m equal program limit x y h ix iy t

-- the computed test for equal transcripts
abbrev pub TestsEqual : Type 0
TestsEqual = (a b : Transcript) → IsTrue (same_transcript a b) ↔ (a ≡ b)

-- the conditions of a crash hold of an input exactly where it is in the class
pub conditions_lawful : {made : Making} {IsMade : Tree → Type 0} → IsMaker made IsMade → FindsEqual → TestsEqual → (program : Program) (limit : ℕ) (x y : List ℕ) (run : Transcript) → IsProgram program → IsCrash program limit x run → IsInput run.n y → Hold (conditions made program run) y ↔ IsTrue (in_class program limit run y)
unfolding in_class
conditions_lawful {made} m equal same program limit x y run h c iy =
    let Law : Transcript → Type 0 = λ t. IsInput t.n x → IsInput t.n y → IsTrapped t.end → Hold (conditions made program t) y ↔ (transcript_of program y limit ≡ t) in
    let law = subst Law (sym c.trace) (traced_lawful m equal program limit x y h) c.input iy c.trapped in
    let test = same (transcript_of program y limit) run in
    (λ k. test.1 (law.0 k), λ k. law.1 (test.0 k))

-- ---- what each condition is like

-- the conditions of what comes after a step are new ones
next_new : (made : Making) (IsMade : Tree → Type 0) (n k : ℕ) (x : List ℕ)
    → ((terms : SymbolicState) (s : State) → Stands IsMade terms x s → ReadWithin n terms → Each (IsNew IsMade n) (follow made n terms (trace_from k x s).events (trace_from k x s).end))
    → (terms : SymbolicState) (a : Next) → OnGoes (Stands IsMade terms x) a → ReadWithin n terms → Each (IsNew IsMade n) (follow made n terms (onward (trace_from k x) a).events (onward (trace_from k x) a).end)
unfolding follow
next_new made IsMade n k x law terms (Goes s) h w = law terms s h w
next_new made IsMade n k x law terms (Ends e) h w = tt

-- the conditions along a run are new ones
run_new : {made : Making} {IsMade : Tree → Type 0} → IsMaker made IsMade → IsCarefulMaker made IsMade → (n : ℕ) (x : List ℕ) → IsInput n x → (k : ℕ) (terms : SymbolicState) (s : State) → Stands IsMade terms x s → ReadWithin n terms → Each (IsNew IsMade n) (follow made n terms (trace_from k x s).events (trace_from k x s).end)
unfolding trace_from follow
run_new m c n x ix zero terms s h w = tt
run_new {made} {IsMade} m c n x ix (suc k) terms s h w =
    both_each (IsNew IsMade n) (event_conditions made terms (step x s).event (shown_next (onward (trace_from k x) (step x s).next).events (onward (trace_from k x) (step x s).next).end)) _
    (new_conditions m c n terms h.made w (step x s).event _)
    (next_new made IsMade n k x (λ t r. run_new m c n x ix k t r) (terms_after made n terms (step x s).event) (step x s).next (step_goes m n ix h) (after_within c n terms w (step x s).event))

-- each condition of a run is proper
traced_proper : {made : Making} {IsMade : Tree → Type 0} → IsMaker made IsMade → IsCarefulMaker made IsMade → FindsEqual → ((t : Tree) → same_tree t t ≡ true) → (program : Program) (limit : ℕ) (x : List ℕ) → IsProgram program → IsInput (transcript_of program x limit).n x → IsTrapped (transcript_of program x limit).end → AreProper (transcript_of program x limit).n (conditions made program (transcript_of program x limit))
unfolding conditions transcript_of
traced_proper {made} {IsMade} m c equal itself program limit x h ix t =
    let run = trace_of_program program x limit in
    let ts = follow made (length x) (start_terms program.segments) run.events run.end in
    kept_proper c (λ d. itself (Const d)) (length x) x [] ts tt
    (run_new m c (length x) x ix limit (start_terms program.segments) (start program.entry program.segments) (start_stands m program h x) (start_within (length x) program.segments))
    (kept_give equal x [] ts ((same_lawful m equal program limit x x h ix ix t).1 refl))

-- each condition of a crash is proper
pub conditions_proper : {made : Making} {IsMade : Tree → Type 0} → IsMaker made IsMade → IsCarefulMaker made IsMade → FindsEqual → ((t : Tree) → same_tree t t ≡ true) → (program : Program) (limit : ℕ) (x : List ℕ) (run : Transcript) → IsProgram program → IsCrash program limit x run → AreProper run.n (conditions made program run)
conditions_proper {made} m c equal itself program limit x run h k =
    let Law : Transcript → Type 0 = λ t. IsInput t.n x → IsTrapped t.end → AreProper t.n (conditions made program t) in
    subst Law (sym k.trace) (traced_proper m c equal itself program limit x h) k.input k.trapped
