-- From what followed a run, step by step, to its text.
use Rattle.std.proofs.Common.{◌≡◌, ◌∙◌, ℕ, List, length, ap}
use Rattle.std.specs.Ordering.{nat_cmp}
use Rattle.std.specs.FinSet as set
use Rattle.elf32.specs.Loads.{Program}
use Rattle.rv_event.specs.declared.event.End.{End}
use Rattle.rv_event.specs.declared.transcript.Transcript.{Transcript}
use Rattle.rv_machine.specs.State.{State, start}
use Rattle.rv_machine.specs.Trace.{trace_from, transcript_of}
use Rattle.watchers.specs.Counters.{counters, all_covered, last_sixteen}
use Rattle.symbol_stack.specs.Stack.{counter_of, reached_by}
use Rattle.symbol_stack.specs.Text.{text}
use Rattle.symbol_stack.specs.declared.reached.Reached.{Reached}
use Rattle.elf32.specs.declared.symbols.Symbol.{Symbol}
use Rattle.crash_tool.specs.Stack.{told_by}
use Rattle.crash_tool.specs.RunText.{seen_text, run_text}

-- what was seen of a run is told of it
pub told : (t : Transcript) (end : End) (steps : ℕ) (seen : set.FinSet nat_cmp × List ℕ) → end ≡ t.end → steps ≡ length t.events
    → seen ≡ (all_covered t.events, last_sixteen (counters t.events)) → seen_text end steps (set.len seen.0) seen.1 ≡ run_text t
unfolding run_text
told t end steps seen is_end is_steps is = (λ i. seen_text (is_end i) (is_steps i) (set.len ((is i).0)) ((is i).1))

-- what followed a run one event behind is told as its stack
pub stack-told : (functions : List Symbol) (t : Transcript) (r : Reached) → r ≡ reached_by t.events → text functions r.calls (counter_of r.last) ≡ told_by functions t
unfolding told_by
stack-told functions t r is = ap (λ (r : Reached). text functions r.calls (counter_of r.last)) is

-- the run of a machine from a program's start is the program's run
module _ (p : Program) (x : List ℕ) (n : ℕ) (s : State) (is : s ≡ start p.entry p.segments) where
  pub its-end : (trace_from n x s).end ≡ (transcript_of p x n).end
  unfolding transcript_of
  its-end = ap (λ s. (trace_from n x s).end) is

  pub its-events : (trace_from n x s).events ≡ (transcript_of p x n).events
  unfolding transcript_of
  its-events = ap (λ s. (trace_from n x s).events) is
