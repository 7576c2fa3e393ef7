-- A run that has ended is the same under a greater limit of steps, and so are its class and its report.
use Rattle.std.proofs.Common.{◌≡◌, ◌∙◌, ◌≤◌, ℕ, zero, suc, Bool, true, false, List, [], length, refl, sym, ap, arith}
use Rattle.std.specs.Prelude.{unwrap_or}
use mathlib.Core.Path.{fun_ext}
use Rattle.elf32.specs.Loads.{Program, loaded_program}
use Rattle.rv_event.specs.declared.event.Trap.{Trap}
use Rattle.rv_event.specs.declared.transcript.Transcript.{Transcript}
use Rattle.rv_machine.specs.State.{State, Next, Goes, Ends, start}
use Rattle.rv_machine.specs.Effects.{step}
use Rattle.rv_machine.specs.Trace.{Trace, with_event, onward, trace_from, transcript_of, has_ended}
use Rattle.rv_machine.specs.Class.{in_class}
use Rattle.input_laws.specs.Order.{first}
use Rattle.trace_conditions.specs.Conditions.{conditions_of}
use Rattle.set_laws.specs.Sets.{sets_from}
use Rattle.report_laws.specs.Mask.{mask}
use Rattle.report_laws.specs.Made.{first_input, sets_of, report_with, report_of}
use Rattle.report_laws.proofs.ClassLemmas.{member_has_trace, traced_is_member}

-- ---- runs

more_steps : (n m : ℕ) (x : List ℕ) (s : State) → n ≤ m → has_ended (trace_from n x s).end ≡ true → trace_from m x s ≡ trace_from n x s
unfolding trace_from
more_steps zero m x s le ended = cc
more_steps (suc n) zero x s le ended = absurd (omega arith)
more_steps (suc n) (suc m) x s le ended = ap (with_event (step x s).event) (by (step x s).next ended (λ t on. more_steps n m x t (omega arith) on))
  where
    by : (next : Next) → has_ended (onward (trace_from n x) next).end ≡ true → ((t : State) → has_ended (trace_from n x t).end ≡ true → trace_from m x t ≡ trace_from n x t) → onward (trace_from m x) next ≡ onward (trace_from n x) next
    by (Goes t) on same = same t on
    by (Ends end) on same = refl

fewer_steps : (n m : ℕ) (x : List ℕ) (s : State) → has_ended (trace_from m x s).end ≡ true → length (trace_from m x s).events ≤ n → trace_from n x s ≡ trace_from m x s
unfolding trace_from
fewer_steps n zero x s ended few = cc
fewer_steps zero (suc m) x s ended few = absurd (omega arith)
fewer_steps (suc n) (suc m) x s ended few =
    ap (with_event (step x s).event) (by (step x s).next ended few (λ t on less. fewer_steps n m x t on less))
  where
    by : (next : Next) → has_ended (onward (trace_from m x) next).end ≡ true → suc (length (onward (trace_from m x) next).events) ≤ suc n
        → ((t : State) → has_ended (trace_from m x t).end ≡ true → length (trace_from m x t).events ≤ n → trace_from n x t ≡ trace_from m x t) → onward (trace_from n x) next ≡ onward (trace_from m x) next
    by (Goes t) on less same = same t on (omega arith)
    by (Ends end) on less same = refl

abbrev told : List ℕ → Trace → Transcript
told x run = record { n = length x; events = run.events; end = run.end }

pub more_limit : (program : Program) (x : List ℕ) (n m : ℕ) → n ≤ m → has_ended (transcript_of program x n).end ≡ true → transcript_of program x m ≡ transcript_of program x n
unfolding transcript_of
more_limit program x n m le ended = ap (told x) (more_steps n m x (start program.entry program.segments) le ended)

fewer_limit : (program : Program) (x : List ℕ) (n m : ℕ) → has_ended (transcript_of program x m).end ≡ true → length (transcript_of program x m).events ≤ n → transcript_of program x n ≡ transcript_of program x m
unfolding transcript_of
fewer_limit program x n m ended few = ap (told x) (fewer_steps n m x (start program.entry program.segments) ended few)

-- ---- classes

same_truth : (a b : Bool) → (a ≡ true → b ≡ true) → (b ≡ true → a ≡ true) → a ≡ b
same_truth true true f g = refl
same_truth false false f g = refl
same_truth true false f g = sym (f refl)
same_truth false true f g = g refl

module _ (program : Program) (t : Transcript) (n m : ℕ) (le : n ≤ m) (ended : has_ended t.end ≡ true) (few : length t.events ≤ n) where
  same_member : (y : List ℕ) → in_class program m t y ≡ in_class program n t y
  same_member y = same_truth (in_class program m t y) (in_class program n t y)
      (λ is.
      let run = member_has_trace program m t y is in
      traced_is_member program n t y (fewer_limit program y n m (ap (λ u. has_ended u.end) run ∙ ended) (rw run few) ∙ run))
      (λ is.
      let run = member_has_trace program n t y is in
      traced_is_member program m t y (more_limit program y n m le (ap (λ u. has_ended u.end) run ∙ ended) ∙ run))

  same_first : (seed : ℕ) → first_input program seed m t ≡ first_input program seed n t
  same_first seed = ap (λ member. unwrap_or (first (mask seed t.n) member) []) (fun_ext same_member)

-- the report is the same
pub same_report : (p : List ℕ) (seed : ℕ) (t : Transcript) (trap : Trap) (n m : ℕ) → n ≤ m → has_ended t.end ≡ true → length t.events ≤ n → report_of p seed m t trap ≡ report_of p seed n t trap
unfolding report_of
same_report p seed t trap n m le ended few =
    let input = same_first (loaded_program p) t n m le ended few seed in
    let sets : sets_of (loaded_program p) seed m t ≡ sets_of (loaded_program p) seed n t = λ i. sets_by (input i) in
    λ i. report_with p seed t trap (input i) (sets i)
  where
    sets_by : List ℕ → List (ℕ → Bool)
    sets_by input = sets_from (conditions_of (loaded_program p) t) input
