use Rattle.std.proofs.Common.{◌≡◌, ◌↔◌, IsTrue, ℕ, ◌+◌, ◌<◌, List, [], length, drop, Some, sym, ap, subst, ◌∙◌, arith}
use Rattle.std.specs.Prelude.{slice_get}
use Rattle.elf32.specs.Loads.{Program, program_of}
use Rattle.term_model.specs.Tree.{Tree}
use Rattle.term_model.specs.Conditions.{Hold}
use Rattle.term_arena.specs.Trees.{trees_of}
use Rattle.normal_form.specs.Norm.{norm}
use Rattle.rv_machine.specs.Class.{in_class}
use Rattle.replay_law.specs.Crash.{AreProper}
use Rattle.replay_law.specs.Forms.{with_conditions}
use Rattle.replay_law.specs.Terms.{terms_after}
use Rattle.replay_law.specs.Follow.{event_conditions, shown_next}
use Rattle.trace_conditions.specs.Conditions as whole
use Rattle.path_condition.proofs.ListLemmas.{grown_trees, grown_belong}
use Rattle.sym_replay.specs.States.{terms_of}
use Rattle.sym_replay.proofs.ValueLemmas.{as_it_is, further}
use Rattle.sym_replay.proofs.StateLemmas.{grown_state, grown_terms}
use Rattle.sym_replay.proofs.RunLemmas.{at_start, next_event, at_end}
use Rattle.sym_replay.proofs.whole.replay.Goals as goal

pub loop-i-init : goal.loop-i-init
loop-i-init c =
    let arena = c.args.arena.now in
    let program : Program = program_of c.args.image.now in
    let none : c.new-conditions.result ≡ [] = c.new-conditions.ensures.empty in
    let start = c.in_ok-state.ensures.terms arena in
    let place : c.in_ok-state.state.place ≡ 0 = (λ i. (start i).place) in (
      λ k d lt. absurd (let h : k < 0 = subst (λ (ts : List ℕ). k < length ts) none lt in omega arith),
      c.in_ok-state.ensures.state arena,
      omega arith,
      as_it_is arena,
      at_start program c.args.transcript.now (trees_of arena c.new-conditions.result) (terms_of arena c.in_ok-state.state) (ap (trees_of arena) none) start,
    )

pub follow_event-requires-clause-state : goal.follow_event-requires-clause-state
follow_event-requires-clause-state c = grown_state c.loop-i.arena c.add_event.new.arena c.loop-i.state c.in_ok-add_event.ensures.keeps c.loop-i.invariant.1

pub loop-i-preserved : goal.loop-i-preserved
loop-i-preserved c =
    let keeps = c.in_ok-follow_event.ensures.keeps in
    let grown = grown_terms c.loop-i.arena c.add_event.new.arena c.loop-i.state c.in_ok-add_event.ensures.keeps c.loop-i.invariant.1 in
    let later = grown_trees c.add_event.new.arena c.follow_event.new.arena keeps c.add_event.new.conditions c.in_ok-add_event.ensures.listed in
    let run = c.args.transcript.now in
    let program : Program = program_of c.args.image.now in
    let s = terms_of c.loop-i.arena c.loop-i.state in
    let e = c.event-event.result in
    let item : slice_get run.events c.loop-i.i ≡ Some e = c.event-event.ensures in
    let shown : c.shown_after-shown.result ≡ shown_next (drop (c.loop-i.i + 1) run.events) run.end = c.shown_after-shown.ensures in
    let listed = trees_of c.loop-i.arena c.loop-i.conditions in
    let new = later ∙ c.in_ok-add_event.ensures.trees ∙ ap (λ v. with_conditions listed (event_conditions norm s e v)) shown in
    let after = c.in_ok-follow_event.ensures.terms ∙ (λ i. terms_after norm run.n (grown i) e) in (
      grown_belong c.add_event.new.arena c.follow_event.new.arena keeps c.add_event.new.conditions c.in_ok-add_event.ensures.listed,
      c.in_ok-follow_event.ensures.state,
      c.in_ok-follow_event.ensures.place,
      further c.args.arena.now c.loop-i.arena c.follow_event.new.arena c.loop-i.invariant.3 (further c.loop-i.arena c.add_event.new.arena c.follow_event.new.arena c.in_ok-add_event.ensures.keeps keeps),
      next_event run.n run.events run.end (whole.conditions_of program run) c.loop-i.i e item listed (trees_of c.follow_event.new.arena c.add_event.new.conditions) s (terms_of c.follow_event.new.arena c.follow_event.new.self) c.loop-i.invariant.4 new after,
    )

pub returns-clause-trees : goal.returns-clause-trees
returns-clause-trees c =
    let run = c.args.transcript.now in
    let program : Program = program_of c.args.image.now in
    let last : c.loop-i.i ≡ length run.events = omega (arith, c.len-i-end.ensures, c.loop-i-test.false, c.loop-i.auto.i-end) in
    at_end run.n run.events run.end (whole.conditions_of program run) (trees_of c.loop-i.arena c.loop-i.conditions) (terms_of c.loop-i.arena c.loop-i.state) c.loop-i.i last c.loop-i.invariant.4

pub returns-clause-class : goal.returns-clause-class
returns-clause-class c limit x y p k i =
    let program : Program = program_of c.args.image.now in
    subst (λ (ts : List Tree). Hold ts y ↔ IsTrue (in_class program limit c.args.transcript.now y)) (sym (returns-clause-trees c))
    (c.conditions_hold_of_the_class.ensures.class program limit x y c.args.transcript.now p k i)

pub returns-clause-proper : goal.returns-clause-proper
returns-clause-proper c limit x p k =
    let program : Program = program_of c.args.image.now in
    subst (AreProper c.args.transcript.now.n) (sym (returns-clause-trees c)) (c.conditions_are_proper.ensures.proper program limit x c.args.transcript.now p k)
