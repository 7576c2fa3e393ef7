use Rattle.std.proofs.Common.{◌≡◌, ◌≤◌, drop}
use Rattle.elf32.specs.Loads.{program_of}
use Rattle.term_arena.specs.Trees.{Extends, trees_of}
use Rattle.normal_form.specs.Norm.{norm}
use Rattle.replay_law.specs.Forms.{with_conditions}
use Rattle.replay_law.specs.Follow.{follow}
use Rattle.path_condition.specs.Listed.{Belong}
use Rattle.trace_conditions.specs.Conditions.{conditions_of}
use Rattle.sym_replay.specs.States.{terms_of, IsState}
use Rattle.sym_replay.proofs.whole.replay.Given as goal

-- the conditions so far, and those of the events that are left, are those of the run
abbrev pub invariant-loop-i : goal.invariant-loop-i
invariant-loop-i l =
    Belong l.arena l.conditions × IsState l.arena l.state × (l.state.place ≤ l.transcript.n) × Extends l.fn.arena l.arena
    × (with_conditions (trees_of l.arena l.conditions) (follow norm l.transcript.n (terms_of l.arena l.state) (drop l.i l.transcript.events) l.transcript.end)
    ≡ conditions_of (program_of l.image) l.transcript)
