use Rattle.std.proofs.Common.{◌≡◌, ℕ, ◌<◌, Bool, true, get_or}
use Rattle.std.specs.Prelude.{Contains}
use Rattle.term_model.specs.Places.{reads}
use Rattle.term_arena.specs.Trees.{tree_of}
use Rattle.reached_terms.specs.Reached.{OperandsPass}
use Rattle.byte_groups.specs.Gathered.{is_marked, ReadsMarked}
use Rattle.byte_groups.proofs.gathered.mark_all.Given as goal

abbrev pub invariant-loop-t : goal.invariant-loop-t
invariant-loop-t l = record {
  sound : (i : ℕ) → is_marked l.marks i ≡ true → (t : ℕ) × Contains l.terms t × (reads (tree_of l.arena t) i ≡ true);
  all : (j d : ℕ) → j < l.t-index → (among : ℕ → Bool) → ((i : ℕ) → is_marked l.marks i ≡ true → among i ≡ true) → OperandsPass l.arena (ReadsMarked l.arena among) (get_or l.terms j d) → ReadsMarked l.arena among (get_or l.terms j d);
}
