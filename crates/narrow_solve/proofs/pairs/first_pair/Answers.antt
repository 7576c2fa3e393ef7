use Rattle.std.proofs.Common.{◌≢◌, ◌∙◌, arith}
use Rattle.std.specs.Prelude.{slice_index}
use Rattle.term_model.specs.Conditions.{holds}
use Rattle.term_arena.specs.Trees.{trees_of}
use Rattle.narrow_solve.proofs.TriedLemmas.{pairs_more, found_pair}
use Rattle.narrow_solve.proofs.pairs.first_pair.Goals as goal

pub returns-in-Some-clause-first : goal.returns-in-Some-clause-first
returns-in-Some-clause-first c =
    let apart : c.args.low ≢ c.args.high = omega arith in
    found_pair (holds (trees_of c.args.arena.now c.args.conditions.now)) (slice_index c.args.mask.now c.args.low) c.args.trial.now c.loop-turn.trial c.args.low c.args.high c.loop-turn.turn apart c.loop-turn.invariant.tried (slice_index c.args.mask.now c.args.high) c.in-Some.other c.in-Some.ensures.first

pub loop-turn-preserved : goal.loop-turn-preserved
loop-turn-preserved c =
    let apart : c.args.low ≢ c.args.high = omega arith in
    record {
      room = c.first_at.ensures.keeps ∙ c.loop-turn.invariant.room;
      tried = pairs_more (holds (trees_of c.args.arena.now c.args.conditions.now)) (slice_index c.args.mask.now c.args.low) c.args.trial.now c.loop-turn.trial c.args.low c.args.high c.loop-turn.turn apart c.loop-turn.invariant.tried c.first_at.new.trial c.first_at.ensures.aside c.in-None.ensures.first;
    }
