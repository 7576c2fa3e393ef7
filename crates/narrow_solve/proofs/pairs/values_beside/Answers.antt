use Rattle.std.proofs.Common.{◌≢◌, ◌∙◌, ap, inl, inr, arith}
use Rattle.term_model.specs.Conditions.{holds}
use Rattle.term_arena.specs.Trees.{trees_of}
use Rattle.byte_sets.specs.ByteSet.{has}
use Rattle.narrow_solve.proofs.ValueLemmas.{beside_more}
use Rattle.narrow_solve.proofs.pairs.values_beside.Goals as goal
use Rattle.narrow_solve.proofs.pairs.values_beside.Goals.{then-holds_with_each, else-holds_with_each}

pub loop-turn-preserved : goal.loop-turn-preserved
loop-turn-preserved c =
    let apart : c.args.low ≢ c.args.high = omega arith in
    record {
      room = c.holds_with_each.ensures.keeps ∙ c.loop-turn.invariant.room;
      beside = beside_more (holds (trees_of c.args.arena.now c.args.conditions.now)) (has c.args.lower.now) (has c.loop-turn.values) (has c.if-holds_with_each.values) c.args.trial.now c.loop-turn.trial c.holds_with_each.new.trial c.args.low c.args.high c.loop-turn.turn c.holds_with_each.result apart (omega arith) c.loop-turn.invariant.beside c.holds_with_each.ensures.aside c.holds_with_each.ensures.each
          (elim c.if-holds_with_each.branch [
            | then-holds_with_each w ↦ inl (w.if-holds_with_each.true, ap has w.values-is ∙ w.insert.ensures)
            | else-holds_with_each w ↦ inr (w.if-holds_with_each.false, ap has w.values-is)
          ]);
    }
