use Rattle.std.proofs.Common.{rules, ◌≡◌, true, false, sym, ◌∙◌, subst, List, ℕ, ◌+◌, arith}
use Rattle.std.proofs.lemmas.List.{set-set}
use Rattle.term_model.specs.Conditions.{holds}
use Rattle.term_arena.specs.Trees.{trees_of}
use Rattle.byte_sets.specs.ByteSet.{has}
use Rattle.narrow_solve.proofs.ValueLemmas.{HaveHeld, held_more, held_same, each_held, one_failed}
use Rattle.narrow_solve.proofs.pairs.holds_with_each.Goals as goal
use Rattle.narrow_solve.proofs.pairs.holds_with_each.Goals.{then-contains+else-not-check_model, else-contains}

pub returns-then-not-check_model-clause-each : goal.returns-then-not-check_model-clause-each
returns-then-not-check_model-clause-each c =
    let failed : c.check_model.result ≡ false = search rules in
    sym (one_failed (holds (trees_of c.args.arena.now c.args.conditions.now)) (has c.args.values.now) c.args.trial.now c.loop-turn.trial c.args.place c.loop-turn.turn c.loop-turn.invariant.held (omega arith) (sym c.contains.ensures ∙ c.if-contains.true) (sym c.check_model.ensures.test ∙ failed))

pub returns-then-not-check_model-clause-aside : goal.returns-then-not-check_model-clause-aside
returns-then-not-check_model-clause-aside c = λ v. set-set c.loop-turn.trial c.args.place c.loop-turn.turn v ∙ c.loop-turn.invariant.held.aside v

pub loop-turn-preserved : goal.loop-turn-preserved
loop-turn-preserved c =
    let Held : List ℕ → Type 0 = λ now. HaveHeld (holds (trees_of c.args.arena.now c.args.conditions.now)) (has c.args.values.now) c.args.trial.now now c.args.place (c.loop-turn.turn + 1) in
    elim c.if-contains.branch [
      | then-contains+else-not-check_model w ↦ record {
        room = w.scratch-is ∙ (w.check_model.ensures.keeps ∙ c.loop-turn.invariant.room);
        held =
            let passed : w.check_model.result ≡ true = search rules in
            subst Held (sym w.trial-is) (held_more (holds (trees_of c.args.arena.now c.args.conditions.now)) (has c.args.values.now) c.args.trial.now c.loop-turn.trial c.args.place c.loop-turn.turn c.loop-turn.invariant.held (sym w.check_model.ensures.test ∙ passed));
      }
      | else-contains w ↦ record {
        room = w.scratch-is ∙ c.loop-turn.invariant.room;
        held = subst Held (sym w.trial-is) (held_same (holds (trees_of c.args.arena.now c.args.conditions.now)) (has c.args.values.now) c.args.trial.now c.loop-turn.trial c.args.place c.loop-turn.turn c.loop-turn.invariant.held (sym c.contains.ensures ∙ w.if-contains.false));
      }
    ]

pub returns-clause-each : goal.returns-clause-each
returns-clause-each c =
    sym (each_held (holds (trees_of c.args.arena.now c.args.conditions.now)) (has c.args.values.now) c.args.trial.now c.loop-turn.trial c.args.place c.loop-turn.turn c.loop-turn.invariant.held (omega arith))
