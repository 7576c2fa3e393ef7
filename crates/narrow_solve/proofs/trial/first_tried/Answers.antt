use Rattle.std.proofs.Common.{rules, sym, ◌∙◌}
use Rattle.term_model.specs.Conditions.{holds}
use Rattle.term_arena.specs.Trees.{trees_of}
use Rattle.narrow_solve.proofs.TriedLemmas.{tried_more, none_tried}
use Rattle.narrow_solve.proofs.trial.first_tried.Goals as goal

pub loop-turn-init : goal.loop-turn-init
loop-turn-init c = record {
  room = search rules;
  tried = none_tried (holds (trees_of c.args.arena.now c.args.conditions.now)) c.args.mask c.args.trial.now c.args.place;
}

pub loop-turn-preserved : goal.loop-turn-preserved
loop-turn-preserved c = record {
  room = c.check_model.ensures.keeps ∙ c.loop-turn.invariant.room;
  tried = tried_more (holds (trees_of c.args.arena.now c.args.conditions.now)) c.args.mask c.args.trial.now c.loop-turn.trial c.args.place c.loop-turn.turn c.loop-turn.invariant.tried (sym c.check_model.ensures.test ∙ c.if-check_model.false);
}
