use Rattle.std.proofs.Common.{◌<◌, sym, ◌∙◌, arith}
use Rattle.std.specs.Prelude.{bit_xor}
use Rattle.std.proofs.lemmas.Nat.{xor_lt}
use Rattle.term_model.specs.Conditions.{holds}
use Rattle.term_arena.specs.Trees.{trees_of}
use Rattle.narrow_solve.proofs.LaneLemmas.{tried_still}
use Rattle.narrow_solve.proofs.one_place.first_at.Goals as goal

pub loop-turn-preserved : goal.loop-turn-preserved
loop-turn-preserved c =
    let byte : c.args.mask < 256 = omega arith in
    let small : bit_xor c.loop-turn.turn c.args.mask < 256 = xor_lt 8 c.loop-turn.turn c.args.mask (omega arith) byte in
    tried_still (holds (trees_of c.args.arena.now c.args.conditions.now)) c.args.mask c.args.trial.now c.args.place c.loop-turn.turn c.loop-turn.invariant (sym (c.in-Some.ensures.passing.at (bit_xor c.loop-turn.turn c.args.mask) small) ∙ c.if-passes-value.false)
