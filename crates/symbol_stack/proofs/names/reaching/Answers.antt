use Rattle.std.proofs.Common.{◌-◌, ◌<◌, length, arith}
use Rattle.symbol_stack.proofs.RowLemmas.{passed_on}
use Rattle.symbol_stack.proofs.names.reaching.Goals as goal

pub loop-reached-smaller : goal.loop-reached-smaller
loop-reached-smaller c =
    let h = c.requires.outer (c.loop-reached.reached - 1) (record { start = 0; behind = 0; end = 0 }) (omega (arith, c.requires.within, c.loop-reached.invariant.fewer, c.loop-reached-test.true)) in
    omega (arith, h.0, c.loop-reached-test.true)

pub loop-reached-preserved : goal.loop-reached-preserved
loop-reached-preserved c =
    let lt : c.loop-reached.reached - 1 < length c.args.outer.now = omega (arith, c.requires.within, c.loop-reached.invariant.fewer, c.loop-reached-test.true) in
    let h = c.requires.outer (c.loop-reached.reached - 1) (record { start = 0; behind = 0; end = 0 }) lt in
    record {
      fewer = omega (arith, h.0, c.loop-reached.invariant.fewer);
      passed = passed_on c.args.rows.now c.args.count c.loop-reached.reached _ c.args.address _ (omega (arith, c.loop-reached-test.true)) (omega (arith, c.requires.within, c.requires.long, c.loop-reached.invariant.fewer)) c.loop-reached.invariant.passed c.if-rows-reached.true (λ d. (c.requires.outer (c.loop-reached.reached - 1) d lt).1);
    }
