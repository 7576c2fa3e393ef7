use Rattle.std.proofs.Common.{◌∙◌, ◌-◌, ◌<◌, ◌≤◌, ◌++◌, length, min, take, reverse, get_or, ap, arith}
use Rattle.std.specs.Prelude.{flat_map, codes}
use Rattle.symbol_stack.specs.Text.{counter_line, more_line}
use Rattle.std.proofs.Common.{append_assoc}
use Rattle.symbol_stack.proofs.TextLemmas.{one_more, all_told}
use Rattle.symbol_stack.proofs.text.named_text.Goals as goal

pub loop-i-preserved : goal.loop-i-preserved
loop-i-preserved c =
    let symbols = c.args.names.now in
    let stack = c.args.stack.now in
    let below : c.loop-i.i < length stack = omega (arith, c.loop-i-test.true, c.min-i-end.ensures) in
    c.in_ok-push_counter-2.ensures
    ∙ ((λ k. c.loop-i.invariant k ++ counter_line symbols (codes "from ") (get_or stack (length stack - 1 - c.loop-i.i) 0))
    ∙ one_more (counter_line symbols (codes "from ")) (counter_line symbols (codes "at ") c.args.pc) stack c.loop-i.i below)

pub returns : goal.returns
returns c =
    let symbols = c.args.names.now in
    let stack = c.args.stack.now in
    let front = counter_line symbols (codes "at ") c.args.pc in
    let from = counter_line symbols (codes "from ") in
    let low : min (length stack) 64 ≤ c.loop-i.i = omega (arith, c.loop-i-test.false, c.min-i-end.ensures) in
    let high : c.loop-i.i ≤ min (length stack) 64 = omega (arith, c.loop-i.auto.i-end, c.min-i-end.ensures) in
    c.from_vec.ensures
    ∙ (c.in_ok-push_more.ensures
    ∙ ((λ k. c.loop-i.invariant k ++ more_line (c.saturating_sub.ensures k))
    ∙ (ap (λ l. (front ++ flat_map from l) ++ more_line (length stack - 64)) (all_told stack c.loop-i.i low high)
    ∙ append_assoc front (flat_map from (take 64 (reverse stack))) (more_line (length stack - 64)))))
