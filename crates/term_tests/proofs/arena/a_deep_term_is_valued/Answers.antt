use Rattle.std.proofs.Common.{arith}
use Rattle.term_tests.proofs.ReadableLemmas.{IsReadable, readable-extends}
use Rattle.term_tests.proofs.arena.a_deep_term_is_valued.Goals as goal

pub loop-init : goal.loop-init
loop-init g c =
    let first : IsReadable 2 c.input.new.self c.in_ok-t.t = record {
      below = c.in_ok-t.ensures.below;
      reads = rw c.in_ok-t.ensures.tree (omega arith);
    } in
    let second : IsReadable 2 c.input-2.new.self c.in_ok-second.second = record {
      below = c.in_ok-second.ensures.below;
      reads = rw c.in_ok-second.ensures.tree (omega arith);
    } in
    (readable-extends 2 _ _ _ c.input-2.ensures.keeps first, second)

pub loop-preserved : goal.loop-preserved
loop-preserved g c =
    let t : IsReadable 2 c.intern.new.self c.in_ok-t-2.t = record {
      below = c.in_ok-t-2.ensures.below;
      reads = rw c.in_ok-t-2.ensures.tree (c.loop.invariant.0.reads, c.loop.invariant.1.reads);
    } in
    (t, readable-extends 2 _ _ _ c.intern.ensures.keeps c.loop.invariant.1)
