use Rattle.std.proofs.Common.{arith}
use Rattle.term_tests.proofs.ReadableLemmas.{IsReadable, readable-extends}
use Rattle.term_tests.proofs.arena.a_node_under_many_is_valued_once_a_call.Goals as goal

pub loop-init : goal.loop-init
loop-init g c =
    let older : IsReadable 2 c.input.new.self c.in_ok-older.older = record {
      below = c.in_ok-older.ensures.below;
      reads = rw c.in_ok-older.ensures.tree (omega arith);
    } in
    let newer : IsReadable 2 c.input-2.new.self c.in_ok-newer.newer = record {
      below = c.in_ok-newer.ensures.below;
      reads = rw c.in_ok-newer.ensures.tree (omega arith);
    } in
    (readable-extends 2 _ _ _ c.input-2.ensures.keeps older, newer)

pub loop-preserved : goal.loop-preserved
loop-preserved g c =
    let next : IsReadable 2 c.intern.new.self c.in_ok-next.next = record {
      below = c.in_ok-next.ensures.below;
      reads = rw c.in_ok-next.ensures.tree (c.loop.invariant.0.reads, c.loop.invariant.1.reads);
    } in
    (readable-extends 2 _ _ _ c.intern.ensures.keeps c.loop.invariant.1, next)
