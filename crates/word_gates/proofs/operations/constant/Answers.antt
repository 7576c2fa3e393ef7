use Rattle.std.proofs.Common.{◌≡◌, refl, arith}
use Rattle.word_gates.proofs.LeafLemmas.{constant_more, constant_below, constant_trees, constant_width}
use Rattle.word_gates.proofs.operations.constant.Goals as goal

pub loop-place-preserved : goal.loop-place-preserved
loop-place-preserved c = rw c.in_ok-push.ensures.items (constant_more 32 _ _ _ _ _ c.loop-place.invariant c.loop-place-test.true refl)

pub returns-clause-below : goal.returns-clause-below
returns-clause-below c = let e : c.loop-place.place ≡ 32 = omega arith in constant_below _ _ _ _ c.loop-place.invariant e

pub returns-clause-trees : goal.returns-clause-trees
returns-clause-trees c = let e : c.loop-place.place ≡ 32 = omega arith in constant_trees _ _ _ _ c.loop-place.invariant e

pub returns-clause-width : goal.returns-clause-width
returns-clause-width c = let e : c.loop-place.place ≡ 32 = omega arith in constant_width _ _ _ _ c.loop-place.invariant e
