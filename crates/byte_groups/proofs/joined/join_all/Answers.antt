use Rattle.std.proofs.Common.{◌≡◌, ℕ, length, subst, refl, sym, arith}
use Rattle.byte_groups.proofs.LeafLemmas.{joining_none, joining_more, joining_all, leaf_below}
use Rattle.byte_groups.specs.Joined.{IsLeafBelow}
use Rattle.byte_groups.proofs.joined.join_all.Goals as goal

pub loop-t-init : goal.loop-t-init
loop-t-init c = joining_none c.args.arena.now c.args.terms.now (length c.args.labels.now) c.args.labels.now refl c.requires.own

pub join_operands-requires-clause-belongs : goal.join_operands-requires-clause-belongs
join_operands-requires-clause-belongs c = c.requires.reached.1.belong c.t-item.result (c.loop-t.t-index, c.loop-t-test.true, sym c.t-item.is)

pub join_operands-requires-clause-operands : goal.join_operands-requires-clause-operands
join_operands-requires-clause-operands c = λ op x y l m e.
    let both = c.requires.reached.1.closed c.t-item.result (c.loop-t.t-index, c.loop-t-test.true, sym c.t-item.is) op x y l m e in
    (c.requires.leaves x both.0.1, c.requires.leaves y both.1.1)

pub join_operands-requires-clause-within : goal.join_operands-requires-clause-within
join_operands-requires-clause-within c = λ op x y l m e.
    let both = c.requires.reached.1.closed c.t-item.result (c.loop-t.t-index, c.loop-t-test.true, sym c.t-item.is) op x y l m e in
    let P : ℕ → ℕ → Type 0 = λ n u. IsLeafBelow n c.args.leaves.now u in (
      subst (λ (n : ℕ). P n x) (sym c.loop-t.invariant.long) (leaf_below c.args.arena.now c.args.leaves.now (length c.args.labels.now) x (c.requires.leaves x both.0.1) (c.requires.within x both.0.1)),
      subst (λ (n : ℕ). P n y) (sym c.loop-t.invariant.long) (leaf_below c.args.arena.now c.args.leaves.now (length c.args.labels.now) y (c.requires.leaves y both.1.1) (c.requires.within y both.1.1)),
    )

pub loop-t-preserved : goal.loop-t-preserved
loop-t-preserved c =
    let same : length c.join_operands.new.parents ≡ length c.loop-t.labels = omega arith in
    joining_more c.args.arena.now c.args.terms.now (length c.args.labels.now) c.loop-t.t-index c.t-item.result c.loop-t.labels c.join_operands.new.parents c.loop-t-test.true c.t-item.is c.loop-t.invariant same c.join_operands.ensures.parents c.join_operands.ensures.later c.join_operands.ensures.before c.join_operands.ensures.joined

pub returns : goal.returns
returns c =
    let same : length c.flatten.new.parents ≡ length c.loop-t.labels = omega arith in
    joining_all c.args.arena.now c.requires.reached.0 c.args.terms.now (length c.args.labels.now) c.loop-t.t-index c.loop-t.labels c.flatten.new.parents c.requires.reached.1 c.loop-t-test.false c.loop-t.invariant same c.flatten.ensures.same c.flatten.ensures.flat
