use Rattle.std.proofs.Common.{◌≡◌, ◌≤◌, ◌+◌, ◌-◌, drop, arith, subst}
use Rattle.unit_close.specs.Subsumed.{StandFor}
use Rattle.unit_close.proofs.SubsumeLemmas.{thins_kept, thins_left_out}
use Rattle.unit_close.proofs.subsume.thinned.Goals as goal

pub loop-i-preserved-in-Continue-branch-3 : goal.loop-i-preserved-in-Continue-branch-3
loop-i-preserved-in-Continue-branch-3 c =
    let again : c.loop-i.i - 1 + 1 ≡ c.loop-i.i = omega (arith, c.loop-i-test.true) in
    let after : c.args.given ≤ c.loop-i.i - 1 = omega (arith, c.loop-i-test.true) in
    rw c.in_ok-push.ensures.items
    (thins_kept c.args.given c.args.watches.now c.loop-i.thin c.loop-i.signatures.items c.loop-i.i (c.loop-i.i - 1) c.clause_at-clause.result.now
    c.loop-i.invariant again after c.clause_at-clause.ensures.clause
    c.add.new.self c.signature.result c.in_ok-add.ensures.names c.in_ok-add.ensures.loose c.in_ok-add.ensures.clauses)

pub loop-i-preserved : goal.loop-i-preserved
loop-i-preserved c =
    let again : c.loop-i.i - 1 + 1 ≡ c.loop-i.i = omega (arith, c.loop-i-test.true) in
    let after : c.args.given ≤ c.loop-i.i - 1 = omega (arith, c.loop-i-test.true) in
    thins_left_out c.args.given c.args.watches.now c.loop-i.thin c.loop-i.signatures.items c.loop-i.i (c.loop-i.i - 1) c.clause_at-clause.result.now
    c.loop-i.invariant again after c.clause_at-clause.ensures.clause (c.is_subsumed.ensures c.if-not-is_subsumed.false)

pub returns-clause-standing : goal.returns-clause-standing
returns-clause-standing c =
    let all : c.loop-i.i ≡ c.args.given = omega (arith, c.loop-i-test.false, c.loop-i.invariant.after) in
    subst (λ n. StandFor c.args.given c.loop-i.thin.clauses (drop n c.args.watches.now.clauses)) all c.loop-i.invariant.standing
