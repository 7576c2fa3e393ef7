use Rattle.std.proofs.Common.{drop}
use Rattle.unit_close.proofs.SubsumeLemmas.{stand_push}
use Rattle.unit_close.proofs.subsume.add_learned.Goals as goal

pub returns-clause-standing : goal.returns-clause-standing
returns-clause-standing c =
    rw c.in_ok-add.ensures.clauses
    (stand_push c.args.given c.in_ok-fresh.fresh.clauses (drop c.args.given c.args.watches.now.clauses) c.args.clause.now c.in_ok-fresh.ensures.standing)
