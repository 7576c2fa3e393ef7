use Rattle.std.proofs.Common.{sym, subst}
use Rattle.watchers.specs.Counters.{AreIn}
use Rattle.watchers.proofs.KnownLemmas.{insert_known}
use Rattle.watchers.proofs.covered.Covered.add.Goals as goal

pub returns-then-is_known : goal.returns-then-is_known
returns-then-is_known c =
    let all = subst (λ s. AreIn s c.self.inside.known.items) c.self.view_is c.self.invariant in
    insert_known c.args.self.now c.args.pc (c.is_known.ensures c.args.self.now c.if-is_known.true (subst (λ l. AreIn c.args.self.now l) (sym c.as_slice.ensures.value) all))
