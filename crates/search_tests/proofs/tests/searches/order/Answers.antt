use Rattle.std.proofs.Common.{◌<◌, length}
use Rattle.std.proofs.lemmas.List.Elements.{All-push}
use Rattle.gate_net.specs.declared.literals.Lit.{Lit}
use Rattle.search_tests.proofs.OrderLemmas.{names_more}
use Rattle.search_tests.proofs.tests.searches.order.Goals as goal

pub loop-i-preserved : goal.loop-i-preserved
loop-i-preserved c =
    rw c.in_ok-push.ensures.items (record {
      named = All-push (λ (l : Lit). l.name < length c.args.signs.now) c.loop-i.order.items _ c.loop-i.invariant.named c.loop-i-test.true;
      whole = names_more c.loop-i.order.items c.loop-i.i _ c.loop-i.invariant.whole;
    })
