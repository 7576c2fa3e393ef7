use Rattle.std.proofs.Common.{rules, ◌∙◌}
use Rattle.byte_groups.proofs.DealLemmas.{dealt_push}
use Rattle.byte_groups.proofs.dealt.deal_one.Goals as goal

pub returns-in_ok-push-in-Some-clause-dealt : goal.returns-in_ok-push-in-Some-clause-dealt
returns-in_ok-push-in-Some-clause-dealt c = λ of terms e so_far.
    dealt_push of _ c.args.t c.in-Some.number terms c.args.lists.now.items c.index_mut.result.now c.push.new.self (e ∙ c.in-Some.is) (search rules) (search rules) c.index_mut.ensures.value c.in_ok-push-in-Some.ensures.items so_far
