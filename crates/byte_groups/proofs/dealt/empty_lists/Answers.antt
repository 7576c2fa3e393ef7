use Rattle.std.proofs.Common.{◌≡◌, ℕ, [], subst, arith}
use Rattle.byte_groups.specs.Gathered.{lists_of}
use Rattle.byte_groups.specs.Dealt.{AreDealt}
use Rattle.byte_groups.proofs.DealLemmas.{dealt_list}
use Rattle.byte_groups.proofs.dealt.empty_lists.Goals as goal

pub loop-preserved : goal.loop-preserved
loop-preserved c = λ of. dealt_list of c.loop.counter c.loop.lists.items c.push.new.self.items c.new.result c.new.ensures.items c.in_ok-push.ensures.items (c.loop.invariant of)

pub returns : goal.returns
returns c = λ of.
    let same : c.loop.counter ≡ c.args.count = omega arith in
    let P : ℕ → Type 0 = λ n. AreDealt of n [] (lists_of c.loop.lists.items) in
    subst P same (c.loop.invariant of)
