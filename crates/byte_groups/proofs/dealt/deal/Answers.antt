use Rattle.std.proofs.Common.{◌≡◌, ℕ, ◌+◌, List, [], ◌∷◌, ◌++◌, length, take, subst, sym, ◌∙◌, ap}
use Rattle.std.proofs.lemmas.List.{take_more}
use Rattle.byte_groups.specs.Gathered.{lists_of}
use Rattle.byte_groups.specs.Dealt.{number_of, AreDealt}
use Rattle.byte_groups.proofs.GatherLemmas.{map_long}
use Rattle.byte_groups.proofs.dealt.deal.Goals as goal

pub loop-t-preserved : goal.loop-t-preserved
loop-t-preserved c =
    let of = number_of c.args.labels.now c.args.numbers.now c.args.leaves.now in
    let count : c.args.count ≡ length c.loop-t.lists.items = sym c.loop-t.invariant.long ∙ map_long c.loop-t.lists.items in
    let P : ℕ → Type 0 = λ n. AreDealt of n (take c.loop-t.t-index c.args.conditions.now) (lists_of c.loop-t.lists.items) in
    let Q : ℕ → Type 0 = λ n. AreDealt of n (take c.loop-t.t-index c.args.conditions.now ++ c.t-item.result ∷ []) (lists_of c.deal_one.new.lists.items) in
    let R : List ℕ → Type 0 = λ ts. AreDealt of c.args.count ts (lists_of c.deal_one.new.lists.items) in
    let whole : take (c.loop-t.t-index + 1) c.args.conditions.now ≡ take c.loop-t.t-index c.args.conditions.now ++ c.t-item.result ∷ [] = take_more c.args.conditions.now c.loop-t.t-index c.t-item.result c.loop-t-test.true ∙ ap (λ x. take c.loop-t.t-index c.args.conditions.now ++ x ∷ []) (sym c.t-item.is) in
    subst R (sym whole) (subst Q (sym count) (c.in_ok-deal_one.ensures.dealt of (take c.loop-t.t-index c.args.conditions.now) (sym c.number_of-number.ensures) (subst P count c.loop-t.invariant)))
