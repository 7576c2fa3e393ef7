use Rattle.std.proofs.Common.{◌∙◌, ap, rules, ◌++◌, [], ◌∷◌}
use Rattle.byte_groups.proofs.GatherLemmas.{put_push, put_new}
use Rattle.byte_groups.proofs.gathered.put.Goals as goal

pub returns-in_ok-push-in-Some : goal.returns-in_ok-push-in-Some
returns-in_ok-push-in-Some c = λ labels marks same marked so_far.
    put_push labels marks c.args.numbers.now c.args.lists.now.items c.args.place c.args.label c.in-Some.number c.index_mut.result.now c.push.new.self same marked c.in-Some.is (c.requires.numbered c.args.label c.in-Some.number c.in-Some.is) c.index_mut.ensures.value c.in_ok-push-in-Some.ensures.items so_far

pub returns-in_ok-push-in-None-2 : goal.returns-in_ok-push-in-None-2
returns-in_ok-push-in-None-2 c = λ labels marks same marked so_far.
    put_new labels marks c.args.numbers.now c.args.lists.now.items c.push-in-None-2.new.self.items c.args.place c.args.label c.len.result c.push-in-None.new.self same marked c.requires.within c.in-None.is (c.in_ok-push-in-None.ensures.items ∙ ap (λ l. l ++ c.args.place ∷ []) c.new-list.ensures.items) c.in_ok-push-in-None-2.ensures.items (search rules) so_far
