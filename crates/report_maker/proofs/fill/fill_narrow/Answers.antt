use Rattle.std.proofs.Common.{◌∙◌, ◌≤◌, arith}
use Rattle.report_maker.proofs.FilledLemmas.{has_with_rest, first_meets, are_bytes, narrow_is_done, bytes_are_put, taken_sets_are_put, other_sets_are_left}
use Rattle.report_maker.proofs.fill.fill_narrow.Goals as goal

pub narrow_sets-values-requires-clause-meets : goal.narrow_sets-values-requires-clause-meets
narrow_sets-values-requires-clause-meets c =
    let h = bytes_are_put c.as_slice-places.result.now c.args.group.now.places c.first_narrow-first.result c.put.new.list c.as_slice-places.ensures c.put.ensures.has in (
      c.put.new.list,
      λ k l. has_with_rest c.args.group.now.places c.first_narrow-first.result c.put.new.list h k l,
      first_meets c.args.arena.now c.args.mask.now c.put.new.list _ c.args.group.now c.requires.open.below c.first_narrow-first.ensures.first
          h (c.put.auto.list ∙ c.requires.inputs) (are_bytes c.put.new.list c.type_inv.input),
    )

pub returns-clause-done : goal.returns-clause-done
returns-clause-done c =
    narrow_is_done c.args.arena.now c.args.mask.now c.put.new.list c.first_narrow-first.result c.put-2.new.list c.narrow_sets-values.result c.args.group.now c.requires.narrow
    c.requires.open.is_group.ascending c.first_narrow-first.ensures.first
    (bytes_are_put c.as_slice-places.result.now c.args.group.now.places c.first_narrow-first.result c.put.new.list c.as_slice-places.ensures c.put.ensures.has)
    (taken_sets_are_put c.as_slice-places.result.now c.args.group.now.places c.narrow_sets-values.result c.args.sets.now c.put-2.new.list c.as_slice-places.ensures c.put-2.auto.list
    (λ k d l. rw c.requires.each (c.requires.open.below k d l)) (let few = c.requires.narrow in omega arith) c.put-2.ensures.has)
    c.narrow_sets-values.ensures.sets.one c.narrow_sets-values.ensures.sets.two

pub returns-clause-sets_left : goal.returns-clause-sets_left
returns-clause-sets_left c =
    other_sets_are_left c.as_slice-places.result.now c.args.group.now.places c.args.sets.now c.put-2.new.list c.as_slice-places.ensures c.put-2.auto.list c.put-2.ensures.left
