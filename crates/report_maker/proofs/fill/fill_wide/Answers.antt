use Rattle.std.proofs.Common.{◌∙◌, ◌≡◌, sym, ap, length}
use Rattle.std.specs.Prelude.{slice_index}
use Rattle.term_model.proofs.ByteLemmas.{bytes_everywhere}
use Rattle.report_maker.proofs.FilledLemmas.{first_meets, are_bytes, wide_is_done, all_bytes_are_put, all_sets_are_put, other_sets_are_left}
use Rattle.report_maker.proofs.fill.fill_wide.Goals as goal

pub first-requires-clause-possible : goal.first-requires-clause-possible
first-requires-clause-possible c = rw (c.in_ok-wide.ensures.conditions) c.requires.open.possible

pub first-requires-clause-masked : goal.first-requires-clause-masked
first-requires-clause-masked c = rw (c.in_ok-wide.ensures.places) c.requires.open.below

pub sets-requires-clause-meets : goal.sets-requires-clause-meets
sets-requires-clause-meets c =
    let first = rw (c.in_ok-wide.ensures.places, c.in_ok-wide.ensures.conditions) at c.in_ok-first.ensures.first in
    let h = all_bytes_are_put c.as_slice-places.result.now c.args.group.now.places c.as_slice.result.now c.in_ok-first.first.bytes c.put.new.list c.as_slice-places.ensures c.as_slice.ensures c.put.ensures.has in
    rw (c.in_ok-wide.ensures.places, c.in_ok-wide.ensures.conditions) (
      c.put.new.list,
      bytes_everywhere c.put.new.list (are_bytes c.put.new.list c.type_inv.input),
      λ k l. h k l ∙ sym (ap (λ xs. slice_index xs k) c.as_slice-2.ensures),
      first_meets c.args.arena.now c.args.mask.now c.put.new.list _ c.args.group.now c.requires.open.below first
          h (c.put.auto.list ∙ c.requires.inputs) (are_bytes c.put.new.list c.type_inv.input),
    )

pub returns-clause-done : goal.returns-clause-done
returns-clause-done c =
    let first = rw (c.in_ok-wide.ensures.places, c.in_ok-wide.ensures.conditions) at c.in_ok-first.ensures.first in
    let each : length c.in_ok-values.values ≡ length c.args.group.now.places = rw (c.in_ok-wide.ensures.places) at c.in_ok-values.ensures.count in
    let sets = rw (c.in_ok-wide.ensures.places, c.in_ok-wide.ensures.conditions) at c.in_ok-values.ensures.sets in
    wide_is_done c.args.arena.now c.args.mask.now c.put.new.list c.in_ok-first.first.bytes c.put-2.new.list c.in_ok-values.values c.args.group.now c.requires.wide
    first
    (all_bytes_are_put c.as_slice-places.result.now c.args.group.now.places c.as_slice.result.now c.in_ok-first.first.bytes c.put.new.list c.as_slice-places.ensures c.as_slice.ensures c.put.ensures.has)
    (all_sets_are_put c.as_slice-places.result.now c.args.group.now.places c.as_slice-3.result.now c.in_ok-values.values c.args.sets.now c.put-2.new.list
    c.as_slice-places.ensures c.as_slice-3.ensures each c.put-2.auto.list (λ k d l. rw c.requires.each (c.requires.open.below k d l)) c.put-2.ensures.has)
    each
    (λ y h. sets y (λ k l. h k l ∙ sym (ap (λ xs. slice_index xs k) c.as_slice-2.ensures)))

pub returns-clause-sets_left : goal.returns-clause-sets_left
returns-clause-sets_left c =
    other_sets_are_left c.as_slice-places.result.now c.args.group.now.places c.args.sets.now c.put-2.new.list c.as_slice-places.ensures c.put-2.auto.list c.put-2.ensures.left
