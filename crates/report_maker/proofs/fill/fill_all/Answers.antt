use Rattle.std.proofs.Common.{◌∙◌}
use Rattle.report_maker.proofs.FilledLemmas.{filled_at_start}
use Rattle.report_maker.proofs.fill.fill_all.Goals as goal

pub fill_groups-requires-clause-start : goal.fill_groups-requires-clause-start
fill_groups-requires-clause-start c =
    filled_at_start c.args.arena.now c.args.mask.now c.args.groups.now c.as_mut_slice.result.now c.as_mut_slice-2.result.now c.full.result
    (c.as_mut_slice.ensures.value ∙ c.in_ok-input.ensures.items_if_clones_equal (λ x y same. same))
    (c.as_mut_slice-2.ensures.value ∙ c.in_ok-sets.ensures.items_if_clones_equal (λ y same. same))
    c.full.ensures
