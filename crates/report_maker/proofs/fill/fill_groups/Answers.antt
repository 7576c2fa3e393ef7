use Rattle.std.proofs.Common.{sym, map, arith, ◌∙◌, ◌≡◌, ◌<◌}
use Rattle.std.proofs.lemmas.Result.{err_from_is_err_and}
use Rattle.byte_sets.specs.ByteSet.{has}
use Rattle.set_laws.specs.Found.{is_spent}
use Rattle.report_maker.specs.Counted.{conflicts_at}
use Rattle.report_maker.proofs.FilledLemmas.{are_bytes, filled_more, lengths_stay, sum_more, find_more, names_first}
use Rattle.report_maker.proofs.fill.fill_groups.Goals as goal

pub returns-in_err-counted-clause-spent : goal.returns-in_err-counted-clause-spent
returns-in_err-counted-clause-spent c =
    let p = err_from_is_err_and c.from_residual.result c.from_residual.ensures.1 in
    rw p.1 (rw p.2 (names_first c.args.arena.now c.args.mask.now c.args.budget c.args.groups.now c.loop-group.group-index c.group-item.result c.in_err-counted.field-0.0
    c.loop-group-test.true (sym c.group-item.is) c.loop-group.invariant.unspent c.in_err-counted.ensures.spent))

pub loop-group-preserved : goal.loop-group-preserved
loop-group-preserved c =
    let counted : c.from-conflicts.result ≡ c.in_ok-counted.counted = c.from-conflicts.ensures in
    let exact = c.in_ok-counted.ensures.count in
    let below : c.in_ok-counted.counted < c.args.budget = c.in_ok-counted.ensures.below in
    let fits = c.ranges.budget.fits in
    let more = sum_more (conflicts_at c.args.arena.now c.args.mask.now) c.args.groups.now c.loop-group.group-index c.group-item.result c.loop-group-test.true (sym c.group-item.is) in
    record {
      filled = filled_more c.args.arena.now c.args.mask.now c.loop-group.input c.fill_group.new.input (map has c.loop-group.sets) (map has c.fill_group.new.sets) c.args.groups.now
          c.loop-group.group-index c.group-item.result c.requires.apart c.loop-group-test.true (sym c.group-item.is) c.fill_group.ensures.input_left c.fill_group.ensures.sets_left
          c.loop-group.invariant.filled c.in_ok-counted.ensures.done c.fill_group.auto.input (lengths_stay c.loop-group.sets c.fill_group.new.sets c.fill_group.auto.sets);
      input = record { long = c.fill_group.auto.input ∙ c.loop-group.invariant.input.long; in_range = are_bytes c.fill_group.new.input c.type_inv.input };
      room = omega (arith, c.fill_group.ensures.keeps, c.loop-group.invariant.room);
      count = omega (arith, counted, exact, more, c.loop-group.invariant.count);
      small = omega (arith, counted, below, fits, c.loop-group.invariant.small);
      unspent = find_more (is_spent c.args.arena.now c.args.mask.now c.args.budget) c.args.groups.now c.loop-group.group-index c.group-item.result c.loop-group-test.true (sym c.group-item.is)
          c.loop-group.invariant.unspent c.in_ok-counted.ensures.unspent;
    }
