use Rattle.std.proofs.Common.{◌≡◌, ◌≤◌, ◌*◌, ◌^◌, length, map, take}
use Rattle.std.specs.Prelude.{None, find, sum_by}
use Rattle.input_laws.specs.Inputs.{IsInput}
use Rattle.byte_sets.specs.ByteSet.{has}
use Rattle.set_laws.specs.Found.{is_spent}
use Rattle.report_laws.specs.Filled.{IsFilled}
use Rattle.report_maker.specs.Counted.{conflicts_at}
use Rattle.report_maker.proofs.fill.fill_groups.Given as goal

abbrev pub invariant-loop-group : goal.invariant-loop-group
invariant-loop-group l = record {
  filled : IsFilled l.arena l.mask l.groups l.group-index l.input (map has l.sets);
  input : IsInput (length l.mask) l.input;
  room : length l.arena ≤ l.scratch;
  count : l.conflicts ≡ sum_by (conflicts_at l.arena l.mask) (take l.group-index l.groups);
  small : l.conflicts ≤ l.group-index * 2 ^ 32;
  unspent : find (is_spent l.arena l.mask l.budget) (take l.group-index l.groups) ≡ None;
}
