use Rattle.group_laws.proofs.Division.{groups_are, wide_are}
use Rattle.group_laws.proofs.groups_by_conditions.Goals as goal

pub returns : goal.returns
returns c = record {
  places = λ trees terms groups n are below. groups_are trees terms groups are n below;
  wide = λ trees terms groups n are below. wide_are trees terms groups are n below;
}
