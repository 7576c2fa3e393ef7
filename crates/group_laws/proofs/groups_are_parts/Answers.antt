use Rattle.group_laws.proofs.Parts.{by_parts, parts_look, free_place}
use Rattle.group_laws.proofs.groups_are_parts.Goals as goal

pub returns : goal.returns
returns c = record {
  by_parts = λ trees terms groups n member are. by_parts trees terms groups are n member;
  look = parts_look;
  free = free_place;
}
