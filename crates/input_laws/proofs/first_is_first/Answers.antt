use Rattle.input_laws.proofs.InOrder.{first_member_from_first, first_from_first_member, no_member_from_none, none_from_no_member}
use Rattle.input_laws.proofs.first_is_first.Goals as goal

pub returns : goal.returns
returns c = record {
  some = λ mask member y h. (first_member_from_first mask member y h, first_from_first_member mask member y h);
  none = λ mask member h. (no_member_from_none mask member h, none_from_no_member mask member h);
}
