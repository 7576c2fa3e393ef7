use Rattle.std.proofs.Common.{ℕ, subst, sym}
use Rattle.input_laws.specs.Order.{IsFirst}
use Rattle.input_laws.proofs.InOrder.{first_from_first_member}
use Rattle.group_laws.proofs.Parts.{first_from_groups}
use Rattle.group_laws.proofs.first_by_groups.Goals as goal

pub returns : goal.returns
returns c = record {
  is_first = λ trees terms groups n mask y member are. first_from_groups trees terms groups are n mask y member;
  found = λ n mask y member a f.
      let P : ℕ → Type 0 = λ k. IsFirst k mask member y in
      first_from_first_member mask member y a.in_range (subst P (sym a.long) f);
}
