use Rattle.group_laws.proofs.Unique.{same_groups}
use Rattle.group_laws.proofs.division_is_one.Goals as goal

pub returns : goal.returns
returns c = same_groups
