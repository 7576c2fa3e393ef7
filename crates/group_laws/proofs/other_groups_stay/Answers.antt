use Rattle.group_laws.proofs.Stays.{first_stays}
use Rattle.group_laws.proofs.other_groups_stay.Goals as goal

pub returns : goal.returns
returns c = λ trees terms groups mask y z j k d are. first_stays trees terms groups are mask y z j k d
