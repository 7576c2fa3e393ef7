use Rattle.group_laws.proofs.Firsts.{first_is_low, first_is_first, read_together, side_of_first}
use Rattle.group_laws.proofs.firsts_are_the_finest_division.Goals as goal

pub returns : goal.returns
returns c = record { least = first_is_low; own = first_is_first; whole = read_together; uncut = side_of_first }
