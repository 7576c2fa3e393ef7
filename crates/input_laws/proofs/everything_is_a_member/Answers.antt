use Rattle.input_laws.proofs.Everything.{first_is_mask, sets_are_full, full_sets_reveal_nothing}
use Rattle.input_laws.proofs.everything_is_a_member.Goals as goal

pub returns : goal.returns
returns c = record { mask_is_first = first_is_mask; sets_are_full = sets_are_full; nothing_revealed = full_sets_reveal_nothing }
