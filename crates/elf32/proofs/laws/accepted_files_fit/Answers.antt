use Rattle.elf32.proofs.Accepted.{entry_aligned, image_kept}
use Rattle.elf32.proofs.laws.accepted_files_fit.Goals as goal

pub returns-clause-aligned : goal.returns-clause-aligned
returns-clause-aligned c = entry_aligned

pub returns-clause-apart : goal.returns-clause-apart
returns-clause-apart c = λ bytes none. let k = image_kept bytes none in k.apart

pub returns-clause-off_stack : goal.returns-clause-off_stack
returns-clause-off_stack c = λ bytes none. let k = image_kept bytes none in k.off_stack

pub returns-clause-sized : goal.returns-clause-sized
returns-clause-sized c = λ bytes none. let k = image_kept bytes none in k.sized

pub returns-clause-small : goal.returns-clause-small
returns-clause-small c = λ bytes none. let k = image_kept bytes none in k.small
