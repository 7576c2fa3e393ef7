use Rattle.machine_laws.proofs.Traps.{trap_of_program}
use Rattle.machine_laws.proofs.traps_are_of_words.Goals as goal

pub returns : goal.returns
returns c = trap_of_program
