use Rattle.machine_laws.proofs.Exits.{exit_of_run, exit_of_program}
use Rattle.machine_laws.proofs.exits_are_below_128.Goals as goal

pub returns-clause-run : goal.returns-clause-run
returns-clause-run c = exit_of_run

pub returns-clause-program : goal.returns-clause-program
returns-clause-program c = exit_of_program
