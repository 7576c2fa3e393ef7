use Rattle.machine_laws.proofs.Steps.{step_kept}
use Rattle.machine_laws.proofs.keeps_state.Goals as goal

pub returns : goal.returns
returns c = step_kept
