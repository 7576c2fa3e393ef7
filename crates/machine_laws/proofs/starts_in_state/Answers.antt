use Rattle.machine_laws.proofs.Starts.{start_kept}
use Rattle.machine_laws.proofs.starts_in_state.Goals as goal

pub returns : goal.returns
returns c = start_kept
