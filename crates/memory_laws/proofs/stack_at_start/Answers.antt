use Rattle.memory_laws.proofs.Starts.{on_stack_is}
use Rattle.memory_laws.proofs.stack_at_start.Goals as goal

pub returns : goal.returns
returns c = λ ss a on. on_stack_is ss a on
