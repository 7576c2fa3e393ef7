use Rattle.symbol_stack.proofs.StackLemmas.{reaches}
use Rattle.symbol_stack.proofs.laws.a_run_is_reached.Goals as goal

pub returns : goal.returns
returns c = reaches
