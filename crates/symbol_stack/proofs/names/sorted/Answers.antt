use Rattle.symbol_stack.proofs.RowLemmas.{in_order}
use Rattle.symbol_stack.proofs.names.sorted.Goals as goal

pub returns-clause-order : goal.returns-clause-order
returns-clause-order c = in_order _ c.sort_unstable.ensures.sorted
