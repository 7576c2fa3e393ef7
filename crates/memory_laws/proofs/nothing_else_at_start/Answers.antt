use Rattle.memory_laws.proofs.Starts.{elsewhere_is, beyond_is}
use Rattle.memory_laws.proofs.nothing_else_at_start.Goals as goal

pub returns : goal.returns
returns c = record { elsewhere = λ ss a loaded out off. elsewhere_is ss a loaded out off; beyond = λ ss a loaded far. beyond_is ss a loaded far }
