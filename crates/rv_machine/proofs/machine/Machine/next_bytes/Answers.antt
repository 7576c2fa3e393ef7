use Rattle.std.proofs.Common.{ap, arith}
use Rattle.rv_machine.specs.Progress.{Progress}
use Rattle.rv_machine.proofs.Bytes.{next_are}
use Rattle.rv_machine.proofs.machine.Machine.next_bytes.Goals as goal

pub returns-clause-bytes : goal.returns-clause-bytes
returns-clause-bytes c = next_are c.args.input.now c.self.inside.place _ _ c.args.count (ap (λ (p : Progress). p.state.place) c.self.view_is) (omega arith) c.requires
