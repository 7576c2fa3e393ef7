use Rattle.elf32.specs.Fields.{headers}
use Rattle.elf32.specs.Loads.{segments_of}
use Rattle.elf32.proofs.Order.{in_order_permutes, in_order_rises}
use Rattle.elf32.proofs.laws.segments_are_in_order.Goals as goal

pub returns-clause-members : goal.returns-clause-members
returns-clause-members c = λ bytes. in_order_permutes (segments_of bytes (headers bytes))

pub returns-clause-ascending : goal.returns-clause-ascending
returns-clause-ascending c = λ bytes. in_order_rises (segments_of bytes (headers bytes))
