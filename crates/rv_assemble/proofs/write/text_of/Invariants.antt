use Rattle.std.proofs.Common.{take}
use Rattle.rv_assemble.specs.Parts.{Spells}
use Rattle.rv_assemble.proofs.write.text_of.Given as goal

abbrev pub invariant-loop-instruction : goal.invariant-loop-instruction
invariant-loop-instruction l = Spells l.text.items (take l.instruction-index l.code)
