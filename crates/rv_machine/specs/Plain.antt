-- Instructions that need neither memory nor the input.
use Rattle.rv_decode.specs.declared.instr.Instr.{Instr}
use Rattle.rv_decode.specs.declared.instr.Instr.TheVariants.{Load, Store, Ecall}

-- an instruction that touches neither memory nor the input
abbrev pub IsPlain : Instr → Type 0
IsPlain (Load width rd rs1 imm) = ⊥
IsPlain (Store width rs1 rs2 imm) = ⊥
IsPlain Ecall = ⊥
IsPlain _ = Unit {0}
