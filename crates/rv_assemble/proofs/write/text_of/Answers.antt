use Rattle.std.proofs.Common.{◌≡◌, ◌<◌, ◌≤◌, ◌^◌, ◌∙◌, ◌++◌, ℕ, List, ap, length, arith, subst}
use Rattle.std.proofs.lemmas.List.{take_all}
use Rattle.rv_decode.specs.declared.instr.Instr.{Instr}
use Rattle.rv_assemble.specs.Layout.{word}
use Rattle.rv_assemble.specs.Parts.{Spells}
use Rattle.rv_assemble.proofs.Texts.{longer, spelled_length}
use Rattle.rv_assemble.proofs.write.text_of.Goals as goal

pub loop-instruction-preserved : goal.loop-instruction-preserved
loop-instruction-preserved c =
    let at : c.loop-instruction.instruction-index < length c.args.code.now = omega arith in
    let small : c.encode.result < 2 ^ 32 = omega arith in
    let new : c.extend_from_slice.new.self.items ≡ c.loop-instruction.text.items ++ word c.encode.result =
    c.in_ok-extend_from_slice.ensures.items ∙ ap (λ (l : List ℕ). c.loop-instruction.text.items ++ l) c.to_le_bytes.ensures in
    rw new (longer _ _ _ _ _ at small c.encode.ensures.row c.loop-instruction.invariant)

pub returns-clause-size : goal.returns-clause-size
returns-clause-size c =
    let all : length c.args.code.now ≤ c.loop-instruction.instruction-index = omega arith in
    spelled_length c.loop-instruction.text.items c.args.code.now
    (subst (λ (code : List Instr). Spells c.loop-instruction.text.items code) (take_all c.loop-instruction.instruction-index c.args.code.now all) c.loop-instruction.invariant)
