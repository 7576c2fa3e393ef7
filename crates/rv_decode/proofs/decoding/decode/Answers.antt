use Rattle.std.proofs.Common.{◌≡◌, ◌∙◌, sym, Option, Some, None, IfSome, IfNone, ℕ, ◌<◌, ◌^◌, arith}
use Rattle.rv_decode.specs.declared.instr.Instr.{Instr}
use Rattle.rv_decode.specs.Table.{decoded}
use Rattle.rv_decode.specs.Rows.{IsRow, IsWellFormed}
use Rattle.rv_decode.proofs.Listing.{listed, one_row}
use Rattle.rv_decode.proofs.Rows.{row_in}
use Rattle.rv_decode.proofs.Table.{row_decoded, row_well}
use Rattle.rv_decode.proofs.decoding.decode.Goals as goal

row : (w : ℕ) (o : Option Instr) → o ≡ decoded w → IfSome o (IsRow w)
row w None e = tt
row w (Some i) e = row_in w i (sym e)

well : (w : ℕ) → w < 2 ^ 32 → (o : Option Instr) → o ≡ decoded w → IfSome o IsWellFormed
well w f None e = tt
well w f (Some i) e = row_well w i f (row_in w i (sym e))

none : (w : ℕ) (o : Option Instr) → o ≡ decoded w → IfNone o ((i : Instr) → IsRow w i → ⊥)
none w None e = λ i r. let h = row_decoded w i r in cc
none w (Some i) e = tt

pub returns-clause-value : goal.returns-clause-value
returns-clause-value c = c.instruction.ensures ∙ sym (listed c.args.word)

pub returns-clause-rows : goal.returns-clause-rows
returns-clause-rows c = rw (c.instruction.ensures ∙ sym (listed c.args.word)) (one_row c.args.word)

pub returns-clause-row : goal.returns-clause-row
returns-clause-row c = row _ _ (c.instruction.ensures ∙ sym (listed c.args.word))

pub returns-clause-well_formed : goal.returns-clause-well_formed
returns-clause-well_formed c = well _ (omega arith) _ (c.instruction.ensures ∙ sym (listed c.args.word))

pub returns-clause-none : goal.returns-clause-none
returns-clause-none c = none _ _ (c.instruction.ensures ∙ sym (listed c.args.word))
