use Rattle.std.proofs.Common.{refl, sym, ◌∙◌, arith}
use Rattle.std.specs.Prelude.{codes}
use Rattle.std.specs.Fmt.{decimal}
use Rattle.hex.specs.Hex.{encode_lower}
use Rattle.std.proofs.lemmas.List.{append_cancel_left}
use Rattle.text_lines.proofs.Cuts.{absent, first_cut, dark-decimal, spaceless}
use Rattle.report_format.proofs.forms.parse_program.Goals as goal

pub returns-in_err-number-clause-none : goal.returns-in_err-number-clause-none
returns-in_err-number-clause-none c = λ none bytes digest few long low is.
    absent 32 _ _ _ (c.in_err-number.ensures.none refl) (append_cancel_left (codes "program ") _ _ (sym c.in_ok-fields.ensures.some ∙ is))

pub returns-in_err-length-clause-none : goal.returns-in_err-length-clause-none
returns-in_err-length-clause-none c = λ none bytes digest few long low is.
    let fields = append_cancel_left (codes "program ") _ _ (sym c.in_ok-fields.ensures.some ∙ is) in
    let some = c.in_ok-number.ensures.some in
    let cut = first_cut 32 _ (decimal bytes) _ (encode_lower digest) some.1 (spaceless _ (dark-decimal bytes (omega arith))) (sym some.0 ∙ fields) in
    c.in_err-length.ensures.none refl bytes few cut.0

pub returns-in_err-digest-clause-none : goal.returns-in_err-digest-clause-none
returns-in_err-digest-clause-none c = λ none bytes digest few long low is.
    let fields = append_cancel_left (codes "program ") _ _ (sym c.in_ok-fields.ensures.some ∙ is) in
    let some = c.in_ok-number.ensures.some in
    let cut = first_cut 32 _ (decimal bytes) _ (encode_lower digest) some.1 (spaceless _ (dark-decimal bytes (omega arith))) (sym some.0 ∙ fields) in
    c.in_err-digest.ensures.none refl digest long low cut.1
