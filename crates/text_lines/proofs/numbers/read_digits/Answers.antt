use Rattle.std.proofs.Common.{true≢false, sym, ◌∙◌, ap, length}
use Rattle.std.specs.List.{list_any}
use Rattle.std.specs.Char.{is_ascii_uppercase}
use Rattle.text_lines.proofs.DigitLemmas.{encode-no_upper, bytes-from_all, digits-read, digits-not_read}
use Rattle.text_lines.proofs.numbers.read_digits.Goals as goal

pub returns-then-has_upper_case-clause-no : goal.returns-then-has_upper_case-clause-no
returns-then-has_upper_case-clause-no c = λ failed other long low is.
    true≢false (c.if-has_upper_case.ensures ∙ (ap (list_any is_ascii_uppercase) is ∙ encode-no_upper other (bytes-from_all other low)))

pub returns-clause-yes : goal.returns-clause-yes
returns-clause-yes c = λ passed.
    digits-read c.args.text.now (length c.args.bytes.now) c.decode_to_slice.result c.decode_to_slice.new.out (λ i. (c.type_inv.text i).fits)
    (sym c.if-has_upper_case.ensures) c.decode_to_slice.ensures.value (sym c.is_ok.ensures.value ∙ passed)

pub returns-clause-no : goal.returns-clause-no
returns-clause-no c = λ failed other long low is.
    digits-not_read c.args.text.now (length c.args.bytes.now) c.decode_to_slice.result c.decode_to_slice.new.out other (bytes-from_all other low) long is
    c.decode_to_slice.ensures.value (sym c.is_ok.ensures.value ∙ failed)
