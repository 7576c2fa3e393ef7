-- The one spelling of a number.
use Rattle.std.proofs.Common.{◌≡◌, ◌≢◌, ◌<◌, ◌≤◌, ◌^◌, ◌∙◌, inl, inr, ℕ, List, Option, Some, None, Result, Ok, Err, IfSome, length, get_or, arith, refl, sym, ap, subst}
use Rattle.std.specs.Fmt.{decimal}
use Rattle.std.specs.Result.{OkIff, result_ok}
use Rattle.std.specs.Str.{IsUtf8}
use Rattle.std.specs.Str.Parse.{ParsesUnsigned, digits_value, AllDigits}
use Rattle.std.proofs.lemmas.Bool.{cases_lt}
use Rattle.std.proofs.lemmas.Fmt.{parse-decimal, IsAscii-decimal, decimal-digits_value, decimal_digit, first_decimal}
use Rattle.std.proofs.lemmas.Str.{IsUtf8-from_ascii}
use Rattle.std.proofs.lemmas.Str.Parse.{numerals_by_value, tells_digits, parse_plain}

-- a number's text is UTF-8
pub decimal-IsUtf8 : (n : ℕ) → n < 2 ^ 64 → IsUtf8 (decimal n)
decimal-IsUtf8 n small = IsUtf8-from_ascii (decimal n) (IsAscii-decimal n small)

-- it begins with a digit
pub decimal-first : (n : ℕ) → n < 2 ^ 64 → 48 ≤ get_or (decimal n) 0 0
decimal-first n small = elim (cases_lt 0 n) [
  | inl some ↦ omega (arith, first_decimal n some small)
  | inr none ↦ let is : n ≡ 0 = omega arith in rw is (omega (arith, ap (λ (ds : List ℕ). get_or ds 0 0) (decimal_digit 0 (omega arith))))
]

-- and with 0 only where that is all
pub decimal-zero : (n : ℕ) → n < 2 ^ 64 → get_or (decimal n) 0 0 ≡ 48 → length (decimal n) ≡ 1
decimal-zero n small first = elim (cases_lt 0 n) [
  | inl some ↦ absurd (omega (arith, first_decimal n some small))
  | inr none ↦ let is : n ≡ 0 = omega arith in rw is (ap length (decimal_digit 0 (omega arith)))
]

-- a plain text that parses is its number's text
pub plain-decimal : {E : Type 0} (bs : List ℕ) (r : Result ℕ E) (n : ℕ) → ParsesUnsigned 64 10 bs r → get_or bs 0 0 ≢ 43 → (get_or bs 0 0 ≡ 48 → length bs ≡ 1) → r ≡ Ok n → bs ≡ decimal n
plain-decimal {E} bs r n h no_plus no_zero is =
    let own = numerals_by_value _ tells_digits in
    let read = parse_plain own 64 bs r h no_plus in
    let told = subst (λ (q : Result ℕ E). OkIff q (AllDigits 10 bs × (0 < length bs) × (digits_value 10 bs < 2 ^ 64)) (digits_value 10 bs)) is read in
    sym (decimal-digits_value own bs told.0.0 told.0.1 no_zero told.0.2) ∙ ap decimal (sym told.1)

-- what a plain text's parse says, as an option
pub parsed-some : {E : Type 0} (bs : List ℕ) (r : Result ℕ E) (o : Option ℕ) → ParsesUnsigned 64 10 bs r → get_or bs 0 0 ≢ 43 → (get_or bs 0 0 ≡ 48 → length bs ≡ 1) → o ≡ result_ok r → IfSome o (λ n. bs ≡ decimal n)
parsed-some {E} bs (Ok n) o h no_plus no_zero is = rw is (plain-decimal {E = E} bs (Ok n) n h no_plus no_zero refl)
parsed-some bs (Err e) o h no_plus no_zero is = rw is tt

pub parsed-none : {E : Type 0} (bs : List ℕ) (r : Result ℕ E) (o : Option ℕ) → ParsesUnsigned 64 10 bs r → o ≡ result_ok r → o ≡ None → (n : ℕ) → n < 2 ^ 64 → bs ≢ decimal n
parsed-none bs r o h is none n small spelled =
    let read = parse-decimal 64 n bs r small small spelled h in
    let got : o ≡ Some n = is ∙ ap result_ok read in
    cc (got, none)
