-- Numbers as the words spell them.
use Rattle.std.proofs.Common.{◌≡◌, ◌≢◌, ◌∙◌, ◌⊎◌, inl, inr, ◌^◌, ◌<◌, ◌≤◌, ℕ, Bool, true, false, List, Option, Some, None, arith, refl, sym, ap, ⊎_elim}
use Rattle.std.specs.Prelude.{nat_le, ◌&&◌, if◌then◌else◌}
use Rattle.std.specs.Fmt.{decimal}
use Rattle.std.specs.Str.{bytes_eq}
use Rattle.std.specs.Str.Parse.{digits_value}
use Rattle.std.proofs.lemmas.Fmt.{decimal_is_IsNumeral}
use Rattle.std.proofs.lemmas.Bool.{le-leb, lt-leb, leb-true, and_parts}
use Rattle.std.proofs.lemmas.Slice.Eq.{bytes_eq-Decides}
use Rattle.tool_words.specs.Words.{number_of}

value_of : (n : ℕ) (text : List ℕ) → n < 2 ^ 64 → text ≡ decimal n → digits_value 10 text ≡ n
value_of n text small is = ap (digits_value 10) is ∙ (decimal_is_IsNumeral n small).1

spelled : (n : ℕ) (text : List ℕ) → n < 2 ^ 64 → text ≡ decimal n → bytes_eq text (decimal (digits_value 10 text)) ≡ true
spelled n text small is = (bytes_eq-Decides text _).1 (is ∙ ap decimal (sym (value_of n text small is)))

chosen : (a b c : Bool) (n m : ℕ) → a ≡ true → b ≡ true → c ≡ true → n ≡ m → (if a && (b && c) then Some n else None) ≡ Some m
chosen true true true n m p q r is = ap Some is
chosen true true false n m p q r is = cc
chosen true false c n m p q r is = cc
chosen false b c n m p q r is = cc

left_out : (a b c : Bool) (n : ℕ) → (a ≡ true → b ≡ true → c ≡ true → ⊥) → (if a && (b && c) then Some n else None) ≡ None
left_out true true true n not_all = absurd (not_all refl refl refl)
left_out true true false n not_all = refl
left_out true false c n not_all = refl
left_out false b c n not_all = refl

-- the number that the text spells, in the range
pub number-read : (least most n : ℕ) (text : List ℕ) → n < 2 ^ 64 → text ≡ decimal n → least ≤ n → n ≤ most → number_of least most text ≡ Some n
number-read least most n text small is low high =
    let value = value_of n text small is in
    chosen _ _ _ _ n (spelled n text small is) (le-leb least (digits_value 10 text) (omega (arith, value, low))) (le-leb (digits_value 10 text) most (omega (arith, value, high))) value

-- outside the range
pub number-outside : (least most n : ℕ) (text : List ℕ) → n < 2 ^ 64 → text ≡ decimal n → (n < least) ⊎ ((least ≤ n) × (most < n)) → number_of least most text ≡ None
number-outside least most n text small is outside =
    let value = value_of n text small is in
    left_out (bytes_eq text (decimal (digits_value 10 text))) (nat_le least (digits_value 10 text)) (nat_le (digits_value 10 text) most) (digits_value 10 text) (λ same low high. omega (arith, value, leb-true least (digits_value 10 text) low, leb-true (digits_value 10 text) most high, outside))

-- a text that spells none
pub number-none : (least most : ℕ) (text : List ℕ) → most < 2 ^ 64 → ((n : ℕ) → n < 2 ^ 64 → text ≢ decimal n) → number_of least most text ≡ None
number-none least most text small none =
    left_out (bytes_eq text (decimal (digits_value 10 text))) (nat_le least (digits_value 10 text)) (nat_le (digits_value 10 text) most) (digits_value 10 text) (λ same low high. none (digits_value 10 text) (omega (arith, leb-true (digits_value 10 text) most high, small)) ((bytes_eq-Decides text _).0 same))
