use Rattle.std.proofs.Common.{◌≡◌, ◌≢◌, ◌^◌, ℕ, Bool, List, ◌∷◌, ◌++◌, All, refl, sym, ◌∙◌, ap, ◌<◌, arith}
use Rattle.std.specs.Prelude.{codes}
use Rattle.std.specs.Fmt.{decimal}
use Rattle.std.proofs.lemmas.List.{append_cancel_left}
use Rattle.hex.specs.Hex.{encode_lower}
use Rattle.input_laws.specs.Sets.{size}
use Rattle.byte_sets.specs.ByteSet.{set_bytes, has}
use Rattle.byte_sets.proofs.Digits.{set_told}
use Rattle.text_lines.proofs.Cuts.{absent, first_cut, dark-decimal, spaceless}
use Rattle.text_lines.proofs.DigitLemmas.{encode-injective, bytes-from_all}
use Rattle.report_format.proofs.FormLemmas.{size_small, set_bytes-length, set_bytes-low}
use Rattle.std.proofs.lemmas.Fmt.{decimal_injective}
use Rattle.byte_sets.proofs.Bits.{low as byte_low}
use Rattle.report_format.proofs.forms.parse_set.Goals as goal

-- the fields of a set line, as the reader cuts them
cut_place : (fields a b : List ℕ) (place : ℕ) (set : ℕ → Bool) → place < 65536 → fields ≡ a ++ (32 ∷ b) → All (λ d. d ≢ 32) a
    → codes "set " ++ fields ≡ codes "set " ++ (decimal place ++ (32 ∷ (decimal (size set) ++ (32 ∷ encode_lower (set_bytes set)))))
    → (a ≡ decimal place) × (b ≡ decimal (size set) ++ (32 ∷ encode_lower (set_bytes set)))
cut_place fields a b place set low parts none is =
    first_cut 32 a (decimal place) b _ none (spaceless _ (dark-decimal place (omega arith))) (sym parts ∙ append_cancel_left (codes "set ") _ _ is)

cut_size : (rest a b : List ℕ) (set : ℕ → Bool) → rest ≡ a ++ (32 ∷ b) → All (λ d. d ≢ 32) a → rest ≡ decimal (size set) ++ (32 ∷ encode_lower (set_bytes set))
    → (a ≡ decimal (size set)) × (b ≡ encode_lower (set_bytes set))
cut_size rest a b set parts none is =
    first_cut 32 a (decimal (size set)) b _ none (spaceless _ (dark-decimal (size set) (size_small set))) (sym parts ∙ is)

pub returns-in_err-first-clause-none : goal.returns-in_err-first-clause-none
returns-in_err-first-clause-none c = λ none place set low bytes some few is.
    absent 32 _ _ _ (c.in_err-first.ensures.none refl) (append_cancel_left (codes "set ") _ _ (sym c.in_ok-fields.ensures.some ∙ is))

pub returns-in_err-second-clause-none : goal.returns-in_err-second-clause-none
returns-in_err-second-clause-none c = λ none place set low bytes some few is.
    let first = c.in_ok-first.ensures.some in
    let cut = cut_place _ _ _ place set low first.0 first.1 (sym c.in_ok-fields.ensures.some ∙ is) in
    absent 32 _ _ _ (c.in_err-second.ensures.none refl) cut.1

pub returns-in_err-place-clause-none : goal.returns-in_err-place-clause-none
returns-in_err-place-clause-none c = λ none place set low bytes some few is.
    let first = c.in_ok-first.ensures.some in
    let cut = cut_place _ _ _ place set low first.0 first.1 (sym c.in_ok-fields.ensures.some ∙ is) in
    c.in_err-place.ensures.none refl place (omega arith) cut.0

pub returns-in_err-count-clause-none : goal.returns-in_err-count-clause-none
returns-in_err-count-clause-none c = λ none place set low bytes some few is.
    let first = c.in_ok-first.ensures.some in
    let second = c.in_ok-second.ensures.some in
    let cut = cut_place _ _ _ place set low first.0 first.1 (sym c.in_ok-fields.ensures.some ∙ is) in
    let next = cut_size _ _ _ set second.0 second.1 cut.1 in
    c.in_err-count.ensures.none refl (size set) some (omega arith) next.0

pub returns-in_err-parse_digest-clause-none : goal.returns-in_err-parse_digest-clause-none
returns-in_err-parse_digest-clause-none c = λ none place set low bytes some few is.
    let first = c.in_ok-first.ensures.some in
    let second = c.in_ok-second.ensures.some in
    let cut = cut_place _ _ _ place set low first.0 first.1 (sym c.in_ok-fields.ensures.some ∙ is) in
    let next = cut_size _ _ _ set second.0 second.1 cut.1 in
    c.in_err-parse_digest.ensures.none refl (set_bytes set) (set_bytes-length set) (set_bytes-low set) next.1

pub returns-then-from-count-clause-none : goal.returns-then-from-count-clause-none
returns-then-from-count-clause-none c = λ none place set low bytes some few is.
    let first = c.in_ok-first.ensures.some in
    let second = c.in_ok-second.ensures.some in
    let cut = cut_place _ _ _ place set low first.0 first.1 (sym c.in_ok-fields.ensures.some ∙ is) in
    let next = cut_size _ _ _ set second.0 second.1 cut.1 in
    let read = c.in_ok-parse_digest.ensures.some in
    let same = encode-injective _ _ (bytes-from_all _ read.1) (bytes-from_all _ (set_bytes-low set)) (sym read.0 ∙ next.1) in
    let sets = set_told (has c.from_bytes-set.result) set (byte_low c.from_bytes-set.result) bytes (c.from_bytes-set.ensures ∙ same) in
    let told = c.in_ok-count.ensures.some in
    let small : c.in_ok-count.count < 2 ^ 64 = omega (arith, told.2) in
    let count = decimal_injective c.in_ok-count.count (size set) small (size_small set) (sym told.0 ∙ next.0) in
    c.if-from-count.true (c.from.ensures ∙ (c.size.ensures.count ∙ (ap size sets ∙ sym count)))
