-- Fields without spaces, and where texts are cut.
use Rattle.std.proofs.Common.{◌≡◌, ◌≢◌, ◌/◌, ◌%◌, ◌^◌, ◌<◌, ◌≤◌, ℕ, suc, true, List, [], ◌∷◌, ◌++◌, All, length, get_or, slice_index, nat_lt, arith, refl, subst}
use Rattle.std.specs.List.{list_all}
use Rattle.std.specs.Fmt.{decimal}
use Rattle.std.specs.Int.{w32, to_be_bytes}
use Rattle.std.specs.Char.{is_ascii_graphic}
use Rattle.std.proofs.lemmas.Fmt.{decimal_is_IsNumeral}
use Rattle.std.proofs.lemmas.Str.Parse.{digit_at}
use Rattle.std.proofs.lemmas.Bool.{agree_below_at, and_parts, ltb-true}
use Rattle.std.proofs.lemmas.List.{length-append}
use Rattle.std.proofs.Math.Seq.{get_or-append_seam, take-append_seam, drop-append_seam}
use Rattle.std.proofs.lemmas.List.Elements.{All-nil, All-cons, All-head, All-tail, All-take, All-drop, All-from_get_or}
use Rattle.hex.specs.Hex.{IsBytes, encode_lower, encode_with, lower_digits}
use Rattle.text_lines.specs.Fields.{is_name, word_digits}
use Rattle.text_lines.proofs.DigitLemmas.{word-bytes}

-- a list is cut in one way at the first such element
pub first_cut : (c : ℕ) (a x b y : List ℕ) → All (λ d. d ≢ c) a → All (λ d. d ≢ c) x → a ++ (c ∷ b) ≡ x ++ (c ∷ y) → (a ≡ x) × (b ≡ y)
first_cut c [] [] b y na nx e = (refl, cc)
first_cut c [] (q ∷ x) b y na nx e = let same : q ≡ c = cc in absurd (All-head (λ d. d ≢ c) q x nx same)
first_cut c (p ∷ a) [] b y na nx e = let same : p ≡ c = cc in absurd (All-head (λ d. d ≢ c) p a na same)
first_cut c (p ∷ a) (q ∷ x) b y na nx e =
    let same : p ≡ q = cc in
    let rest = first_cut c a x b y (All-tail (λ d. d ≢ c) p a na) (All-tail (λ d. d ≢ c) q x nx) cc in
    let front = rest.0 in
    (cc, rest.1)

-- where there is no such element, a list isn't cut at it
pub absent : (c : ℕ) (xs a b : List ℕ) → All (λ d. d ≢ c) xs → xs ≡ a ++ (c ∷ b) → ⊥
absent c xs a b none is = (rw is at none) (length a) c (omega (arith, length-append a (c ∷ b))) (get_or-append_seam a c b c)

-- what holds of each element holds of each of both parts
pub All-front : {X : Type 0} (P : X → Type 0) (xs ys : List X) → All P (xs ++ ys) → All P xs
All-front P xs ys all = subst (All P) (take-append_seam xs ys) (All-take P (length xs) (xs ++ ys) all)

pub All-back : {X : Type 0} (P : X → Type 0) (xs ys : List X) → All P (xs ++ ys) → All P ys
All-back P xs ys all = subst (All P) (drop-append_seam xs ys) (All-drop P (length xs) (xs ++ ys) all)

-- ---- fields

-- printed characters but the space
abbrev pub Dark : List ℕ → Type 0
Dark xs = All (λ d. 32 < d) xs

pub dark-without : (c : ℕ) (xs : List ℕ) → c ≤ 32 → Dark xs → All (λ d. d ≢ c) xs
dark-without c xs low dark = λ i d lt. let here : 32 < get_or xs i d = dark i d lt in omega arith

pub spaceless : (xs : List ℕ) → Dark xs → All (λ d. d ≢ 32) xs
spaceless xs dark = dark-without 32 xs (omega arith) dark

pub dark-literal : (xs : List ℕ) → list_all (λ d. nat_lt 32 d) xs ≡ true → Dark xs
dark-literal [] t = All-nil (λ d. 32 < d)
dark-literal (x ∷ xs) t = let both = and_parts (nat_lt 32 x) _ t in All-cons (λ d. 32 < d) x xs (ltb-true 32 x both.0) (dark-literal xs both.1)

graphic : (xs : List ℕ) → list_all is_ascii_graphic xs ≡ true → Dark xs
graphic [] t = All-nil (λ d. 32 < d)
graphic (x ∷ xs) t =
    let both = and_parts (is_ascii_graphic x) _ t in
    All-cons (λ d. 32 < d) x xs (grind (arith, both.0)) (graphic xs both.1)

pub dark-name : (name : List ℕ) → is_name name ≡ true → Dark name
dark-name name t = graphic name (and_parts (nat_lt (length name) 256) _ (and_parts (nat_lt 0 (length name)) _ t).1).1

pub dark-decimal : (n : ℕ) → n < 2 ^ 64 → Dark (decimal n)
dark-decimal n small = All-from_get_or (λ d. 32 < d) (decimal n) 0 (λ i lt. omega (arith, digit_at (decimal n) i (decimal_is_IsNumeral n small).0.1 lt))

dark-digit : (k : ℕ) → k < 16 → 32 < slice_index lower_digits k
dark-digit k low = ltb-true 32 _ (agree_below_at (λ k. nat_lt 32 (slice_index lower_digits k)) (λ _. true) 16 k refl low)

pub dark-encode : (xs : List ℕ) → IsBytes xs → Dark (encode_lower xs)
unfolding encode_with
dark-encode [] low = All-nil (λ d. 32 < d)
dark-encode (b ∷ rest) low =
    let fits : b < 256 = low 0 in
    All-cons (λ d. 32 < d) (slice_index lower_digits (b / 16)) (slice_index lower_digits (b % 16) ∷ encode_lower rest) (dark-digit (b / 16) (omega arith))
    (All-cons (λ d. 32 < d) (slice_index lower_digits (b % 16)) (encode_lower rest) (dark-digit (b % 16) (omega arith)) (dark-encode rest (λ k. low (suc k))))

pub dark-word : (n : ℕ) → Dark (word_digits n)
dark-word n = dark-encode (to_be_bytes w32 n) (word-bytes n)
