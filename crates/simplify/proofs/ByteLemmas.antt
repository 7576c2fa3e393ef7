-- A bit of a mask as a test, and the bytes past a word.
use Rattle.std.proofs.Common.{◌≡◌, ℕ, ◌/◌, ◌%◌, ◌^◌, ◌<◌, ◌≤◌, Bool, true, false, nat_eq, nat_lt, bit_and, ◌↔◌, refl, ap, sym, ◌∙◌, arith}
use Rattle.std.proofs.lemmas.Bool.Decides.{nat_tests}
use Rattle.std.proofs.lemmas.Nat.{and_mask}
use Rattle.std.proofs.Math.Nat.{pow-le-pow_right, div-eq_of_lt}
use Rattle.rv_word.specs.Word.{byte_of}
use Rattle.normal_form.proofs.NumberLemmas.{told, number_is}

-- bit k of a number, read by a shift and a mask
bit_is : (m k : ℕ) → bit_and (m / 2 ^ k) 1 ≡ m / 2 ^ k % 2
bit_is m k = and_mask (m / 2 ^ k) 1

-- the test of a bit that says what a fact's test says
pub bit_test : (m k : ℕ) (z : Bool) → ((m / 2 ^ k % 2 ≡ 1) ↔ (z ≡ true)) → nat_eq (bit_and (m / 2 ^ k) 1) 1 ≡ z
bit_test m k true h =
    let one : bit_and (m / 2 ^ k) 1 ≡ 1 = bit_is m k ∙ h.1 refl in
    grind (arith, nat_tests)
bit_test m k false h =
    told (nat_eq (bit_and (m / 2 ^ k) 1) 1)
    (λ t. let one : bit_and (m / 2 ^ k) 1 ≡ 1 = number_is (bit_and (m / 2 ^ k) 1) 1 t in
    let wrong : false ≡ true = h.0 (sym (bit_is m k) ∙ one) in absurd (cc))
    (λ f. f)

-- a word has no byte past its fourth
byte_past : (k c : ℕ) → c < 2 ^ 32 → 4 ≤ k → byte_of k c ≡ 0
byte_past k c l h =
    let wide : 256 ^ 4 ≤ 256 ^ k = pow-le-pow_right {n = 256} (omega arith) h in
    let less : c < 256 ^ k = omega arith in
    ap (λ n. n % 256) (div-eq_of_lt less)

-- no such byte is FF
pub not_ones_past : (k c : ℕ) → c < 2 ^ 32 → 4 ≤ k → nat_lt k 4 ≡ nat_eq (byte_of k c) 255
not_ones_past k c l h =
    let past : nat_lt k 4 ≡ false = grind (arith, nat_tests) in
    rw (past, byte_past k c l h) refl
