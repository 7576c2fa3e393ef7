-- The rules' laws over plain numbers.
use Rattle.std.proofs.Common.{◌≡◌, ℕ, zero, suc, ◌+◌, ◌-◌, ◌*◌, ◌/◌, ◌%◌, ◌^◌, ◌<◌, ◌≤◌, ◌⊎◌, inl, inr, Bool, true, false, nat_eq, nat_lt, bit_and, bit_or, bit_xor, ℤ, pos, negsuc, neg_ℤ, ◌*ℤ◌, int_lt, int_div, int_rem, refl, ap, sym, ◌∙◌, arith}
use Rattle.std.proofs.lemmas.Bool.Decides.{nat_tests}
use Rattle.std.proofs.lemmas.Nat.{xor_comm, and_mask, le_or_r, or_of_32, mul-mod_first, pow-add, shr-shr, shr_le}
use Rattle.std.proofs.lemmas.Nat.Bits.{bit_at_or, same_from_bits}
use Rattle.std.specs.Int.Bits.{xor_assoc, xor_self, xor_zero_l, xor_zero_r, and_zero_l}
use Rattle.std.proofs.Math.IntN.{*ℤ_comm, *ℤ-zero}
use Rattle.std.proofs.Math.Nat.{mul_assoc, div-one, zero-div}
use Rattle.std.specs.Int.{int_shr}
use Rattle.rv_word.specs.Word.{bits, signed, byte_of}
use Rattle.term_model.proofs.ZeroLemmas.{byte_and, byte_shr}

-- a test, with what it tells
pub told : {P : Type 0} (b : Bool) → (b ≡ true → P) → (b ≡ false → P) → P
told true h g = h refl
told false h g = g refl

pub number_is : (m n : ℕ) → nat_eq m n ≡ true → m ≡ n
number_is m n e = grind (arith, nat_tests)

-- two equations that say the same
pub alike : (m n p q : ℕ) → (m ≡ n → p ≡ q) → (p ≡ q → m ≡ n) → nat_eq m n ≡ nat_eq p q
alike m n p q f g =
    told (nat_eq m n) (λ t. let l : p ≡ q = f (number_is m n t) in let r : nat_eq p q ≡ true = grind (arith, nat_tests) in rw (t, r) refl)
    (λ t. told (nat_eq p q) (λ s. let l : m ≡ n = g (number_is p q s) in absurd (let z : nat_eq m n ≡ true = grind (arith, nat_tests) in cc)) (λ s. rw (t, s) refl))

-- ---- signed words

signed_is : (n : ℕ) → n < 2 ^ 32 → ((signed n ≡ pos n) × (n < 2 ^ 31)) ⊎ ((m : ℕ) × (signed n ≡ negsuc m) × (n + suc m ≡ 2 ^ 32))
signed_is n l =
    told (nat_lt n (2 ^ 31)) (λ t. inl (rw t refl, grind (arith, nat_tests))) (λ t. inr (2 ^ 32 - suc n, rw t refl, omega arith))

pub bits_signed : (n : ℕ) → n < 2 ^ 32 → bits (signed n) ≡ n
bits_signed n l = elim (signed_is n l) [
  | inl h ↦ rw h.0 (omega arith)
  | inr h ↦ rw h.1 (omega (arith, h.2))
]

shift_by_none : (z : ℤ) → int_shr z 0 ≡ z
shift_by_none (pos a) = ap pos (div-one a)
shift_by_none (negsuc a) = ap negsuc (div-one a)

pub sra_zero : (n : ℕ) → n < 2 ^ 32 → bits (int_shr (signed n) 0) ≡ n
sra_zero n l = ap bits (shift_by_none (signed n)) ∙ bits_signed n l

divided_by_one : (z : ℤ) → int_div z (pos 1) ≡ z
divided_by_one (pos a) = ap pos (div-one a)
divided_by_one (negsuc a) = ap (λ n. neg_ℤ (pos n)) (div-one (suc a))

pub div_one : (n : ℕ) → n < 2 ^ 32 → bits (int_div (signed n) (pos 1)) ≡ n
div_one n l = ap bits (divided_by_one (signed n)) ∙ bits_signed n l

left_by_one : (z : ℤ) → int_rem z (pos 1) ≡ pos 0
left_by_one (pos a) = ap pos (let e : a % 1 ≡ 0 = omega arith in e)
left_by_one (negsuc a) = ap (λ n. neg_ℤ (pos n)) (let e : suc a % 1 ≡ 0 = omega arith in e)

pub rem_one : (n : ℕ) → bits (int_rem (signed n) (pos 1)) ≡ 0
rem_one n = ap bits (left_by_one (signed n))

pub not_less_than_itself : (z : ℤ) → int_lt z z ≡ false
not_less_than_itself (pos a) = grind (arith, nat_tests)
not_less_than_itself (negsuc a) = grind (arith, nat_tests)

pub mulh_comm : (m n : ℕ) → bits (int_shr (signed m *ℤ signed n) 32) ≡ bits (int_shr (signed n *ℤ signed m) 32)
mulh_comm m n = ap (λ z. bits (int_shr z 32)) (*ℤ_comm (signed m) (signed n))

pub mulh_zero : (z : ℤ) → bits (int_shr (z *ℤ pos 0) 32) ≡ 0
mulh_zero z = ap (λ x. bits (int_shr x 32)) (*ℤ-zero z)

pub mulhsu_zero : (n : ℕ) → bits (int_shr (pos 0 *ℤ pos n) 32) ≡ 0
mulhsu_zero n = ap (λ x. bits (int_shr x 32)) (*ℤ_comm (pos 0) (pos n) ∙ *ℤ-zero (pos n))

-- ---- bitwise

pub or_assoc : (a b c : ℕ) → bit_or (bit_or a b) c ≡ bit_or a (bit_or b c)
or_assoc a b c =
    same_from_bits (bit_or (bit_or a b) c) (bit_or a (bit_or b c))
    (λ i. omega (arith, bit_at_or (bit_or a b) c i, bit_at_or a b i, bit_at_or a (bit_or b c) i, bit_at_or b c i))

pub and_ones : (n : ℕ) → n < 2 ^ 32 → bit_and n (2 ^ 32 - 1) ≡ n
and_ones n l = omega (arith, and_mask n 32)

pub or_ones : (n : ℕ) → n < 2 ^ 32 → bit_or n (2 ^ 32 - 1) ≡ 2 ^ 32 - 1
or_ones n l = let m : 2 ^ 32 - 1 < 2 ^ 32 = omega arith in omega (arith, le_or_r n (2 ^ 32 - 1), or_of_32 n (2 ^ 32 - 1) l m)

-- two words of the same bytes
pub same_bytes : (m n : ℕ) → m < 2 ^ 32 → n < 2 ^ 32 → ((k : ℕ) → k < 4 → byte_of k m ≡ byte_of k n) → m ≡ n
same_bytes m n l h e = omega (arith, e 0 (omega arith), e 1 (omega arith), e 2 (omega arith), e 3 (omega arith))

byte_small : (k n : ℕ) → byte_of k n < 256
byte_small k n = omega arith

-- a mask that passes the byte
pub masked_byte : (k m c : ℕ) → (byte_of k c ≡ 255) ⊎ (byte_of k m ≡ 0) → byte_of k (bit_and m c) ≡ byte_of k m
masked_byte k m c (inl e) = byte_and k m c ∙ ap (bit_and (byte_of k m)) e ∙ omega (arith, and_mask (byte_of k m) 8, byte_small k m)
masked_byte k m c (inr e) = byte_and k m c ∙ ap (λ x. bit_and x (byte_of k c)) e ∙ and_zero_l (byte_of k c) ∙ sym e

pub xor_cancel : (x c : ℕ) → bit_xor c (bit_xor x c) ≡ x
xor_cancel x c = ap (bit_xor c) (xor_comm x c) ∙ sym (xor_assoc c c x) ∙ ap (λ z. bit_xor z x) (xor_self c) ∙ xor_zero_l x

xor_moves : (x c d : ℕ) → bit_xor x c ≡ d → x ≡ bit_xor c d
xor_moves x c d e = sym (xor_cancel x c) ∙ ap (bit_xor c) e

xor_returns : (x c d : ℕ) → x ≡ bit_xor c d → bit_xor x c ≡ d
xor_returns x c d e = ap (λ z. bit_xor z c) (e ∙ xor_comm c d) ∙ xor_comm (bit_xor d c) c ∙ xor_cancel d c

pub xor_across : (x c d : ℕ) → nat_eq x (bit_xor c d) ≡ nat_eq (bit_xor x c) d
xor_across x c d = alike x (bit_xor c d) (bit_xor x c) d (xor_returns x c d) (xor_moves x c d)

pub add_across : (x c d : ℕ) → x < 2 ^ 32 → c < 2 ^ 32 → d < 2 ^ 32 → nat_eq x ((d + (2 ^ 32 - c)) % 2 ^ 32) ≡ nat_eq ((x + c) % 2 ^ 32) d
add_across x c d l m n = alike x ((d + (2 ^ 32 - c)) % 2 ^ 32) ((x + c) % 2 ^ 32) d (λ e. omega arith) (λ e. omega arith)

pub xor_is_zero : (x y : ℕ) → nat_eq x y ≡ nat_eq (bit_xor x y) 0
xor_is_zero x y = alike x y (bit_xor x y) 0 (λ e. ap (λ z. bit_xor z y) e ∙ xor_self y) (λ e. xor_moves x y 0 e ∙ xor_zero_r y)

pub sub_is_zero : (x y : ℕ) → x < 2 ^ 32 → y < 2 ^ 32 → nat_eq x y ≡ nat_eq ((x + (2 ^ 32 - y)) % 2 ^ 32) 0
sub_is_zero x y l m = alike x y ((x + (2 ^ 32 - y)) % 2 ^ 32) 0 (λ e. omega arith) (λ e. omega arith)

-- ---- shifts

module _ (x c d : ℕ) where
  pub shl_shl : (x * 2 ^ c % 2 ^ 32) * 2 ^ d % 2 ^ 32 ≡ x * 2 ^ (c + d) % 2 ^ 32
  shl_shl = mul-mod_first (x * 2 ^ c) (2 ^ d) (2 ^ 32) ∙ ap (λ n. n % 2 ^ 32) (mul_assoc x (2 ^ c) (2 ^ d) ∙ ap (λ n. x * n) (sym (pow-add 2 c d)))

  pub shl_out : 32 ≤ c + d → (x * 2 ^ c % 2 ^ 32) * 2 ^ d % 2 ^ 32 ≡ 0
  shl_out h =
      let e : ℕ = c + d - 32 in
      let s : c + d ≡ e + 32 = omega arith in
      let p : x * 2 ^ (e + 32) ≡ x * 2 ^ e * 2 ^ 32 = ap (λ n. x * n) (pow-add 2 e 32) ∙ sym (mul_assoc x (2 ^ e) (2 ^ 32)) in
      let z : (x * 2 ^ e * 2 ^ 32) % 2 ^ 32 ≡ 0 = omega arith in
      shl_shl ∙ ap (λ n. x * 2 ^ n % 2 ^ 32) s ∙ ap (λ n. n % 2 ^ 32) p ∙ z

  pub shr_out : x < 2 ^ 32 → 32 ≤ c + d → x / 2 ^ c / 2 ^ d ≡ 0
  shr_out l h =
      let e : ℕ = c + d - 32 in
      let s : c + d ≡ 32 + e = omega arith in
      let z : x / 2 ^ 32 ≡ 0 = omega arith in
      shr-shr x c d ∙ ap (λ n. x / 2 ^ n) s ∙ sym (shr-shr x 32 e) ∙ ap (λ n. n / 2 ^ e) z ∙ zero-div (2 ^ e)

-- ---- bytes of words

byte_of_not : (k n : ℕ) → k < 4 → n < 2 ^ 32 → byte_of k (2 ^ 32 - 1 - n) + byte_of k n ≡ 255
byte_of_not zero n l h = omega arith
byte_of_not (suc zero) n l h = omega arith
byte_of_not (suc (suc zero)) n l h = omega arith
byte_of_not (suc (suc (suc zero))) n l h = omega arith
byte_of_not (suc (suc (suc (suc k)))) n l h = absurd (omega arith)

-- a byte of a word shifted right with its sign
pub byte_sra : (k j n : ℕ) → n < 2 ^ 32 → k + j < 4 → byte_of k (bits (int_shr (signed n) (8 * j))) ≡ byte_of (k + j) n
byte_sra k j n l h = elim (signed_is n l) [
  | inl s ↦
      let small : n / 2 ^ (8 * j) < 2 ^ 32 = omega (arith, shr_le n (8 * j)) in
      let whole : (n / 2 ^ (8 * j)) % 2 ^ 32 ≡ n / 2 ^ (8 * j) = omega arith in
      ap (λ z. byte_of k (bits (int_shr z (8 * j)))) s.0 ∙ ap (byte_of k) whole ∙ byte_shr k j n
  | inr s ↦
      let m : ℕ = s.0 in
      let least : m < 2 ^ 32 = omega (arith, s.2) in
      let q : ℕ = m / 2 ^ (8 * j) in
      let small : q < 2 ^ 32 = omega (arith, shr_le m (8 * j)) in
      let whole : 2 ^ 32 - 1 - q % 2 ^ 32 ≡ 2 ^ 32 - 1 - q = omega arith in
      let turned : n ≡ 2 ^ 32 - 1 - m = omega (arith, s.2) in
      ap (λ z. byte_of k (bits (int_shr z (8 * j)))) s.1 ∙ ap (byte_of k) whole
      ∙ omega (arith, byte_of_not k q (omega arith) small, byte_of_not (k + j) m h least, byte_shr k j m)
      ∙ ap (byte_of (k + j)) (sym turned)
]

pub byte_of_low : (m n : ℕ) → byte_of 0 (m % 256 + 256 * (n % 256)) ≡ byte_of 0 m
byte_of_low m n = omega arith

pub byte_of_high : (m n : ℕ) → byte_of 1 (m % 256 + 256 * (n % 256)) ≡ byte_of 0 n
byte_of_high m n = omega arith

pub byte_of_lower : (k m n : ℕ) → k < 2 → byte_of k (m % 65536 + 65536 * (n % 65536)) ≡ byte_of k m
byte_of_lower zero m n l = omega arith
byte_of_lower (suc zero) m n l = omega arith
byte_of_lower (suc (suc k)) m n l = absurd (omega arith)

pub byte_of_upper : (k m n : ℕ) → 2 ≤ k → k < 4 → byte_of k (m % 65536 + 65536 * (n % 65536)) ≡ byte_of (k - 2) n
byte_of_upper zero m n l h = absurd (omega arith)
byte_of_upper (suc zero) m n l h = absurd (omega arith)
byte_of_upper (suc (suc zero)) m n l h = omega arith
byte_of_upper (suc (suc (suc zero))) m n l h = omega arith
byte_of_upper (suc (suc (suc (suc k)))) m n l h = absurd (omega arith)

pub one_byte : (n : ℕ) → n < 2 ^ 32 → byte_of 1 n ≡ 0 → byte_of 2 n ≡ 0 → byte_of 3 n ≡ 0 → n < 256
one_byte n l a b c = omega arith

pub half_word : (n : ℕ) → n < 2 ^ 32 → byte_of 2 n ≡ 0 → byte_of 3 n ≡ 0 → n < 65536
half_word n l b c = omega arith

pub pair_of_bytes : (n : ℕ) → n < 65536 → byte_of 0 n % 256 + 256 * (byte_of 1 n % 256) ≡ n
pair_of_bytes n l = omega arith

pub half_of_bytes : (n : ℕ) → n < 2 ^ 32 → (byte_of 0 n % 256 + 256 * (byte_of 1 n % 256)) % 65536 + 65536 * ((byte_of 2 n % 256 + 256 * (byte_of 3 n % 256)) % 65536) ≡ n
half_of_bytes n l = omega arith
