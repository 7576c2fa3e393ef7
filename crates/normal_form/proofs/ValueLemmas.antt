-- Each rule keeps the value.
use Rattle.std.proofs.Common.{◌≡◌, ℕ, ◌+◌, ◌-◌, ◌*◌, ◌/◌, ◌%◌, ◌^◌, ◌<◌, ◌≤◌, inl, inr, true, false, not, ◌&&◌, ◌||◌, nat_eq, nat_lt, nat_le, bit_and, bit_or, bit_xor, List, pos, ◌*ℤ◌, refl, ap, sym, ◌∙◌, arith}
use Rattle.std.proofs.lemmas.Bool.Decides.{nat_tests}
use Rattle.std.proofs.lemmas.Nat.{and_comm, or_comm, xor_comm, and_assoc, and_le_l, shr-shr}
use Rattle.std.specs.Int.Bits.{xor_assoc, xor_self, xor_zero_l, xor_zero_r, or_zero_r, or_zero_l, and_zero_r, and_self, or_self}
use Rattle.std.proofs.Math.Nat.{mul_comm, add_comm}
use Rattle.std.specs.Prelude.{IfSome}
use Rattle.std.specs.Int.{from_bool, int_shr}
use Rattle.rv_word.specs.Word.{alu, bits, signed}
use Rattle.rv_word.specs.declared.AluOp.TheVariants.{Add, Sub, Sll, Slt, Sltu, Xor, Srl, Sra, Or, And, Mul, Mulh, Mulhsu, Mulhu, Div, Divu, Rem, Remu}
use Rattle.term_model.specs.declared.Op.{Op}
use Rattle.term_model.specs.declared.Op.TheVariants.{Alu, Eq, Byte, Pair, Half}
use Rattle.term_model.specs.Tree.{Tree, Const, Apply, is_const}
use Rattle.term_model.specs.Value.{op_value, val}
use Rattle.rv_word.specs.Word.{byte_of}
use Rattle.term_model.specs.Words.{HasWords, AreBytes}
use Rattle.term_model.specs.ZeroBytes.{is_zero_byte, is_byte_shift, is_one_byte, is_half_word}
use Rattle.term_model.specs.Truth.{is_truth}
use Rattle.term_model.specs.Same.{same_tree}
use Rattle.term_model.proofs.WordLemmas.{value_below, truth_below}
use Rattle.term_model.proofs.ZeroLemmas.{zero_byte, some, whole_bytes, byte_or, byte_xor, byte_shr, byte_shl}
use Rattle.term_model.proofs.SameLemmas.{both, trees_same}
use Rattle.normal_form.specs.Plan.{Plan, Is, Make, only_if, with_constant, at_every_byte, at_some_byte}
use Rattle.normal_form.specs.ArithmeticRules.{fold_constants, constant_to_the_right, reduce_shift_amount, drop_zero, subtract_by_adding, combine_added_constants, absorb_zero, drop_neutral_constant, remainder_by_one, or_with_all_ones, drop_repeated_operand, cancel_repeated_operand, equal_to_itself, combine_bitwise_constants, drop_mask, combine_shifts, shift_all_out, commutes, is_shift, keeps_with_zero, is_zero_with_zero, is_zero, passes_byte}
use Rattle.normal_form.specs.EqualityRules.{xor_across_equality, add_across_equality, difference_is_zero, truth_is_one, double_negation, truth_is_no_larger, zero_byte_differs, differs_at_byte}
use Rattle.normal_form.specs.OrderRules.{less_than_zero, less_than_one, more_than_zero, one_byte_is_less}
use Rattle.normal_form.specs.ByteRules.{byte_is_zero, byte_of_one_byte, byte_of_pair, byte_of_half, byte_beside_zero, byte_under_mask, byte_of_left_shift, byte_of_right_shift, pair_with_zero, half_with_zero, pair_of_own_bytes, half_of_own_bytes, is_byte_of}
use Rattle.term_model.specs.ByteNumber.{TakesByteNumber}
use Rattle.normal_form.specs.Laws.{plan_value}
use Rattle.normal_form.proofs.PlanLemmas.{when, either}
use Rattle.normal_form.proofs.NumberLemmas.{told, number_is, sra_zero, div_one, rem_one, not_less_than_itself, mulh_comm, mulh_zero, mulhsu_zero, or_assoc, and_ones, or_ones, masked_byte, xor_across, add_across, xor_is_zero, sub_is_zero, shl_shl, shl_out, shr_out, byte_sra, byte_of_low, byte_of_high, byte_of_lower, byte_of_upper, one_byte, half_word, pair_of_bytes, half_of_bytes}

-- what the rules need of the operands
pub record AreSound (op : Op) (a b : Tree) : Type 0 where
  pub first : HasWords a
  pub second : HasWords b
  pub byte : TakesByteNumber op b

pub less_is : (m n : ℕ) → nat_lt m n ≡ true → m < n
less_is m n e = grind (arith, nat_tests)

pub at_most_is : (m n : ℕ) → nat_le m n ≡ true → m ≤ n
at_most_is m n e = grind (arith, nat_tests)

is_zero_value : (t : Tree) (input : List ℕ) → is_zero t ≡ true → val t input ≡ 0
is_zero_value (Const c) input e = number_is c 0 e
is_zero_value t input e = cc

-- a shift by a constant below 32
abbrev pub IsReducedShift : Op → Tree → Type 0
IsReducedShift op (Const c) = is_shift op ≡ true → c < 32
IsReducedShift op b = Unit {0}

-- the top operation shifts by less than 32
abbrev pub IsReduced : Tree → Type 0
IsReduced (Apply op x b) = IsReducedShift op b
IsReduced t = Unit {0}

module _ (input : List ℕ) (bytes : AreBytes input) where
  abbrev pub Keeps : Op → Tree → Tree → Plan → Type 0
  Keeps op a b p = plan_value p input ≡ op_value op (val a input) (val b input)

  word_of : (t : Tree) → HasWords t → val t input < 2 ^ 32
  word_of t w = value_below t input w bytes

  zero_of : (t : Tree) → HasWords t → (k : ℕ) → k < 4 → is_zero_byte t k ≡ true → byte_of k (val t input) ≡ 0
  zero_of t w k l e = zero_byte input bytes t k w e

  small_of : (t : Tree) → HasWords t → is_one_byte t ≡ true → val t input < 256
  small_of t w e =
      let h = both (is_zero_byte t 1 && is_zero_byte t 2) (is_zero_byte t 3) e in
      let k = both (is_zero_byte t 1) (is_zero_byte t 2) h.0 in
      one_byte (val t input) (word_of t w) (zero_of t w 1 (omega arith) k.0) (zero_of t w 2 (omega arith) k.1) (zero_of t w 3 (omega arith) h.1)

  half_of : (t : Tree) → HasWords t → is_half_word t ≡ true → val t input < 65536
  half_of t w e =
      let h = both (is_zero_byte t 2) (is_zero_byte t 3) e in
      half_word (val t input) (word_of t w) (zero_of t w 2 (omega arith) h.0) (zero_of t w 3 (omega arith) h.1)

  pub fold_constants_keeps : (op : Op) (a b : Tree) → AreSound op a b → IfSome (fold_constants op a b) (Keeps op a b)
  fold_constants_keeps op (Const c) (Const d) g = refl
  fold_constants_keeps op a b g = tt

  turned : (op : Op) (m n : ℕ) → commutes op ≡ true → op_value op m n ≡ op_value op n m
  turned (Alu Add) m n e = ap (λ k. k % 2 ^ 32) (add_comm m n)
  turned (Alu Mul) m n e = ap (λ k. k % 2 ^ 32) (mul_comm m n)
  turned (Alu Mulh) m n e = mulh_comm m n
  turned (Alu Mulhu) m n e = ap (λ k. k / 2 ^ 32) (mul_comm m n)
  turned (Alu And) m n e = and_comm m n
  turned (Alu Or) m n e = or_comm m n
  turned (Alu Xor) m n e = xor_comm m n
  turned Eq m n e = grind (arith, nat_tests)
  turned op m n e = cc

  pub constant_to_the_right_keeps : (op : Op) (a b : Tree) → AreSound op a b → IfSome (constant_to_the_right op a b) (Keeps op a b)
  constant_to_the_right_keeps op (Const c) x g =
      when (Keeps op (Const c) x) (commutes op && not (is_const x)) (with_constant op x c)
      (λ h. turned op (val x input) c (both (commutes op) (not (is_const x)) h).0)
  constant_to_the_right_keeps op a b g = tt

  reduced : (op : Op) (m c : ℕ) → is_shift op ≡ true → op_value op m (c % 32) ≡ op_value op m c
  reduced (Alu Sll) m c e = ap (λ k. m * 2 ^ k % 2 ^ 32) (let s : c % 32 % 32 ≡ c % 32 = omega arith in s)
  reduced (Alu Srl) m c e = ap (λ k. m / 2 ^ k) (let s : c % 32 % 32 ≡ c % 32 = omega arith in s)
  reduced (Alu Sra) m c e = ap (λ k. bits (int_shr (signed m) k)) (let s : c % 32 % 32 ≡ c % 32 = omega arith in s)
  reduced op m c e = cc

  pub reduce_shift_amount_keeps : (op : Op) (a b : Tree) → AreSound op a b → IfSome (reduce_shift_amount op a b) (Keeps op a b)
  reduce_shift_amount_keeps op x (Const c) g =
      when (Keeps op x (Const c)) (is_shift op && nat_lt 31 c) (with_constant op x (c % 32))
      (λ h. reduced op (val x input) c (both (is_shift op) (nat_lt 31 c) h).0)
  reduce_shift_amount_keeps op a b g = tt

  with_zero : (op : Op) (m : ℕ) → m < 2 ^ 32 → keeps_with_zero op ≡ true → m ≡ op_value op m 0
  with_zero (Alu Add) m l e = omega arith
  with_zero (Alu Sub) m l e = omega arith
  with_zero (Alu Xor) m l e = sym (xor_zero_r m)
  with_zero (Alu Or) m l e = sym (or_zero_r m)
  with_zero (Alu Sll) m l e = omega arith
  with_zero (Alu Srl) m l e = omega arith
  with_zero (Alu Sra) m l e = sym (sra_zero m l)
  with_zero op m l e = cc

  pub drop_zero_keeps : (op : Op) (a b : Tree) → AreSound op a b → IfSome (drop_zero op a b) (Keeps op a b)
  drop_zero_keeps op x (Const c) g =
      when (Keeps op x (Const c)) (keeps_with_zero op && nat_eq c 0) (Is x)
      (λ h. let p = both (keeps_with_zero op) (nat_eq c 0) h in
      with_zero op (val x input) (word_of x g.first) p.0 ∙ ap (op_value op (val x input)) (sym (number_is c 0 p.1)))
  drop_zero_keeps op a b g = tt

  pub subtract_by_adding_keeps : (op : Op) (a b : Tree) → AreSound op a b → IfSome (subtract_by_adding op a b) (Keeps op a b)
  subtract_by_adding_keeps (Alu Sub) x (Const c) g = omega arith
  subtract_by_adding_keeps op a b g = tt

  pub combine_added_constants_keeps : (op : Op) (a b : Tree) → AreSound op a b → IfSome (combine_added_constants op a b) (Keeps op a b)
  combine_added_constants_keeps (Alu Add) (Apply (Alu Add) x (Const c)) (Const d) g = omega arith
  combine_added_constants_keeps op a b g = tt

  absorbed : (op : Op) (m : ℕ) → is_zero_with_zero op ≡ true → 0 ≡ op_value op m 0
  absorbed (Alu And) m e = sym (and_zero_r m)
  absorbed (Alu Mul) m e = omega arith
  absorbed (Alu Mulh) m e = sym (mulh_zero (signed m))
  absorbed (Alu Mulhu) m e = omega arith
  absorbed (Alu Mulhsu) m e = sym (mulh_zero (signed m))
  absorbed op m e = cc

  absorbed_by : (op : Op) (a b : Tree) → is_zero_with_zero op ≡ true → is_zero b ≡ true → Keeps op a b (Is (Const 0))
  absorbed_by op a b e z = absorbed op (val a input) e ∙ ap (op_value op (val a input)) (sym (is_zero_value b input z))

  pub absorb_zero_keeps : (op : Op) (a b : Tree) → AreSound op a b → IfSome (absorb_zero op a b) (Keeps op a b)
  absorb_zero_keeps (Alu Mulhsu) a b g =
      when (Keeps (Alu Mulhsu) a b) (is_zero a || is_zero b) (Is (Const 0))
      (λ h. elim (some (is_zero a) (is_zero b) h) [
        | inl z ↦ sym (mulhsu_zero (val b input)) ∙ ap (λ n. bits (int_shr (signed n *ℤ pos (val b input)) 32)) (sym (is_zero_value a input z))
        | inr z ↦ absorbed_by (Alu Mulhsu) a b refl z
      ])
  absorb_zero_keeps op a b g =
      when (Keeps op a b) (is_zero_with_zero op && is_zero b) (Is (Const 0))
      (λ h. let p = both (is_zero_with_zero op) (is_zero b) h in absorbed_by op a b p.0 p.1)

  pub drop_neutral_constant_keeps : (op : Op) (a b : Tree) → AreSound op a b → IfSome (drop_neutral_constant op a b) (Keeps op a b)
  drop_neutral_constant_keeps (Alu And) x (Const c) g =
      when (Keeps (Alu And) x (Const c)) (nat_eq c (2 ^ 32 - 1)) (Is x)
      (λ h. rw (number_is c (2 ^ 32 - 1) h) (sym (and_ones (val x input) (word_of x g.first))))
  drop_neutral_constant_keeps (Alu Mul) x (Const c) g =
      when (Keeps (Alu Mul) x (Const c)) (nat_eq c 1) (Is x) (λ h. rw (number_is c 1 h) (omega (arith, word_of x g.first)))
  drop_neutral_constant_keeps (Alu Div) x (Const c) g =
      when (Keeps (Alu Div) x (Const c)) (nat_eq c 1) (Is x) (λ h. rw (number_is c 1 h) (sym (div_one (val x input) (word_of x g.first))))
  drop_neutral_constant_keeps (Alu Divu) x (Const c) g =
      when (Keeps (Alu Divu) x (Const c)) (nat_eq c 1) (Is x) (λ h. rw (number_is c 1 h) (omega arith))
  drop_neutral_constant_keeps op a b g = tt

  pub remainder_by_one_keeps : (op : Op) (a b : Tree) → AreSound op a b → IfSome (remainder_by_one op a b) (Keeps op a b)
  remainder_by_one_keeps (Alu Rem) x (Const c) g =
      when (Keeps (Alu Rem) x (Const c)) (nat_eq c 1) (Is (Const 0)) (λ h. rw (number_is c 1 h) (sym (rem_one (val x input))))
  remainder_by_one_keeps (Alu Remu) x (Const c) g =
      when (Keeps (Alu Remu) x (Const c)) (nat_eq c 1) (Is (Const 0)) (λ h. rw (number_is c 1 h) (omega arith))
  remainder_by_one_keeps op a b g = tt

  pub or_with_all_ones_keeps : (op : Op) (a b : Tree) → AreSound op a b → IfSome (or_with_all_ones op a b) (Keeps op a b)
  or_with_all_ones_keeps (Alu Or) x (Const c) g =
      when (Keeps (Alu Or) x (Const c)) (nat_eq c (2 ^ 32 - 1)) (Is (Const (2 ^ 32 - 1)))
      (λ h. rw (number_is c (2 ^ 32 - 1) h) (sym (or_ones (val x input) (word_of x g.first))))
  or_with_all_ones_keeps op a b g = tt

  same_value : (a b : Tree) → same_tree a b ≡ true → val a input ≡ val b input
  same_value a b e = ap (λ t. val t input) (trees_same a b e)

  pub drop_repeated_operand_keeps : (op : Op) (a b : Tree) → AreSound op a b → IfSome (drop_repeated_operand op a b) (Keeps op a b)
  drop_repeated_operand_keeps (Alu And) a b g =
      when (Keeps (Alu And) a b) (same_tree a b) (Is a) (λ h. sym (and_self (val a input)) ∙ ap (bit_and (val a input)) (same_value a b h))
  drop_repeated_operand_keeps (Alu Or) a b g =
      when (Keeps (Alu Or) a b) (same_tree a b) (Is a) (λ h. sym (or_self (val a input)) ∙ ap (bit_or (val a input)) (same_value a b h))
  drop_repeated_operand_keeps op a b g = tt

  pub cancel_repeated_operand_keeps : (op : Op) (a b : Tree) → AreSound op a b → IfSome (cancel_repeated_operand op a b) (Keeps op a b)
  cancel_repeated_operand_keeps (Alu Xor) a b g =
      when (Keeps (Alu Xor) a b) (same_tree a b) (Is (Const 0)) (λ h. sym (xor_self (val a input)) ∙ ap (bit_xor (val a input)) (same_value a b h))
  cancel_repeated_operand_keeps (Alu Sub) a b g =
      when (Keeps (Alu Sub) a b) (same_tree a b) (Is (Const 0)) (λ h. omega (arith, same_value a b h, word_of a g.first))
  cancel_repeated_operand_keeps (Alu Slt) a b g =
      when (Keeps (Alu Slt) a b) (same_tree a b) (Is (Const 0))
      (λ h. sym (ap from_bool (not_less_than_itself (signed (val a input)))) ∙ ap (alu Slt (val a input)) (same_value a b h))
  cancel_repeated_operand_keeps (Alu Sltu) a b g =
      when (Keeps (Alu Sltu) a b) (same_tree a b) (Is (Const 0)) (λ h. let e = same_value a b h in grind (arith, nat_tests))
  cancel_repeated_operand_keeps op a b g = tt

  pub equal_to_itself_keeps : (op : Op) (a b : Tree) → AreSound op a b → IfSome (equal_to_itself op a b) (Keeps op a b)
  equal_to_itself_keeps Eq a b g =
      when (Keeps Eq a b) (same_tree a b) (Is (Const 1)) (λ h. let e = same_value a b h in grind (arith, nat_tests))
  equal_to_itself_keeps op a b g = tt

  pub combine_bitwise_constants_keeps : (op : Op) (a b : Tree) → AreSound op a b → IfSome (combine_bitwise_constants op a b) (Keeps op a b)
  combine_bitwise_constants_keeps (Alu And) (Apply (Alu And) x (Const c)) (Const d) g = sym (and_assoc d (val x input) c)
  combine_bitwise_constants_keeps (Alu Or) (Apply (Alu Or) x (Const c)) (Const d) g = sym (or_assoc (val x input) c d)
  combine_bitwise_constants_keeps (Alu Xor) (Apply (Alu Xor) x (Const c)) (Const d) g = sym (xor_assoc (val x input) c d)
  combine_bitwise_constants_keeps op a b g = tt

  passed : (x : Tree) (c k : ℕ) → HasWords x → k < 4 → passes_byte x c k ≡ true → byte_of k (bit_and (val x input) c) ≡ byte_of k (val x input)
  passed x c k w l e = masked_byte k (val x input) c (elim (some (nat_eq (byte_of k c) 255) (is_zero_byte x k) e) [
    | inl h ↦ inl (number_is (byte_of k c) 255 h)
    | inr h ↦ inr (zero_of x w k l h)
  ])

  pub drop_mask_keeps : (op : Op) (a b : Tree) → AreSound op a b → IfSome (drop_mask op a b) (Keeps op a b)
  drop_mask_keeps (Alu And) x (Const c) g =
      when (Keeps (Alu And) x (Const c)) (at_every_byte (passes_byte x c)) (Is x)
      (λ h. let p = both (passes_byte x c 0) (passes_byte x c 1 && (passes_byte x c 2 && passes_byte x c 3)) h in
      let q = both (passes_byte x c 1) (passes_byte x c 2 && passes_byte x c 3) p.1 in
      let r = both (passes_byte x c 2) (passes_byte x c 3) q.1 in
      let at = passed x c in
      let whole : val x input < 2 ^ 32 = word_of x g.first in
      omega (arith, and_le_l (val x input) c, at 0 g.first (omega arith) p.0, at 1 g.first (omega arith) q.0, at 2 g.first (omega arith) r.0, at 3 g.first (omega arith) r.1))
  drop_mask_keeps op a b g = tt

  pub combine_shifts_keeps : (op : Op) (a b : Tree) → AreSound op a b → IfSome (combine_shifts op a b) (Keeps op a b)
  combine_shifts_keeps (Alu Sll) (Apply (Alu Sll) x (Const c)) (Const d) g =
      when (Keeps (Alu Sll) (Apply (Alu Sll) x (Const c)) (Const d)) (nat_lt (c + d) 32) (with_constant (Alu Sll) x (c + d))
      (λ h. let l = less_is (c + d) 32 h in
      let p : c % 32 ≡ c = omega arith in let q : d % 32 ≡ d = omega arith in let r : (c + d) % 32 ≡ c + d = omega arith in
      rw (p, q, r) (sym (shl_shl (val x input) c d)))
  combine_shifts_keeps (Alu Srl) (Apply (Alu Srl) x (Const c)) (Const d) g =
      when (Keeps (Alu Srl) (Apply (Alu Srl) x (Const c)) (Const d)) (nat_lt (c + d) 32) (with_constant (Alu Srl) x (c + d))
      (λ h. let l = less_is (c + d) 32 h in
      let p : c % 32 ≡ c = omega arith in let q : d % 32 ≡ d = omega arith in let r : (c + d) % 32 ≡ c + d = omega arith in
      rw (p, q, r) (sym (shr-shr (val x input) c d)))
  combine_shifts_keeps op a b g = tt

  pub shift_all_out_keeps : (op : Op) (a b : Tree) → AreSound op a b → IsReducedShift op b → IsReduced a → IfSome (shift_all_out op a b) (Keeps op a b)
  shift_all_out_keeps (Alu Sll) (Apply (Alu Sll) x (Const c)) (Const d) g s t =
      when (Keeps (Alu Sll) (Apply (Alu Sll) x (Const c)) (Const d)) (nat_le 32 (c + d)) (Is (Const 0))
      (λ h. let l = at_most_is 32 (c + d) h in let m = s refl in let n = t refl in
      let p : c % 32 ≡ c = omega arith in let q : d % 32 ≡ d = omega arith in
      rw (p, q) (sym (shl_out (val x input) c d l)))
  shift_all_out_keeps (Alu Srl) (Apply (Alu Srl) x (Const c)) (Const d) g s t =
      when (Keeps (Alu Srl) (Apply (Alu Srl) x (Const c)) (Const d)) (nat_le 32 (c + d)) (Is (Const 0))
      (λ h. let l = at_most_is 32 (c + d) h in let m = s refl in let n = t refl in
      let p : c % 32 ≡ c = omega arith in let q : d % 32 ≡ d = omega arith in
      rw (p, q) (sym (shr_out (val x input) c d (word_of x g.first.0) l)))
  shift_all_out_keeps op a b g s t = tt

  pub xor_across_equality_keeps : (op : Op) (a b : Tree) → AreSound op a b → IfSome (xor_across_equality op a b) (Keeps op a b)
  xor_across_equality_keeps Eq (Apply (Alu Xor) x (Const c)) (Const d) g = ap from_bool (xor_across (val x input) c d)
  xor_across_equality_keeps op a b g = tt

  pub add_across_equality_keeps : (op : Op) (a b : Tree) → AreSound op a b → IfSome (add_across_equality op a b) (Keeps op a b)
  add_across_equality_keeps Eq (Apply (Alu Add) x (Const c)) (Const d) g =
      ap from_bool (add_across (val x input) c d (word_of x g.first.0) g.first.1 g.second)
  add_across_equality_keeps op a b g = tt

  pub difference_is_zero_keeps : (op : Op) (a b : Tree) → AreSound op a b → IfSome (difference_is_zero op a b) (Keeps op a b)
  difference_is_zero_keeps Eq (Apply (Alu Xor) x y) (Const d) g =
      when (Keeps Eq (Apply (Alu Xor) x y) (Const d)) (nat_eq d 0) (Make Eq (Is x) (Is y))
      (λ h. rw (number_is d 0 h) (ap from_bool (xor_is_zero (val x input) (val y input))))
  difference_is_zero_keeps Eq (Apply (Alu Sub) x y) (Const d) g =
      when (Keeps Eq (Apply (Alu Sub) x y) (Const d)) (nat_eq d 0) (Make Eq (Is x) (Is y))
      (λ h. rw (number_is d 0 h) (ap from_bool (sub_is_zero (val x input) (val y input) (word_of x g.first.0) (word_of y g.first.1))))
  difference_is_zero_keeps op a b g = tt

  bit_is_one : (n : ℕ) → n < 2 → n ≡ from_bool (nat_eq n 1)
  bit_is_one n l = grind (arith, nat_tests)

  pub truth_is_one_keeps : (op : Op) (a b : Tree) → AreSound op a b → IfSome (truth_is_one op a b) (Keeps op a b)
  truth_is_one_keeps Eq t (Const c) g =
      when (Keeps Eq t (Const c)) (is_truth t && nat_eq c 1) (Is t)
      (λ h. let p = both (is_truth t) (nat_eq c 1) h in rw (number_is c 1 p.1) (bit_is_one (val t input) (truth_below t input p.0)))
  truth_is_one_keeps op a b g = tt

  bit_negated_twice : (n : ℕ) → n < 2 → n ≡ from_bool (nat_eq (from_bool (nat_eq n 0)) 0)
  bit_negated_twice n l = told (nat_eq n 0) (λ t. rw t (number_is n 0 t)) (λ t. rw t (grind (arith, nat_tests)))

  pub double_negation_keeps : (op : Op) (a b : Tree) → AreSound op a b → IfSome (double_negation op a b) (Keeps op a b)
  double_negation_keeps Eq (Apply Eq t (Const c)) (Const d) g =
      when (Keeps Eq (Apply Eq t (Const c)) (Const d)) (is_truth t && (nat_eq c 0 && nat_eq d 0)) (Is t)
      (λ h. let p = both (is_truth t) (nat_eq c 0 && nat_eq d 0) h in
      let q = both (nat_eq c 0) (nat_eq d 0) p.1 in
      rw (number_is c 0 q.0, number_is d 0 q.1) (bit_negated_twice (val t input) (truth_below t input p.0)))
  double_negation_keeps op a b g = tt

  pub truth_is_no_larger_keeps : (op : Op) (a b : Tree) → AreSound op a b → IfSome (truth_is_no_larger op a b) (Keeps op a b)
  truth_is_no_larger_keeps Eq t (Const c) g =
      when (Keeps Eq t (Const c)) (is_truth t && nat_lt 1 c) (Is (Const 0))
      (λ h. let p = both (is_truth t) (nat_lt 1 c) h in
      let l = truth_below t input p.0 in let m = less_is 1 c p.1 in grind (arith, nat_tests))
  truth_is_no_larger_keeps op a b g = tt

  unequal : (m n : ℕ) → (m ≡ n → ⊥) → 0 ≡ from_bool (nat_eq m n)
  unequal m n h = told (nat_eq m n) (λ t. absurd (h (number_is m n t))) (λ t. rw t refl)

  differs : (x : Tree) (c k : ℕ) → HasWords x → k < 4 → differs_at_byte x c k ≡ true → val x input ≡ c → ⊥
  differs x c k w l e s =
      let p = both (not (nat_eq (byte_of k c) 0)) (is_zero_byte x k) e in
      let z : byte_of k (val x input) ≡ 0 = zero_of x w k l p.1 in
      let y : byte_of k c ≡ 0 = ap (byte_of k) (sym s) ∙ z in
      let n : not (nat_eq (byte_of k c) 0) ≡ false = rw y refl in
      let q : true ≡ false = sym p.0 ∙ n in
      cc

  pub zero_byte_differs_keeps : (op : Op) (a b : Tree) → AreSound op a b → IfSome (zero_byte_differs op a b) (Keeps op a b)
  zero_byte_differs_keeps Eq x (Const c) g =
      when (Keeps Eq x (Const c)) (at_some_byte (differs_at_byte x c)) (Is (Const 0))
      (λ h. let at = differs x c in
      unequal (val x input) c (elim (some (differs_at_byte x c 0) (differs_at_byte x c 1 || (differs_at_byte x c 2 || differs_at_byte x c 3)) h) [
        | inl t ↦ at 0 g.first (omega arith) t
        | inr r ↦ elim (some (differs_at_byte x c 1) (differs_at_byte x c 2 || differs_at_byte x c 3) r) [
          | inl t ↦ at 1 g.first (omega arith) t
          | inr s ↦ elim (some (differs_at_byte x c 2) (differs_at_byte x c 3) s) [
            | inl t ↦ at 2 g.first (omega arith) t
            | inr t ↦ at 3 g.first (omega arith) t
          ]
        ]
      ]))
  zero_byte_differs_keeps op a b g = tt

  pub less_than_zero_keeps : (op : Op) (a b : Tree) → AreSound op a b → IfSome (less_than_zero op a b) (Keeps op a b)
  less_than_zero_keeps (Alu Sltu) x (Const c) g =
      when (Keeps (Alu Sltu) x (Const c)) (nat_eq c 0) (Is (Const 0)) (λ h. grind (arith, nat_tests))
  less_than_zero_keeps op a b g = tt

  pub less_than_one_keeps : (op : Op) (a b : Tree) → AreSound op a b → IfSome (less_than_one op a b) (Keeps op a b)
  less_than_one_keeps (Alu Sltu) x (Const c) g =
      when (Keeps (Alu Sltu) x (Const c)) (nat_eq c 1) (with_constant Eq x 0) (λ h. grind (arith, nat_tests))
  less_than_one_keeps op a b g = tt

  pub more_than_zero_keeps : (op : Op) (a b : Tree) → AreSound op a b → IfSome (more_than_zero op a b) (Keeps op a b)
  more_than_zero_keeps (Alu Sltu) (Const c) x g =
      when (Keeps (Alu Sltu) (Const c) x) (nat_eq c 0) (Make Eq (with_constant Eq x 0) (Is (Const 0))) (λ h. grind (arith, nat_tests))
  more_than_zero_keeps op a b g = tt

  pub one_byte_is_less_keeps : (op : Op) (a b : Tree) → AreSound op a b → IfSome (one_byte_is_less op a b) (Keeps op a b)
  one_byte_is_less_keeps (Alu Sltu) x (Const c) g =
      when (Keeps (Alu Sltu) x (Const c)) (is_one_byte x && nat_lt 255 c) (Is (Const 1))
      (λ h. let p = both (is_one_byte x) (nat_lt 255 c) h in
      let l = small_of x g.first p.0 in let m = less_is 255 c p.1 in grind (arith, nat_tests))
  one_byte_is_less_keeps op a b g = tt

  byte_at : (k n : ℕ) → k < 4 → byte_of (k % 4) n ≡ byte_of k n
  byte_at k n l = ap (λ i. byte_of i n) (let e : k % 4 ≡ k = omega arith in e)

  pub byte_is_zero_keeps : (op : Op) (a b : Tree) → AreSound op a b → IfSome (byte_is_zero op a b) (Keeps op a b)
  byte_is_zero_keeps Byte x (Const k) g =
      when (Keeps Byte x (Const k)) (is_zero_byte x k) (Is (Const 0))
      (λ h. sym (byte_at k (val x input) g.byte ∙ zero_of x g.first k g.byte h))
  byte_is_zero_keeps op a b g = tt

  pub byte_of_one_byte_keeps : (op : Op) (a b : Tree) → AreSound op a b → IfSome (byte_of_one_byte op a b) (Keeps op a b)
  byte_of_one_byte_keeps Byte x (Const k) g =
      when (Keeps Byte x (Const k)) (nat_eq k 0 && is_one_byte x) (Is x)
      (λ h. let p = both (nat_eq k 0) (is_one_byte x) h in rw (number_is k 0 p.0) (omega (arith, small_of x g.first p.1)))
  byte_of_one_byte_keeps op a b g = tt

  pub byte_of_pair_keeps : (op : Op) (a b : Tree) → AreSound op a b → IfSome (byte_of_pair op a b) (Keeps op a b)
  byte_of_pair_keeps Byte (Apply Pair x y) (Const k) g =
      let K = Keeps Byte (Apply Pair x y) (Const k) in
      either K (only_if (nat_eq k 0) (with_constant Byte x 0)) (only_if (nat_eq k 1) (with_constant Byte y 0))
      (when K (nat_eq k 0) (with_constant Byte x 0) (λ h. rw (number_is k 0 h) (sym (byte_of_low (val x input) (val y input)))))
      (when K (nat_eq k 1) (with_constant Byte y 0) (λ h. rw (number_is k 1 h) (sym (byte_of_high (val x input) (val y input)))))
  byte_of_pair_keeps op a b g = tt

  pub byte_of_half_keeps : (op : Op) (a b : Tree) → AreSound op a b → IfSome (byte_of_half op a b) (Keeps op a b)
  byte_of_half_keeps Byte (Apply Half x y) (Const k) g =
      let K = Keeps Byte (Apply Half x y) (Const k) in
      let l : k < 4 = g.byte in
      either K (only_if (nat_lt k 2) (with_constant Byte x k)) (only_if (nat_le 2 k) (with_constant Byte y (k - 2)))
      (when K (nat_lt k 2) (with_constant Byte x k)
      (λ h. rw (let e : k % 4 ≡ k = omega arith in e) (sym (byte_of_lower k (val x input) (val y input) (less_is k 2 h)))))
      (when K (nat_le 2 k) (with_constant Byte y (k - 2))
      (λ h. byte_at (k - 2) (val y input) (omega arith) ∙ sym (byte_at k (op_value Half (val x input) (val y input)) l ∙ byte_of_upper k (val x input) (val y input) (at_most_is 2 k h) l)))
  byte_of_half_keeps op a b g = tt

  beside_zero : (k m n p : ℕ) → k < 4 → byte_of k p ≡ byte_of k m → byte_of (k % 4) m ≡ byte_of (k % 4) p
  beside_zero k m n p l e = byte_at k m l ∙ sym e ∙ sym (byte_at k p l)

  or_left : (k m n : ℕ) → byte_of k n ≡ 0 → byte_of k (bit_or m n) ≡ byte_of k m
  or_left k m n e = byte_or k m n ∙ ap (bit_or (byte_of k m)) e ∙ or_zero_r (byte_of k m)

  or_right : (k m n : ℕ) → byte_of k m ≡ 0 → byte_of k (bit_or m n) ≡ byte_of k n
  or_right k m n e = byte_or k m n ∙ ap (λ z. bit_or z (byte_of k n)) e ∙ or_zero_l (byte_of k n)

  xor_left : (k m n : ℕ) → byte_of k n ≡ 0 → byte_of k (bit_xor m n) ≡ byte_of k m
  xor_left k m n e = byte_xor k m n ∙ ap (bit_xor (byte_of k m)) e ∙ xor_zero_r (byte_of k m)

  xor_right : (k m n : ℕ) → byte_of k m ≡ 0 → byte_of k (bit_xor m n) ≡ byte_of k n
  xor_right k m n e = byte_xor k m n ∙ ap (λ z. bit_xor z (byte_of k n)) e ∙ xor_zero_l (byte_of k n)

  pub byte_beside_zero_keeps : (op : Op) (a b : Tree) → AreSound op a b → IfSome (byte_beside_zero op a b) (Keeps op a b)
  byte_beside_zero_keeps Byte (Apply (Alu Or) x y) (Const k) g =
      let K = Keeps Byte (Apply (Alu Or) x y) (Const k) in
      let l : k < 4 = g.byte in let m : ℕ = val x input in let n : ℕ = val y input in
      either K (only_if (is_zero_byte y k) (with_constant Byte x k)) (only_if (is_zero_byte x k) (with_constant Byte y k))
      (when K (is_zero_byte y k) (with_constant Byte x k) (λ h. beside_zero k m n (bit_or m n) l (or_left k m n (zero_of y g.first.1 k l h))))
      (when K (is_zero_byte x k) (with_constant Byte y k) (λ h. beside_zero k n m (bit_or m n) l (or_right k m n (zero_of x g.first.0 k l h))))
  byte_beside_zero_keeps Byte (Apply (Alu Xor) x y) (Const k) g =
      let K = Keeps Byte (Apply (Alu Xor) x y) (Const k) in
      let l : k < 4 = g.byte in let m : ℕ = val x input in let n : ℕ = val y input in
      either K (only_if (is_zero_byte y k) (with_constant Byte x k)) (only_if (is_zero_byte x k) (with_constant Byte y k))
      (when K (is_zero_byte y k) (with_constant Byte x k) (λ h. beside_zero k m n (bit_xor m n) l (xor_left k m n (zero_of y g.first.1 k l h))))
      (when K (is_zero_byte x k) (with_constant Byte y k) (λ h. beside_zero k n m (bit_xor m n) l (xor_right k m n (zero_of x g.first.0 k l h))))
  byte_beside_zero_keeps op a b g = tt

  pub byte_under_mask_keeps : (op : Op) (a b : Tree) → AreSound op a b → IfSome (byte_under_mask op a b) (Keeps op a b)
  byte_under_mask_keeps Byte (Apply (Alu And) x (Const c)) (Const k) g =
      when (Keeps Byte (Apply (Alu And) x (Const c)) (Const k)) (nat_eq (byte_of k c) 255) (with_constant Byte x k)
      (λ h. beside_zero k (val x input) c (bit_and (val x input) c) g.byte (masked_byte k (val x input) c (inl (number_is (byte_of k c) 255 h))))
  byte_under_mask_keeps op a b g = tt

  left_shifted : (c k m : ℕ) → is_byte_shift c ≡ true → k < 4 → c / 8 ≤ k → byte_of ((k - c / 8) % 4) m ≡ byte_of (k % 4) (m * 2 ^ (c % 32) % 2 ^ 32)
  left_shifted c k m e l h =
      let w = whole_bytes c e in
      let j : ℕ = w.0 in
      let amount : c % 32 ≡ 8 * j = omega arith in
      let whole : c / 8 ≡ j = omega arith in
      rw (amount, whole) (byte_at (k - j) m (omega arith) ∙ sym (byte_at k (m * 2 ^ (8 * j) % 2 ^ 32) l ∙ byte_shl j k m (omega arith) (omega arith) (omega arith) l))

  pub byte_of_left_shift_keeps : (op : Op) (a b : Tree) → AreSound op a b → IfSome (byte_of_left_shift op a b) (Keeps op a b)
  byte_of_left_shift_keeps Byte (Apply (Alu Sll) x (Const c)) (Const k) g =
      when (Keeps Byte (Apply (Alu Sll) x (Const c)) (Const k)) (is_byte_shift c && nat_le (c / 8) k) (with_constant Byte x (k - c / 8))
      (λ h. let p = both (is_byte_shift c) (nat_le (c / 8) k) h in left_shifted c k (val x input) p.0 g.byte (at_most_is (c / 8) k p.1))
  byte_of_left_shift_keeps op a b g = tt

  right_shifted : (c k m : ℕ) → is_byte_shift c ≡ true → k < 4 → k + c / 8 ≤ 3 → byte_of ((k + c / 8) % 4) m ≡ byte_of (k % 4) (m / 2 ^ (c % 32))
  right_shifted c k m e l h =
      let w = whole_bytes c e in
      let j : ℕ = w.0 in
      let amount : c % 32 ≡ 8 * j = omega arith in
      let whole : c / 8 ≡ j = omega arith in
      rw (amount, whole) (byte_at (k + j) m (omega arith) ∙ sym (byte_at k (m / 2 ^ (8 * j)) l ∙ byte_shr k j m))

  right_shifted_signed : (c k m : ℕ) → m < 2 ^ 32 → is_byte_shift c ≡ true → k < 4 → k + c / 8 ≤ 3 → byte_of ((k + c / 8) % 4) m ≡ byte_of (k % 4) (bits (int_shr (signed m) (c % 32)))
  right_shifted_signed c k m f e l h =
      let w = whole_bytes c e in
      let j : ℕ = w.0 in
      let amount : c % 32 ≡ 8 * j = omega arith in
      let whole : c / 8 ≡ j = omega arith in
      rw (amount, whole) (byte_at (k + j) m (omega arith) ∙ sym (byte_at k (bits (int_shr (signed m) (8 * j))) l ∙ byte_sra k j m f (omega arith)))

  pub byte_of_right_shift_keeps : (op : Op) (a b : Tree) → AreSound op a b → IfSome (byte_of_right_shift op a b) (Keeps op a b)
  byte_of_right_shift_keeps Byte (Apply (Alu Srl) x (Const c)) (Const k) g =
      when (Keeps Byte (Apply (Alu Srl) x (Const c)) (Const k)) (is_byte_shift c && nat_le (k + c / 8) 3) (with_constant Byte x (k + c / 8))
      (λ h. let p = both (is_byte_shift c) (nat_le (k + c / 8) 3) h in right_shifted c k (val x input) p.0 g.byte (at_most_is (k + c / 8) 3 p.1))
  byte_of_right_shift_keeps Byte (Apply (Alu Sra) x (Const c)) (Const k) g =
      when (Keeps Byte (Apply (Alu Sra) x (Const c)) (Const k)) (is_byte_shift c && nat_le (k + c / 8) 3) (with_constant Byte x (k + c / 8))
      (λ h. let p = both (is_byte_shift c) (nat_le (k + c / 8) 3) h in right_shifted_signed c k (val x input) (word_of x g.first.0) p.0 g.byte (at_most_is (k + c / 8) 3 p.1))
  byte_of_right_shift_keeps op a b g = tt

  pub pair_with_zero_keeps : (op : Op) (a b : Tree) → AreSound op a b → IfSome (pair_with_zero op a b) (Keeps op a b)
  pair_with_zero_keeps Pair x (Const c) g =
      when (Keeps Pair x (Const c)) (nat_eq c 0) (with_constant Byte x 0) (λ h. rw (number_is c 0 h) (omega arith))
  pair_with_zero_keeps op a b g = tt

  pub half_with_zero_keeps : (op : Op) (a b : Tree) → AreSound op a b → IfSome (half_with_zero op a b) (Keeps op a b)
  half_with_zero_keeps Half x (Const c) g =
      when (Keeps Half x (Const c)) (nat_eq c 0 && is_half_word x) (Is x)
      (λ h. let p = both (nat_eq c 0) (is_half_word x) h in rw (number_is c 0 p.0) (omega (arith, half_of x g.first p.1)))
  half_with_zero_keeps op a b g = tt

  own_byte : (x : Tree) (k : ℕ) (t : Tree) → is_byte_of x k t ≡ true → val t input ≡ byte_of (k % 4) (val x input)
  own_byte x k (Apply Byte y (Const j)) e =
      let p = both (nat_eq j k) (same_tree y x) e in
      ap (λ i. byte_of (i % 4) (val y input)) (number_is j k p.0) ∙ ap (byte_of (k % 4)) (same_value y x p.1)
  own_byte x k t e = cc

  pub pair_of_own_bytes_keeps : (op : Op) (a b : Tree) → AreSound op a b → IfSome (pair_of_own_bytes op a b) (Keeps op a b)
  pair_of_own_bytes_keeps Pair (Apply Byte x j) b g =
      when (Keeps Pair (Apply Byte x j) b) ((is_byte_of x 0 (Apply Byte x j) && is_byte_of x 1 b) && is_half_word x) (Is x)
      (λ h. let p = both (is_byte_of x 0 (Apply Byte x j) && is_byte_of x 1 b) (is_half_word x) h in
      let q = both (is_byte_of x 0 (Apply Byte x j)) (is_byte_of x 1 b) p.0 in
      rw (own_byte x 0 (Apply Byte x j) q.0, own_byte x 1 b q.1) (sym (pair_of_bytes (val x input) (half_of x g.first.0 p.1))))
  pair_of_own_bytes_keeps op a b g = tt

  pub half_of_own_bytes_keeps : (op : Op) (a b : Tree) → AreSound op a b → IfSome (half_of_own_bytes op a b) (Keeps op a b)
  half_of_own_bytes_keeps Half (Apply Pair (Apply Byte x j) q) (Apply Pair r s) g =
      when (Keeps Half (Apply Pair (Apply Byte x j) q) (Apply Pair r s))
      ((is_byte_of x 0 (Apply Byte x j) && is_byte_of x 1 q) && (is_byte_of x 2 r && is_byte_of x 3 s)) (Is x)
      (λ h. let p = both (is_byte_of x 0 (Apply Byte x j) && is_byte_of x 1 q) (is_byte_of x 2 r && is_byte_of x 3 s) h in
      let u = both (is_byte_of x 0 (Apply Byte x j)) (is_byte_of x 1 q) p.0 in
      let v = both (is_byte_of x 2 r) (is_byte_of x 3 s) p.1 in
      rw (own_byte x 0 (Apply Byte x j) u.0, own_byte x 1 q u.1, own_byte x 2 r v.0, own_byte x 3 s v.1)
      (sym (half_of_bytes (val x input) (word_of x g.first.0.0))))
  half_of_own_bytes_keeps op a b g = tt
