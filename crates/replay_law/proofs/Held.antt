-- When the forms of conditions hold.
use Rattle.std.proofs.Common.{◌≡◌, ℕ, ◌+◌, ◌-◌, ◌*◌, ◌/◌, ◌%◌, ◌^◌, ◌<◌, List, [], ◌∷◌, Bool, true, false, not, nat_eq, if◌then◌else◌, bit_and, refl, sym, ap, ◌∙◌, arith, ◌==◌}
use Rattle.std.specs.Int.{from_bool}
use Rattle.std.proofs.lemmas.Bool.{eqb-true, eq-eqb, not-true, not-false}
use Rattle.std.proofs.lemmas.Bool.Decides.{nat_tests}
use Rattle.std.proofs.lemmas.Nat.Bits.{and_high_mask}
use Rattle.rv_word.specs.declared.AluOp.TheVariants.{Add, And, Slt, Sltu}
use Rattle.term_model.specs.declared.Op.TheVariants.{Alu, Eq, Byte}
use Rattle.term_model.specs.Tree.{Tree, Const, Apply}
use Rattle.term_model.specs.Value.{val, byte_of}
use Rattle.term_model.specs.Words.{AreBytes}
use Rattle.term_model.specs.Conditions.{Hold}
use Rattle.term_model.proofs.HoldLemmas.{hold_one, hold_four, first_holds}
use Rattle.rv_decode.specs.declared.instr.Cond.{Cond}
use Rattle.rv_decode.specs.declared.instr.Cond.TheVariants as conds
use Rattle.rv_machine.specs.Effects.{taken}
use Rattle.replay_law.specs.Making.{Making, IsMaker}
use Rattle.replay_law.specs.Forms.{byte_term, same_byte, byte_is, equal, bytes_are, difference, pin, target_bytes, target, fails, branch_conditions}

-- the test of equal numbers is 1
pub truth_one : (a b : ℕ) → a ≡ b → from_bool (nat_eq a b) ≡ 1
truth_one a b e = grind (arith, nat_tests)

-- numbers whose test is 1 are equal
pub one_truth : (a b : ℕ) → from_bool (nat_eq a b) ≡ 1 → a ≡ b
one_truth a b e = grind (arith, nat_tests)

-- a test that is 0 is false
pub truth_bit : (b : Bool) → from_bool b ≡ 0 → b ≡ false
truth_bit true e = absurd (omega arith)
truth_bit false e = refl

-- a number by its bytes
pub same_bytes : (a b : ℕ) → a < 2 ^ 32 → b < 2 ^ 32 → byte_of 0 a ≡ byte_of 0 b → byte_of 1 a ≡ byte_of 1 b → byte_of 2 a ≡ byte_of 2 b → byte_of 3 a ≡ byte_of 3 b → a ≡ b
same_bytes a b h k p q r s = omega arith

-- a byte is below 256
pub byte_below : (k a : ℕ) → byte_of k a < 256
byte_below k a = omega arith

-- a constant taken off a sum
pub difference_is : (a c v : ℕ) → a < 2 ^ 32 → c < 2 ^ 32 → (a + c) % 2 ^ 32 ≡ v → a ≡ difference v c
difference_is a c v h k e = omega arith

-- a constant added again
pub difference_gives : (a c v : ℕ) → a < 2 ^ 32 → c < 2 ^ 32 → v < 2 ^ 32 → a ≡ difference v c → (a + c) % 2 ^ 32 ≡ v
difference_gives a c v h k l e = omega arith

-- the lowest bit cleared
pub even_off : (a c v : ℕ) → a < 2 ^ 32 → c < 2 ^ 32 → c % 2 ≡ 0 → (a + c) % 2 ^ 32 - (a + c) % 2 ^ 32 % 2 ≡ v → a - a % 2 ≡ difference v c
even_off a c v h k e p = omega arith

-- the lowest bit cleared, and an even constant added again
pub even_on : (a c v : ℕ) → a < 2 ^ 32 → c < 2 ^ 32 → v < 2 ^ 32 → c % 2 ≡ 0 → a - a % 2 ≡ difference v c → (a + c) % 2 ^ 32 - (a + c) % 2 ^ 32 % 2 ≡ v
even_on a c v h k l e p = omega arith

-- an even number without an even constant is even
pub difference_even : (c v : ℕ) → c < 2 ^ 32 → c % 2 ≡ 0 → v % 2 ≡ 0 → difference v c % 2 ≡ 0
difference_even c v h e f = omega arith

-- a made comparison
pub eq_holds : {made : Making} {IsMade : Tree → Type 0} → IsMaker made IsMade → (y : List ℕ) → AreBytes y → (a b : Tree) → IsMade a → IsMade b → val a y ≡ val b y → val (made Eq a b) y ≡ 1
eq_holds m y bs a b ia ib e = m.keeps Eq a b y ia ib tt bs ∙ truth_one _ _ e

-- and the converse
pub eq_gives : {made : Making} {IsMade : Tree → Type 0} → IsMaker made IsMade → (y : List ℕ) → AreBytes y → (a b : Tree) → IsMade a → IsMade b → val (made Eq a b) y ≡ 1 → val a y ≡ val b y
eq_gives m y bs a b ia ib e = one_truth _ _ (sym (m.keeps Eq a b y ia ib tt bs) ∙ e)

-- a made byte has the byte's value
pub byte_value : {made : Making} {IsMade : Tree → Type 0} → IsMaker made IsMade → (y : List ℕ) → AreBytes y → (k : ℕ) → k < 4 → (t : Tree) → IsMade t → val (byte_term made k t) y ≡ byte_of k (val t y)
byte_value m y bs k lt t it =
    let e : k % 4 ≡ k = omega arith in
    m.keeps Byte t (Const k) y it (m.constant k (omega arith)) lt bs ∙ ap (λ j. byte_of j (val t y)) e

-- a byte of a made term is made
pub byte_made : {made : Making} {IsMade : Tree → Type 0} → IsMaker made IsMade → (k : ℕ) → k < 4 → (t : Tree) → IsMade t → IsMade (byte_term made k t)
byte_made m k lt t it = m.gives Byte t (Const k) it (m.constant k (omega arith)) lt

-- byte k of two terms with one value is the same
same_holds : {made : Making} {IsMade : Tree → Type 0} → IsMaker made IsMade → (y : List ℕ) → AreBytes y → (k : ℕ) → k < 4 → (a b : Tree) → IsMade a → IsMade b → val a y ≡ val b y → val (same_byte made a b k) y ≡ 1
same_holds m y bs k lt a b ia ib e =
    eq_holds m y bs _ _ (byte_made m k lt a ia) (byte_made m k lt b ib)
    (byte_value m y bs k lt a ia ∙ ap (byte_of k) e ∙ sym (byte_value m y bs k lt b ib))

-- and the converse
same_gives : {made : Making} {IsMade : Tree → Type 0} → IsMaker made IsMade → (y : List ℕ) → AreBytes y → (k : ℕ) → k < 4 → (a b : Tree) → IsMade a → IsMade b → val (same_byte made a b k) y ≡ 1 → byte_of k (val a y) ≡ byte_of k (val b y)
same_gives m y bs k lt a b ia ib h =
    sym (byte_value m y bs k lt a ia) ∙ eq_gives m y bs _ _ (byte_made m k lt a ia) (byte_made m k lt b ib) h ∙ byte_value m y bs k lt b ib

-- the equality of two terms holds where their values are the same
pub equal_holds : {made : Making} {IsMade : Tree → Type 0} → IsMaker made IsMade → (y : List ℕ) → AreBytes y → (a b : Tree) → IsMade a → IsMade b → val a y ≡ val b y → Hold (equal made a b) y
equal_holds m y bs a b ia ib e =
    hold_four y _ _ _ _ (same_holds m y bs 0 (omega arith) a b ia ib e) (same_holds m y bs 1 (omega arith) a b ia ib e) (same_holds m y bs 2 (omega arith) a b ia ib e) (same_holds m y bs 3 (omega arith) a b ia ib e)

-- and the converse
pub equal_gives : {made : Making} {IsMade : Tree → Type 0} → IsMaker made IsMade → (y : List ℕ) → AreBytes y → (a b : Tree) → IsMade a → IsMade b → Hold (equal made a b) y → val a y ≡ val b y
equal_gives m y bs a b ia ib h =
    same_bytes _ _ (m.words a y ia bs) (m.words b y ib bs)
    (same_gives m y bs 0 (omega arith) a b ia ib (h 0 a (omega arith))) (same_gives m y bs 1 (omega arith) a b ia ib (h 1 a (omega arith)))
    (same_gives m y bs 2 (omega arith) a b ia ib (h 2 a (omega arith))) (same_gives m y bs 3 (omega arith) a b ia ib (h 3 a (omega arith)))

-- the condition on byte k of a term holds where that byte is the number's
pub is_holds : {made : Making} {IsMade : Tree → Type 0} → IsMaker made IsMade → (y : List ℕ) → AreBytes y → (k : ℕ) → k < 4 → (t : Tree) (v : ℕ) → IsMade t → byte_of k (val t y) ≡ byte_of k v → val (byte_is made t v k) y ≡ 1
is_holds m y bs k lt t v it e =
    let b : byte_of k v < 2 ^ 32 = omega (arith, byte_below k v) in
    eq_holds m y bs _ _ (byte_made m k lt t it) (m.constant (byte_of k v) b) (byte_value m y bs k lt t it ∙ e)

-- and the converse
pub is_gives : {made : Making} {IsMade : Tree → Type 0} → IsMaker made IsMade → (y : List ℕ) → AreBytes y → (k : ℕ) → k < 4 → (t : Tree) (v : ℕ) → IsMade t → val (byte_is made t v k) y ≡ 1 → byte_of k (val t y) ≡ byte_of k v
is_gives m y bs k lt t v it h =
    let b : byte_of k v < 2 ^ 32 = omega (arith, byte_below k v) in
    sym (byte_value m y bs k lt t it) ∙ eq_gives m y bs _ _ (byte_made m k lt t it) (m.constant (byte_of k v) b) h

-- the conditions on all bytes hold where the value is the number
pub bytes_hold : {made : Making} {IsMade : Tree → Type 0} → IsMaker made IsMade → (y : List ℕ) → AreBytes y → (t : Tree) (v : ℕ) → IsMade t → val t y ≡ v → Hold (bytes_are made t v) y
bytes_hold m y bs t v it e =
    hold_four y _ _ _ _ (is_holds m y bs 0 (omega arith) t v it (ap (byte_of 0) e)) (is_holds m y bs 1 (omega arith) t v it (ap (byte_of 1) e)) (is_holds m y bs 2 (omega arith) t v it (ap (byte_of 2) e)) (is_holds m y bs 3 (omega arith) t v it (ap (byte_of 3) e))

-- and the converse
pub bytes_give : {made : Making} {IsMade : Tree → Type 0} → IsMaker made IsMade → (y : List ℕ) → AreBytes y → (t : Tree) (v : ℕ) → IsMade t → v < 2 ^ 32 → Hold (bytes_are made t v) y → val t y ≡ v
bytes_give m y bs t v it lt h =
    same_bytes _ _ (m.words t y it bs) lt
    (is_gives m y bs 0 (omega arith) t v it (h 0 t (omega arith))) (is_gives m y bs 1 (omega arith) t v it (h 1 t (omega arith)))
    (is_gives m y bs 2 (omega arith) t v it (h 2 t (omega arith))) (is_gives m y bs 3 (omega arith) t v it (h 3 t (omega arith)))

-- a pin holds where the term has the value
pub pin_holds : {made : Making} {IsMade : Tree → Type 0} → IsMaker made IsMade → (y : List ℕ) → AreBytes y → (t : Tree) (v : ℕ) → IsMade t → val t y ≡ v → Hold (pin made t v) y
pin_holds m y bs (Apply (Alu Add) t (Const c)) v it e =
    pin_holds m y bs t (difference v c) (m.first _ _ _ it)
    (difference_is (val t y) c v (m.words t y (m.first _ _ _ it) bs) (m.words (Const c) y (m.second _ _ _ it) bs) e)
pin_holds m y bs t v it e = bytes_hold m y bs t v it e

-- and the converse
pub pin_gives : {made : Making} {IsMade : Tree → Type 0} → IsMaker made IsMade → (y : List ℕ) → AreBytes y → (t : Tree) (v : ℕ) → IsMade t → v < 2 ^ 32 → Hold (pin made t v) y → val t y ≡ v
pin_gives m y bs (Apply (Alu Add) t (Const c)) v it lt h =
    difference_gives (val t y) c v (m.words t y (m.first _ _ _ it) bs) (m.words (Const c) y (m.second _ _ _ it) bs) lt
    (pin_gives m y bs t (difference v c) (m.first _ _ _ it) (omega arith) h)
pin_gives m y bs t v it lt h = bytes_give m y bs t v it lt h

-- ---- targets

-- a byte with its lowest bit cleared by a mask
mask_byte : (n : ℕ) → n < 256 → bit_and n 0xfe ≡ n / 2 * 2
mask_byte n h = and_high_mask 8 1 (omega arith) n h

-- the masked byte of a sum
low_value : {made : Making} {IsMade : Tree → Type 0} → IsMaker made IsMade → (y : List ℕ) → AreBytes y → (s : Tree) → IsMade s → val (made (Alu And) (byte_term made 0 s) (Const 0xfe)) y ≡ byte_of 0 (val s y) / 2 * 2
low_value {made} m y bs s is =
    m.keeps (Alu And) (byte_term made 0 s) (Const 0xfe) y (byte_made m 0 (omega arith) s is) (m.constant 0xfe (omega arith)) tt bs
    ∙ ap (λ n. bit_and n 0xfe) (byte_value m y bs 0 (omega arith) s is)
    ∙ mask_byte (byte_of 0 (val s y)) (byte_below 0 (val s y))

-- it is made
low_made : {made : Making} {IsMade : Tree → Type 0} → IsMaker made IsMade → (s : Tree) → IsMade s → IsMade (made (Alu And) (byte_term made 0 s) (Const 0xfe))
low_made m s is = m.gives (Alu And) _ _ (byte_made m 0 (omega arith) s is) (m.constant 0xfe (omega arith)) tt

-- byte 0 of an even target
even_low : (a v : ℕ) → a - a % 2 ≡ v → byte_of 0 a / 2 * 2 ≡ byte_of 0 v
even_low a v e = omega arith

-- byte 1
even_one : (a v : ℕ) → a - a % 2 ≡ v → byte_of 1 a ≡ byte_of 1 v
even_one a v e = omega arith

-- byte 2
even_two : (a v : ℕ) → a - a % 2 ≡ v → byte_of 2 a ≡ byte_of 2 v
even_two a v e = omega arith

-- byte 3
even_three : (a v : ℕ) → a - a % 2 ≡ v → byte_of 3 a ≡ byte_of 3 v
even_three a v e = omega arith

-- an even target by its bytes
even_from : (a v : ℕ) → a < 2 ^ 32 → v < 2 ^ 32 → v % 2 ≡ 0 → byte_of 0 a / 2 * 2 ≡ byte_of 0 v → byte_of 1 a ≡ byte_of 1 v → byte_of 2 a ≡ byte_of 2 v → byte_of 3 a ≡ byte_of 3 v → a - a % 2 ≡ v
even_from a v h k e p q r s = omega arith

-- byte 0 of a number is a made constant
low_bound : {made : Making} {IsMade : Tree → Type 0} → IsMaker made IsMade → (v : ℕ) → IsMade (Const (byte_of 0 v))
low_bound m v = m.constant (byte_of 0 v) (omega (arith, byte_below 0 v))

-- the conditions of a target that is not peeled hold where the sum has it
target_bytes_hold : {made : Making} {IsMade : Tree → Type 0} → IsMaker made IsMade → (y : List ℕ) → AreBytes y → (s : Tree) (v : ℕ) → IsMade s → val s y - val s y % 2 ≡ v → Hold (target_bytes made s v) y
target_bytes_hold m y bs s v is e =
    hold_four y _ _ _ _ (eq_holds m y bs _ _ (low_made m s is) (low_bound m v) (low_value m y bs s is ∙ even_low _ v e))
    (is_holds m y bs 1 (omega arith) s v is (even_one _ v e)) (is_holds m y bs 2 (omega arith) s v is (even_two _ v e)) (is_holds m y bs 3 (omega arith) s v is (even_three _ v e))

-- and the converse
target_bytes_give : {made : Making} {IsMade : Tree → Type 0} → IsMaker made IsMade → (y : List ℕ) → AreBytes y → (s : Tree) (v : ℕ) → IsMade s → v < 2 ^ 32 → v % 2 ≡ 0 → Hold (target_bytes made s v) y → val s y - val s y % 2 ≡ v
target_bytes_give m y bs s v is lt ev h =
    even_from (val s y) v (m.words s y is bs) lt ev
    (sym (low_value m y bs s is) ∙ eq_gives m y bs _ _ (low_made m s is) (low_bound m v) (h 0 s (omega arith)))
    (is_gives m y bs 1 (omega arith) s v is (h 1 s (omega arith))) (is_gives m y bs 2 (omega arith) s v is (h 2 s (omega arith))) (is_gives m y bs 3 (omega arith) s v is (h 3 s (omega arith)))

-- either list holds, by a test
pub hold_if : (y : List ℕ) (b : Bool) (ts us : List Tree) → (b ≡ true → Hold ts y) → (b ≡ false → Hold us y) → Hold (if b then ts else us) y
hold_if y true ts us f g = f refl
hold_if y false ts us f g = g refl

-- what follows of either list that holds
pub if_held : (y : List ℕ) (b : Bool) (ts us : List Tree) (P : Type 0) → (b ≡ true → Hold ts y → P) → (b ≡ false → Hold us y → P) → Hold (if b then ts else us) y → P
if_held y true ts us P f g h = f refl h
if_held y false ts us P f g h = g refl h

-- a target condition holds where the sum has the target
pub target_holds : {made : Making} {IsMade : Tree → Type 0} → IsMaker made IsMade → (y : List ℕ) → AreBytes y → (s : Tree) (v : ℕ) → IsMade s → val s y - val s y % 2 ≡ v → Hold (target made s v) y
target_holds {made} m y bs (Apply (Alu Add) t (Const c)) v is e =
    hold_if y (c % 2 == 0) (target made t (difference v c)) (target_bytes made (Apply (Alu Add) t (Const c)) v)
    (λ ev. target_holds m y bs t (difference v c) (m.first _ _ _ is)
    (even_off (val t y) c v (m.words t y (m.first _ _ _ is) bs) (m.words (Const c) y (m.second _ _ _ is) bs) (eqb-true (c % 2) 0 ev) e))
    (λ odd. target_bytes_hold m y bs (Apply (Alu Add) t (Const c)) v is e)
target_holds m y bs s v is e = target_bytes_hold m y bs s v is e

-- and the converse
pub target_gives : {made : Making} {IsMade : Tree → Type 0} → IsMaker made IsMade → (y : List ℕ) → AreBytes y → (s : Tree) (v : ℕ) → IsMade s → v < 2 ^ 32 → v % 2 ≡ 0 → Hold (target made s v) y → val s y - val s y % 2 ≡ v
target_gives {made} m y bs (Apply (Alu Add) t (Const c)) v is lt even h =
    if_held y (c % 2 == 0) (target made t (difference v c)) (target_bytes made (Apply (Alu Add) t (Const c)) v) (val (Apply (Alu Add) t (Const c)) y - val (Apply (Alu Add) t (Const c)) y % 2 ≡ v)
    (λ ev k.
    let f : c % 2 ≡ 0 = eqb-true (c % 2) 0 ev in
    let w : c < 2 ^ 32 = m.words (Const c) y (m.second _ _ _ is) bs in
    even_on (val t y) c v (m.words t y (m.first _ _ _ is) bs) w lt f
    (target_gives m y bs t (difference v c) (m.first _ _ _ is) (omega arith) (difference_even c v w f even) k))
    (λ odd k. target_bytes_give m y bs (Apply (Alu Add) t (Const c)) v is lt even k)
    h
target_gives m y bs s v is lt even h = target_bytes_give m y bs s v is lt even h

-- ---- branches

-- a test that is 1 is true
truth_true : (b : Bool) → from_bool b ≡ 1 → b ≡ true
truth_true true e = refl
truth_true false e = absurd (omega arith)

-- the condition that a truth is 0 holds where it is false
fails_hold : {made : Making} {IsMade : Tree → Type 0} → IsMaker made IsMade → (y : List ℕ) → AreBytes y → (t : Tree) (b : Bool) → IsMade t → val t y ≡ from_bool b → b ≡ false → Hold (fails made t) y
fails_hold m y bs t b it e f = hold_one y _ (eq_holds m y bs t (Const 0) it (m.constant 0 (omega arith)) (e ∙ ap from_bool f))

-- and the converse
fails_give : {made : Making} {IsMade : Tree → Type 0} → IsMaker made IsMade → (y : List ℕ) → AreBytes y → (t : Tree) (b : Bool) → IsMade t → val t y ≡ from_bool b → Hold (fails made t) y → b ≡ false
fails_give m y bs t b it e h = truth_bit b (sym e ∙ eq_gives m y bs t (Const 0) it (m.constant 0 (omega arith)) (h 0 t (omega arith)))

-- a truth term as a condition holds where it is true
true_hold : (y : List ℕ) (t : Tree) (b : Bool) → val t y ≡ from_bool b → b ≡ true → Hold (t ∷ []) y
true_hold y t b e f = hold_one y t (e ∙ ap from_bool f)

-- and the converse
true_give : (y : List ℕ) (t : Tree) (b : Bool) → val t y ≡ from_bool b → Hold (t ∷ []) y → b ≡ true
true_give y t b e h = truth_true b (sym e ∙ first_holds y t [] h)

-- the conditions of a branch hold where it has the outcome
pub outcome_holds : {made : Making} {IsMade : Tree → Type 0} → IsMaker made IsMade → (y : List ℕ) → AreBytes y → (c : Cond) (a b : Tree) (t : Bool) → IsMade a → IsMade b → taken c (val a y) (val b y) ≡ t → Hold (branch_conditions made c a b t) y
outcome_holds m y bs conds.Eq a b true ia ib e = equal_holds m y bs a b ia ib (eqb-true _ _ e)
outcome_holds m y bs conds.Eq a b false ia ib e = fails_hold m y bs _ _ (m.gives Eq a b ia ib tt) (m.keeps Eq a b y ia ib tt bs) e
outcome_holds m y bs conds.Ne a b true ia ib e = fails_hold m y bs _ _ (m.gives Eq a b ia ib tt) (m.keeps Eq a b y ia ib tt bs) (not-true _ e)
outcome_holds m y bs conds.Ne a b false ia ib e = equal_holds m y bs a b ia ib (eqb-true _ _ (not-false _ e))
outcome_holds {made} m y bs conds.Lt a b true ia ib e = true_hold y (made (Alu Slt) a b) _ (m.keeps (Alu Slt) a b y ia ib tt bs) e
outcome_holds m y bs conds.Lt a b false ia ib e = fails_hold m y bs _ _ (m.gives (Alu Slt) a b ia ib tt) (m.keeps (Alu Slt) a b y ia ib tt bs) e
outcome_holds m y bs conds.Ge a b true ia ib e = fails_hold m y bs _ _ (m.gives (Alu Slt) a b ia ib tt) (m.keeps (Alu Slt) a b y ia ib tt bs) (not-true _ e)
outcome_holds {made} m y bs conds.Ge a b false ia ib e = true_hold y (made (Alu Slt) a b) _ (m.keeps (Alu Slt) a b y ia ib tt bs) (not-false _ e)
outcome_holds {made} m y bs conds.Ltu a b true ia ib e = true_hold y (made (Alu Sltu) a b) _ (m.keeps (Alu Sltu) a b y ia ib tt bs) e
outcome_holds m y bs conds.Ltu a b false ia ib e = fails_hold m y bs _ _ (m.gives (Alu Sltu) a b ia ib tt) (m.keeps (Alu Sltu) a b y ia ib tt bs) e
outcome_holds m y bs conds.Geu a b true ia ib e = fails_hold m y bs _ _ (m.gives (Alu Sltu) a b ia ib tt) (m.keeps (Alu Sltu) a b y ia ib tt bs) (not-true _ e)
outcome_holds {made} m y bs conds.Geu a b false ia ib e = true_hold y (made (Alu Sltu) a b) _ (m.keeps (Alu Sltu) a b y ia ib tt bs) (not-false _ e)

-- and the converse
pub outcome_gives : {made : Making} {IsMade : Tree → Type 0} → IsMaker made IsMade → (y : List ℕ) → AreBytes y → (c : Cond) (a b : Tree) (t : Bool) → IsMade a → IsMade b → Hold (branch_conditions made c a b t) y → taken c (val a y) (val b y) ≡ t
outcome_gives m y bs conds.Eq a b true ia ib h = eq-eqb _ _ (equal_gives m y bs a b ia ib h)
outcome_gives m y bs conds.Eq a b false ia ib h = fails_give m y bs _ _ (m.gives Eq a b ia ib tt) (m.keeps Eq a b y ia ib tt bs) h
outcome_gives m y bs conds.Ne a b true ia ib h = ap not (fails_give m y bs _ _ (m.gives Eq a b ia ib tt) (m.keeps Eq a b y ia ib tt bs) h)
outcome_gives m y bs conds.Ne a b false ia ib h = ap not (eq-eqb _ _ (equal_gives m y bs a b ia ib h))
outcome_gives {made} m y bs conds.Lt a b true ia ib h = true_give y (made (Alu Slt) a b) _ (m.keeps (Alu Slt) a b y ia ib tt bs) h
outcome_gives m y bs conds.Lt a b false ia ib h = fails_give m y bs _ _ (m.gives (Alu Slt) a b ia ib tt) (m.keeps (Alu Slt) a b y ia ib tt bs) h
outcome_gives m y bs conds.Ge a b true ia ib h = ap not (fails_give m y bs _ _ (m.gives (Alu Slt) a b ia ib tt) (m.keeps (Alu Slt) a b y ia ib tt bs) h)
outcome_gives {made} m y bs conds.Ge a b false ia ib h = ap not (true_give y (made (Alu Slt) a b) _ (m.keeps (Alu Slt) a b y ia ib tt bs) h)
outcome_gives {made} m y bs conds.Ltu a b true ia ib h = true_give y (made (Alu Sltu) a b) _ (m.keeps (Alu Sltu) a b y ia ib tt bs) h
outcome_gives m y bs conds.Ltu a b false ia ib h = fails_give m y bs _ _ (m.gives (Alu Sltu) a b ia ib tt) (m.keeps (Alu Sltu) a b y ia ib tt bs) h
outcome_gives m y bs conds.Geu a b true ia ib h = ap not (fails_give m y bs _ _ (m.gives (Alu Sltu) a b ia ib tt) (m.keeps (Alu Sltu) a b y ia ib tt bs) h)
outcome_gives {made} m y bs conds.Geu a b false ia ib h = ap not (true_give y (made (Alu Sltu) a b) _ (m.keeps (Alu Sltu) a b y ia ib tt bs) h)
