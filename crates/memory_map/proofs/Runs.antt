-- Ranges of addresses, tested a part at a time.
use Rattle.std.proofs.Common.{◌≡◌, ℕ, zero, suc, ◌+◌, ◌-◌, ◌%◌, ◌^◌, ◌<◌, ◌≤◌, List, Option, Some, None, Ok, true, false, cond, ◌*◌, length, drop, get_or, refl, sym, ap, ◌∙◌, subst, arith}
use Rattle.std.proofs.lemmas.List.{length-drop, get_or-drop}
use Rattle.std.specs.FinMap.{get}
use Rattle.memory_map.specs.Part.{Part}
use Rattle.memory_map.specs.Cells.{Map, can, byte_at, byte_of_cell, half_at, word_at, ok_unless, next_address, first_without}
use Rattle.memory_map.specs.Layout.{contains, allows, end_of, CanFrom, IsPartAt, IsRun}
use Rattle.memory_map.proofs.Places.{held}

plus_zero : (a : ℕ) → a + 0 ≡ a
plus_zero a = omega arith

shifted : (a x i k : ℕ) → i < k → a + suc k ≤ 2 ^ 32 → x ≡ (a + 1) % 2 ^ 32 → a + suc i ≡ x + i
shifted a x i k l within is = omega arith

two_equal : (r : ℕ) (m : Map) (a b n j : ℕ) → a ≡ b → n ≡ j → first_without r m a n ≡ first_without r m b j
two_equal r m a b n j e f = (λ i. first_without r m (e i) (f i))

next_can : (r : ℕ) (m : Map) (a x k : ℕ) → CanFrom r m a (suc k) → a + suc k ≤ 2 ^ 32 → x ≡ (a + 1) % 2 ^ 32 → CanFrom r m x k
next_can r m a x k h within is = λ i l. subst (λ y. can r (get m y) ≡ true) (shifted a x i k l within is) (h (suc i) (omega arith))

-- past addresses that have the right
pub without_skips : (k n j a b r : ℕ) (m : Map) → CanFrom r m a k → n ≡ k + j → a < 2 ^ 32 → a + k ≤ 2 ^ 32 → b ≡ (a + k) % 2 ^ 32 → first_without r m a n ≡ first_without r m b j
unfolding first_without
without_skips zero n j a b r m h e fits within is = two_equal r m a b n j (omega arith) (omega arith)
without_skips (suc k) zero j a b r m h e fits within is = absurd (omega arith)
without_skips (suc k) (suc n) j a b r m h e fits within is =
    ap (λ t. cond t (first_without r m ((a + 1) % 2 ^ 32) n) (Some a)) (subst (λ y. can r (get m y) ≡ true) (plus_zero a) (h 0 (omega arith)))
    ∙ without_skips k n j ((a + 1) % 2 ^ 32) b r m (next_can r m a _ k h within refl) (omega arith) (omega arith) (omega arith) (omega arith)

pub without_end : (a r n : ℕ) (m : Map) → n ≡ 0 → first_without r m a n ≡ None
unfolding first_without
without_end a r n m e = ap (first_without r m a) e

pub without_here : (a r n : ℕ) (m : Map) → 0 < n → can r (get m a) ≡ false → first_without r m a n ≡ Some a
unfolding first_without
without_here a r zero m l h = absurd (omega arith)
without_here a r (suc n) m l h = ap (λ t. cond t (first_without r m ((a + 1) % 2 ^ 32) n) (Some a)) h

pub held_more : (p : Part) (a i k : ℕ) → contains p a ≡ true → i < k → a + k ≤ end_of p → contains p (a + i) ≡ true
held_more p a i k h l within = grind arith

-- the part that holds an address has a right
pub part_can : (m : Map) (a r k : ℕ) (p : Part) → IsPartAt (get m) a p → allows p.rights r ≡ true → a + k ≤ end_of p → CanFrom r m a k
part_can m a r k p at may within = λ i l. ap (can r) (at.found (a + i) (held_more p a i k at.here l within)) ∙ may

pub part_cannot : (m : Map) (a r : ℕ) (p : Part) → IsPartAt (get m) a p → allows p.rights r ≡ false → can r (get m a) ≡ false
part_cannot m a r p at may = ap (can r) (at.found a at.here) ∙ may

offset : (p : Part) (a i : ℕ) → p.base ≤ a → (a + i) - p.base ≡ (a - p.base) + i
offset p a i h = omega arith

rest_byte : (m : Map) (a i : ℕ) (p : Part) → IsPartAt (get m) a p → i < length (drop (a - p.base) p.bytes) → byte_at m (a + i) ≡ get_or (drop (a - p.base) p.bytes) i 0
rest_byte m a i p at l =
    let len = length-drop (a - p.base) p.bytes in
    let b = held p a at.here in
    ap byte_of_cell (at.found (a + i) (held_more p a i (suc i) at.here (omega arith) (omega (arith, len, b.0, b.1))))
    ∙ ap (λ k. get_or p.bytes k 0) (offset p a i b.0)
    ∙ sym (get_or-drop (a - p.base) p.bytes i 0)

-- the rest of a part that has a right
pub run_of_part : (m : Map) (a r : ℕ) (p : Part) → IsPartAt (get m) a p → allows p.rights r ≡ true → IsRun r m a (drop (a - p.base) p.bytes)
run_of_part m a r p at may =
    let len = length-drop (a - p.base) p.bytes in
    let b = held p a at.here in
    record {
      allowed = part_can m a r (length (drop (a - p.base) p.bytes)) p at may (omega (arith, len, b.0, b.1));
      byte = λ i l. rest_byte m a i p at l;
      lacks = λ e. absurd (omega (arith, e, len, b.0, b.1));
      within = omega (arith, len, b.0, b.1, at.within);
    }

-- a range of addresses below the end that all have a right
pub range_can : (n r a : ℕ) (m : Map) → CanFrom r m a n → a < 2 ^ 32 → a + n ≤ 2 ^ 32 → first_without r m a n ≡ None
range_can n r a m may fits within = without_skips n n 0 a ((a + n) % 2 ^ 32) r m may (omega arith) fits within refl ∙ without_end _ _ 0 _ refl

-- addresses within a run have its right
pub run_can : (n r a : ℕ) (m : Map) (bs : List ℕ) → IsRun r m a bs → n ≤ length bs → a < 2 ^ 32 → first_without r m a n ≡ None
run_can n r a m bs run l fits = range_can n r a m (λ i h. run.allowed i (omega arith)) fits (omega (arith, run.within))

run_byte : (i q r a : ℕ) (m : Map) (bs : List ℕ) → IsRun r m a bs → i < length bs → q ≡ a + i → byte_at m q ≡ get_or bs i 0
run_byte i q r a m bs run l e = ap (byte_at m) e ∙ run.byte i l

-- the half word at the head of a run
pub run_half : (r a : ℕ) (m : Map) (bs : List ℕ) → IsRun r m a bs → 2 ≤ length bs → half_at m a ≡ get_or bs 0 0 + 256 * get_or bs 1 0
run_half r a m bs run l =
    let w = run.within in
    let b0 = run_byte 0 a r a m bs run (omega arith) (omega arith) in
    let b1 = run_byte 1 (next_address a) r a m bs run (omega arith) (omega arith) in
    (λ i. b0 i + 256 * b1 i)

-- the word at the head of a run
pub run_word : (r a : ℕ) (m : Map) (bs : List ℕ) → IsRun r m a bs → 4 ≤ length bs → word_at m a ≡ get_or bs 0 0 + 256 * get_or bs 1 0 + 65536 * get_or bs 2 0 + 16777216 * get_or bs 3 0
run_word r a m bs run l =
    let w = run.within in
    let b0 = run_byte 0 a r a m bs run (omega arith) (omega arith) in
    let b1 = run_byte 1 (next_address a) r a m bs run (omega arith) (omega arith) in
    let b2 = run_byte 2 (next_address (next_address a)) r a m bs run (omega arith) (omega arith) in
    let b3 = run_byte 3 (next_address (next_address (next_address a))) r a m bs run (omega arith) (omega arith) in
    (λ i. b0 i + 256 * b1 i + 65536 * b2 i + 16777216 * b3 i)

pub answered : {A : Type 0} (o : Option ℕ) (x v : A) → o ≡ None → x ≡ v → Ok x ≡ ok_unless o v
answered o x v h e = ap Ok e ∙ ap (λ q. ok_unless q v) (sym h)

-- the answers of a half word and of a word at the head of a run
pub half_in : (r a x : ℕ) (m : Map) (bs : List ℕ) → IsRun r m a bs → 2 ≤ length bs → a < 2 ^ 32 → x ≡ get_or bs 0 0 + get_or bs 1 0 * 256 → Ok x ≡ ok_unless (first_without r m a 2) (half_at m a)
half_in r a x m bs run l fits is = answered _ x (half_at m a) (run_can 2 r a m bs run l fits) (is ∙ omega (arith, run_half r a m bs run l))

pub word_in : (r a x : ℕ) (m : Map) (bs : List ℕ) → IsRun r m a bs → 4 ≤ length bs → a < 2 ^ 32 → x ≡ get_or bs 0 0 + get_or bs 1 0 * 256 + get_or bs 2 0 * 65536 + get_or bs 3 0 * 16777216 → Ok x ≡ ok_unless (first_without r m a 4) (word_at m a)
word_in r a x m bs run l fits is = answered _ x (word_at m a) (run_can 4 r a m bs run l fits) (is ∙ omega (arith, run_word r a m bs run l))
