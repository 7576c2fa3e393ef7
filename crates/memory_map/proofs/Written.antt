-- A write in the part that holds an address.
use Rattle.std.proofs.Common.{◌≡◌, ℕ, zero, suc, ◌+◌, ◌-◌, ◌<◌, ◌≤◌, ◌^◌, List, [], ◌∷◌, ◌++◌, Option, Some, length, get_or, set, take, drop, Bool, true, false, cond, nat_le, nat_lt, ◌&&◌, inl, inr, refl, sym, ap, ◌∙◌, subst, arith, All, length-append}
use Rattle.std.proofs.lemmas.Bool.{cases_lt}
use Rattle.std.proofs.lemmas.List.{length-take, length-drop, get_or-take, get_or-drop, get_or_append_left, get_or-append_right}
use Rattle.memory_map.specs.Part.{Part}
use Rattle.memory_map.specs.Cells.{Cell, can, write}
use Rattle.memory_map.specs.Heaps.{is_in_span}
use Rattle.memory_map.specs.Layout.{contains, allows, cell_in, cell_with, cell_after, first_cell, end_of, overwritten, Overwrites}
use Rattle.memory_map.proofs.Places.{Ascending, held, off_the_stack, chosen, first_cell_cons, ascending_tail, found_at}

-- a list with another from an offset up
abbrev pasted : List ℕ → ℕ → List ℕ → List ℕ
pasted xs o bs = take o xs ++ (bs ++ drop (o + length bs) xs)

pub pasted_length : (xs bs : List ℕ) (o : ℕ) → o + length bs ≤ length xs → length (pasted xs o bs) ≡ length xs
pasted_length xs bs o h =
    omega (arith, length-append (take o xs) (bs ++ drop (o + length bs) xs), length-append bs (drop (o + length bs) xs), length-take o xs, length-drop (o + length bs) xs)

taken : (xs : List ℕ) (o : ℕ) → o ≤ length xs → length (take o xs) ≡ o
taken xs o h = omega (arith, length-take o xs)

among_offset : (o k n : ℕ) → k < o → is_in_span o n k ≡ false
among_offset o k n h = grind arith

among_past : (o k n : ℕ) → o + n ≤ k → is_in_span o n k ≡ false
among_past o k n h = grind arith

among_here : (o k n : ℕ) → o ≤ k → k < o + n → is_in_span o n k ≡ true
among_here o k n h l = grind arith

past_index : (o k n : ℕ) → o + n ≤ k → o + n + (k - o - n) ≡ k
past_index o k n h = omega arith

pasted_byte : (xs bs : List ℕ) (o k : ℕ) → o + length bs ≤ length xs → get_or (pasted xs o bs) k 0 ≡ cond (is_in_span o (length bs) k) (get_or bs (k - o) 0) (get_or xs k 0)
pasted_byte xs bs o k h =
    let tail : List ℕ = bs ++ drop (o + length bs) xs in
    let front = taken xs o (omega arith) in
    elim (cases_lt k o) as (λ _. get_or (take o xs ++ tail) k 0 ≡ cond (is_in_span o (length bs) k) (get_or bs (k - o) 0) (get_or xs k 0)) [
      | inl below ↦
          get_or_append_left (take o xs) tail 0 k (omega (arith, front)) ∙ get_or-take o xs k 0 below
          ∙ sym (ap (λ t. cond t (get_or bs (k - o) 0) (get_or xs k 0)) (among_offset o k (length bs) below))
      | inr above ↦ get_or-append_right (take o xs) tail o k 0 front above ∙ (elim (cases_lt k (o + length bs)) as (λ _. get_or tail (k - o) 0 ≡ cond (is_in_span o (length bs) k) (get_or bs (k - o) 0) (get_or xs k 0)) [
        | inl inside ↦
            get_or_append_left bs (drop (o + length bs) xs) 0 (k - o) (omega arith)
            ∙ sym (ap (λ t. cond t (get_or bs (k - o) 0) (get_or xs k 0)) (among_here o k (length bs) above inside))
        | inr past ↦
            get_or-append_right bs (drop (o + length bs) xs) (length bs) (k - o) 0 refl (omega arith)
            ∙ get_or-drop (o + length bs) xs (k - o - length bs) 0
            ∙ ap (λ j. get_or xs j 0) (past_index o k (length bs) past)
            ∙ sym (ap (λ t. cond t (get_or bs (k - o) 0) (get_or xs k 0)) (among_past o k (length bs) past))
      ])
    ]

same_among : (base a n q : ℕ) → base ≤ a → base ≤ q → is_in_span (a - base) n (q - base) ≡ is_in_span a n q
same_among base a n q h l = grind arith

same_offset : (base a q : ℕ) → base ≤ a → (q - base) - (a - base) ≡ q - a
same_offset base a q h = omega arith

-- the cells of a part after a write
abbrev changed : Part → ℕ → List ℕ → ℕ → Cell
changed p a bs q = cond (is_in_span a (length bs) q) (record { byte = get_or bs (q - a) 0; rights = p.rights }) (cell_in p q)

abbrev cell : ℕ → ℕ → Cell
cell b r = record { byte = b; rights = r }

by_test : (t : Bool) (b c r : ℕ) → cell (cond t b c) r ≡ cond t (cell b r) (cell c r)
by_test true b c r = refl
by_test false b c r = refl

cell_changed : (p : Part) (a q : ℕ) (bs : List ℕ) → p.base ≤ a → p.base ≤ q → a + length bs ≤ end_of p → cell_in (overwritten p a bs) q ≡ changed p a bs q
cell_changed p a q bs low here high =
    ap (λ b. cell b p.rights) (pasted_byte p.bytes bs (a - p.base) (q - p.base) (omega arith)
    ∙ (λ i. cond (same_among p.base a (length bs) q low here i) (get_or bs (same_offset p.base a q low i) 0) (get_or p.bytes (q - p.base) 0)))
    ∙ by_test (is_in_span a (length bs) q) (get_or bs (q - a) 0) (get_or p.bytes (q - p.base) 0) p.rights

holds_same : (p : Part) (a q : ℕ) (bs : List ℕ) → p.base ≤ a → a + length bs ≤ end_of p → contains (overwritten p a bs) q ≡ contains p q
holds_same p a q bs low high = ap (λ n. nat_le p.base q && nat_lt (q - p.base) n) (pasted_length p.bytes bs (a - p.base) (omega arith))

merged : (t h : Bool) (b : ℕ) (c : Cell) (rest : Option Cell) → (t ≡ true → h ≡ true) → chosen h (cond t (cell b c.rights) c) rest ≡ cond t (cell_with b (chosen h c rest)) (chosen h c rest)
merged true true b c rest h = refl
merged true false b c rest h = (let e = h refl in cc)
merged false h b c rest l = refl

among_held : (p : Part) (a n q : ℕ) → p.base ≤ a → a + n ≤ end_of p → is_in_span a n q ≡ true → contains p q ≡ true
among_held p a n q low high e = grind arith

off_part : (h : Bool) (c d : Cell) (rest : Option Cell) → (h ≡ true → c ≡ d) → chosen h c rest ≡ chosen h d rest
off_part true c d rest e = ap Some (e refl)
off_part false c d rest e = refl

-- what a look-up finds first, after a write in the first part
written_here : (p : Part) (a q : ℕ) (bs : List ℕ) (rest : Option Cell) → p.base ≤ a → a + length bs ≤ end_of p → chosen (contains (overwritten p a bs) q) (cell_in (overwritten p a bs) q) rest ≡ cell_after a bs q (chosen (contains p q) (cell_in p q) rest)
written_here p a q bs rest low high =
    ap (λ t. chosen t (cell_in (overwritten p a bs) q) rest) (holds_same p a q bs low high)
    ∙ off_part (contains p q) (cell_in (overwritten p a bs) q) (changed p a bs q) rest (λ e. cell_changed p a q bs low (held p q e).0 high)
    ∙ merged (is_in_span a (length bs) q) (contains p q) (get_or bs (q - a) 0) (cell_in p q) rest (among_held p a (length bs) q low high)

-- the first part of a list
pub written_first : (p : Part) (ps : List Part) (a q : ℕ) (bs : List ℕ) → p.base ≤ a → a + length bs ≤ end_of p → first_cell (overwritten p a bs ∷ ps) q ≡ cell_after a bs q (first_cell (p ∷ ps) q)
written_first p ps a q bs low high =
    first_cell_cons (overwritten p a bs) ps q
    ∙ written_here p a q bs (first_cell ps q) low high
    ∙ ap (cell_after a bs q) (sym (first_cell_cons p ps q))

passed : (t h : Bool) (b : ℕ) (c : Cell) (o : Option Cell) → (t ≡ true → h ≡ false) → chosen h c (cond t (cell_with b o) o) ≡ cond t (cell_with b (chosen h c o)) (chosen h c o)
passed true true b c o h = (let e = h refl in cc)
passed true false b c o h = refl
passed false h b c o l = refl

past_part : (x : Part) (ps qs : List Part) (a q : ℕ) (bs : List ℕ) → (is_in_span a (length bs) q ≡ true → contains x q ≡ false) → first_cell qs q ≡ cell_after a bs q (first_cell ps q) → first_cell (x ∷ qs) q ≡ cell_after a bs q (first_cell (x ∷ ps) q)
past_part x ps qs a q bs off e =
    first_cell_cons x qs q
    ∙ ap (chosen (contains x q) (cell_in x q)) e
    ∙ passed (is_in_span a (length bs) q) (contains x q) (get_or bs (q - a) 0) (cell_in x q) (first_cell ps q) off
    ∙ ap (cell_after a bs q) (sym (first_cell_cons x ps q))

among_above : (x : Part) (a n q : ℕ) → end_of x ≤ a → is_in_span a n q ≡ true → contains x q ≡ false
among_above x a n q h e = grind arith

-- the part at a place
pub written_at : (ps : List Part) (a i q : ℕ) (bs : List ℕ) (p : Part) → Ascending ps → i < length ps → p ≡ get_or ps i p → p.base ≤ a → a + length bs ≤ end_of p → first_cell (set ps i (overwritten p a bs)) q ≡ cell_after a bs q (first_cell ps q)
written_at [] a i q bs p up within at low high = absurd (omega arith)
written_at (x ∷ ps) a zero q bs p up within at low high =
    written_first p ps a q bs low high ∙ ap (λ y. cell_after a bs q (first_cell (y ∷ ps) q)) at
written_at (x ∷ ps) a (suc i) q bs p up within at low high =
    let apart : end_of x ≤ (get_or ps i p).base = up 0 (suc i) p (omega arith) within in
    let base : p.base ≡ (get_or ps i p).base = ap (λ y. y.base) at in
    past_part x ps (set ps i (overwritten p a bs)) a q bs (among_above x a (length bs) q (omega arith))
    (written_at ps a i q bs p (ascending_tail x ps up) (omega arith) at low high)

pub found_can : (ps : List Part) (a i r : ℕ) (p : Part) → Ascending ps → i < length ps → p ≡ get_or ps i p → contains p a ≡ true → can r (first_cell ps a) ≡ allows p.rights r
found_can ps a i r p up within at here = ap (can r) (found_at ps a i p up within at here)

still_held : (p : Part) (a i n : ℕ) → p.base ≤ a → a + n ≤ end_of p → i < n → contains p (a + i) ≡ true
still_held p a i n low high l = grind arith

-- a write at a place
pub overwrites_at : (ps : List Part) (a i : ℕ) (bs : List ℕ) (p : Part) → Ascending ps → i < length ps → p ≡ get_or ps i p → p.base ≤ a → a + length bs ≤ end_of p → end_of p ≤ 2 ^ 32 → allows p.rights write ≡ true → Overwrites (first_cell ps) (first_cell (set ps i (overwritten p a bs))) a bs
overwrites_at ps a i bs p up within at low high below may = record {
  allowed = λ k l. found_can ps (a + k) i write p up within at (still_held p a k (length bs) low high l) ∙ may;
  cells = λ q. written_at ps a i q bs p up within at low high;
  within = omega arith;
}

pub first_can : (p : Part) (ps : List Part) (a r : ℕ) → contains p a ≡ true → can r (first_cell (p ∷ ps) a) ≡ allows p.rights r
first_can p ps a r here = ap (can r) (first_cell_cons p ps a ∙ ap (λ t. chosen t (cell_in p a) (first_cell ps a)) here)

-- a write in the first part
pub overwrites_first : (p : Part) (ps : List Part) (a : ℕ) (bs : List ℕ) → p.base ≤ a → a + length bs ≤ end_of p → end_of p ≤ 2 ^ 32 → allows p.rights write ≡ true → Overwrites (first_cell (p ∷ ps)) (first_cell (overwritten p a bs ∷ ps)) a bs
overwrites_first p ps a bs low high below may = record {
  allowed = λ k l. first_can p ps (a + k) write (still_held p a k (length bs) low high l) ∙ may;
  cells = λ q. written_first p ps a q bs low high;
  within = omega arith;
}

pub past_stack : (stack : Part) (ps : List Part) (a : ℕ) → contains stack a ≡ false → first_cell (stack ∷ ps) a ≡ first_cell ps a
past_stack stack ps a h = first_cell_cons stack ps a ∙ ap (λ t. chosen t (cell_in stack a) (first_cell ps a)) h

abbrev IsOff : Part → Part → Type 0
IsOff stack p = p.base < end_of stack → end_of p ≤ stack.base

off_step : (stack x : Part) (ps : List Part) (q r : ℕ) → IsOff stack x → (can r (first_cell ps q) ≡ true → contains stack q ≡ false) → can r (first_cell (x ∷ ps) q) ≡ true → (t : Bool) → contains x q ≡ t → contains stack q ≡ false
off_step stack x ps q r off rest e true h = (let b = held x q h in off_the_stack stack x q off b.0 b.1)
off_step stack x ps q r off rest e false h = rest (sym (ap (can r) (past_stack x ps q h)) ∙ e)

-- an address where another part has a cell is not on the stack
off_found : (stack : Part) (ps : List Part) (q r : ℕ) → All (IsOff stack) ps → can r (first_cell ps q) ≡ true → contains stack q ≡ false
off_found stack [] q r off e = cc
off_found stack (x ∷ ps) q r off e =
    off_step stack x ps q r (off 0 x (omega arith)) (off_found stack ps q r (λ k d l. off (suc k) d (omega arith))) e (contains x q) refl

among_place : (a n q : ℕ) → is_in_span a n q ≡ true → (a + (q - a) ≡ q) × (q - a < n)
among_place a n q e = grind arith

-- a write past the stack
pub overwrites_past : (stack : Part) (ps qs : List Part) (a : ℕ) (bs : List ℕ) → All (λ p. p.base < end_of stack → end_of p ≤ stack.base) ps → Overwrites (first_cell ps) (first_cell qs) a bs → Overwrites (first_cell (stack ∷ ps)) (first_cell (stack ∷ qs)) a bs
overwrites_past stack ps qs a bs off w = record {
  allowed = λ k l. ap (can write) (past_stack stack ps (a + k) (off_found stack ps (a + k) write off (w.allowed k l))) ∙ w.allowed k l;
  cells = λ q. past_part stack ps qs a q bs (λ e. (let p = among_place a (length bs) q e in off_found stack ps q write off (subst (λ y. can write (first_cell ps y) ≡ true) p.0 (w.allowed (q - a) p.1)))) (w.cells q);
  within = w.within;
}
