-- Memory at the start of a program, address by address.
use Rattle.std.proofs.Common.{◌≡◌, ℕ, ◌+◌, ◌-◌, ◌<◌, ◌≤◌, ◌^◌, List, [], ◌∷◌, ◌++◌, length, get_or, map, replicate, true, false, cond, nat_lt, Some, None, refl, sym, ap, ◌∙◌, arith, inl, inr}
use Rattle.std.proofs.lemmas.Bool.{cases_lt, cases_Bool, lt-ltb, le-ltb}
use Rattle.std.proofs.lemmas.List.{get_or-map, length-map, get_or_append_left, get_or-append_right, get_or-replicate, length-replicate}
use Rattle.std.specs.FinMap.{get}
use Rattle.elf32.specs.declared.segments.Segment.{Segment}
use Rattle.memory_map.specs.Part.{Part}
use Rattle.memory_map.specs.Cells.{Cell, cells_from, stack_cells, start_map}
use Rattle.memory_map.specs.Layout.{contains, cell_in, first_cell, end_of, part_of, IsLaidOut, IsHeldAt}
use Rattle.memory_map.proofs.Places.{held, none_found, first_cell_cons, part_of_others, chosen}
use Rattle.memory_map.proofs.Maps.{get_map, start_is}
use Rattle.memory_map.proofs.Starts.{laid_out_start, filled_size}
use Rattle.memory_laws.specs.Starts.{AreLoaded, IsIn, IsOnStack, segment_cell, stack_cell}

-- a part that is the stack
record IsStack (stack : Part) : Type 0 where
  base : stack.base ≡ 0x7ff00000
  size : length stack.bytes ≡ 0x100000
  zeros : (i : ℕ) → i < 0x100000 → get_or stack.bytes i 0 ≡ 0
  rights : stack.rights ≡ 6
  cells : cells_from stack.base stack.rights stack.bytes ≡ stack_cells

start_cell : (stack : Part) (ss : List Segment) (q : ℕ) → IsStack stack → get (start_map ss) q ≡ first_cell (stack ∷ map part_of ss) q
start_cell stack ss q is = ap (λ m. get m q) (sym (start_is stack ss is.cells)) ∙ get_map (stack ∷ map part_of ss) q

laid_out : (stack : Part) (ss : List Segment) → IsStack stack → AreLoaded ss → IsLaidOut stack (map part_of ss)
laid_out stack ss is loaded = laid_out_start stack ss loaded.sized loaded.apart loaded.off_stack is.base is.size

held_from : (p : Part) (a : ℕ) → p.base ≤ a → a < end_of p → contains p a ≡ true
held_from p a h l = grind arith

-- ---- the stack

same_cell : (b r c s : ℕ) → b ≡ c → r ≡ s → (let x : Cell = record { byte = b; rights = r } in x) ≡ record { byte = c; rights = s }
same_cell b r c s e f = (λ i. record { byte = e i; rights = f i })

stack_here : (stack : Part) (a : ℕ) → IsStack stack → IsOnStack a → contains stack a ≡ true
stack_here stack a is on = held_from stack a (omega (arith, is.base, on.from)) (omega (arith, is.base, is.size, on.below))

on_stack : (stack : Part) (ss : List Segment) (a : ℕ) → IsStack stack → IsOnStack a → get (start_map ss) a ≡ Some stack_cell
on_stack stack ss a is on =
    start_cell stack ss a is
    ∙ first_cell_cons stack (map part_of ss) a
    ∙ ap (λ t. chosen t (cell_in stack a) (first_cell (map part_of ss) a)) (stack_here stack a is on)
    ∙ ap Some (same_cell _ _ _ _ (is.zeros (a - stack.base) (omega (arith, is.base, on.from, on.below))) is.rights)

-- ---- segments

byte_filled : (bs : List ℕ) (k n : ℕ) → k < length bs + n → get_or (bs ++ replicate n 0) k 0 ≡ cond (nat_lt k (length bs)) (get_or bs k 0) 0
byte_filled bs k n l = elim (cases_lt k (length bs)) as (λ _. get_or (bs ++ replicate n 0) k 0 ≡ cond (nat_lt k (length bs)) (get_or bs k 0) 0) [
  | inl inside ↦ get_or_append_left bs (replicate n 0) 0 k inside ∙ sym (ap (λ t. cond t (get_or bs k 0) 0) (lt-ltb k (length bs) inside))
  | inr past ↦
      get_or-append_right bs (replicate n 0) (length bs) k 0 refl past ∙ get_or-replicate n (k - length bs) 0 0 (omega arith)
      ∙ sym (ap (λ t. cond t (get_or bs k 0) 0) (le-ltb k (length bs) past))
]

cell_filled : (s : Segment) (a : ℕ) → length s.bytes ≤ s.size → IsIn s a → cell_in (part_of s) a ≡ segment_cell s a
cell_filled s a l on = same_cell _ _ _ _ (byte_filled s.bytes (a - s.base) (s.size - length s.bytes) (omega (arith, on.from, on.below))) refl

segment_here : (s : Segment) (a : ℕ) → length s.bytes ≤ s.size → IsIn s a → contains (part_of s) a ≡ true
segment_here s a l on = held_from (part_of s) a on.from (omega (arith, on.below, filled_size s l))

in_segment : (stack : Part) (ss : List Segment) (i a : ℕ) (d : Segment) → IsStack stack → AreLoaded ss → i < length ss → IsIn (get_or ss i d) a → get (start_map ss) a ≡ Some (segment_cell (get_or ss i d) a)
in_segment stack ss i a d is loaded l on =
    let s : Segment = get_or ss i d in
    let p : Part = part_of s in
    let fits : length s.bytes ≤ s.size = (loaded.sized i d l).held in
    let len : length (map part_of ss) ≡ length ss = length-map ss part_of in
    let at : (e : Part) → get_or (map part_of ss) i e ≡ p = λ e. get_or-map part_of ss i d e l in
    let here : contains p a ≡ true = segment_here s a fits on in
    let held_at : IsHeldAt (map part_of ss) a i = record { below = omega (arith, len); here = λ e. ap (λ (x : Part). contains x a) (at e) ∙ here } in
    let part = part_of_others stack (map part_of ss) a i p (laid_out stack ss is loaded) held_at (sym (at p)) in
    start_cell stack ss a is ∙ part.found a here ∙ ap Some (cell_filled s a fits on)

-- ---- elsewhere

in_range : (s : Segment) (a : ℕ) → length s.bytes ≤ s.size → contains (part_of s) a ≡ true → IsIn s a
in_range s a l h = (let b = held (part_of s) a h in record { from = b.0; below = omega (arith, b.1, filled_size s l) })

no_cell : (p : Part) (a : ℕ) → (contains p a ≡ true → ⊥) → contains p a ≡ false
no_cell p a h = elim (cases_Bool (contains p a)) [ inl holding ↦ absurd (h holding) | inr missing ↦ missing ]

elsewhere : (stack : Part) (ss : List Segment) (a : ℕ) → IsStack stack → AreLoaded ss → ((i : ℕ) (d : Segment) → i < length ss → IsIn (get_or ss i d) a → ⊥) → (IsOnStack a → ⊥) → get (start_map ss) a ≡ None
elsewhere stack ss a is loaded out off =
    let len : length (map part_of ss) ≡ length ss = length-map ss part_of in
    let off_stack : contains stack a ≡ false = no_cell stack a (λ h. (let b = held stack a h in off (record { from = omega (arith, b.0, is.base); below = omega (arith, b.1, is.base, is.size) }))) in
    start_cell stack ss a is
    ∙ first_cell_cons stack (map part_of ss) a
    ∙ ap (λ t. chosen t (cell_in stack a) (first_cell (map part_of ss) a)) off_stack
    ∙ none_found (map part_of ss) a (λ k e l.
    let d : Segment = record { base = 0; size = 0; rights = 0; bytes = [] } in
    let within : k < length ss = omega (arith, len) in
    ap (λ (x : Part). contains x a) (get_or-map part_of ss k d e within)
    ∙ no_cell (part_of (get_or ss k d)) a (λ h. out k d within (in_range (get_or ss k d) a (loaded.sized k d within).held h)))

-- no segment, and not the stack, has an address from 2 ^ 32 on
beyond : (stack : Part) (ss : List Segment) (a : ℕ) → IsStack stack → AreLoaded ss → 2 ^ 32 ≤ a → get (start_map ss) a ≡ None
beyond stack ss a is loaded far =
    elsewhere stack ss a is loaded (λ i d l on. omega (arith, on.below, (loaded.sized i d l).within)) (λ on. omega (arith, on.below))

-- ---- with the stack itself

stack_of : (n : ℕ) → Part
stack_of n = record { base = 0x7ff00000; rights = 6; bytes = replicate n 0; room = 0 }

stack_is : (n : ℕ) → n ≡ 0x100000 → cells_from 0x7ff00000 6 (replicate n 0) ≡ stack_cells → IsStack (stack_of n)
unfolding stack_of
stack_is n e cells = record {
  base = refl;
  size = length-replicate n 0 ∙ e;
  zeros = λ i l. get_or-replicate n i 0 0 (omega (arith, e));
  rights = refl;
  cells = cells;
}

some_stack : (n : ℕ) → n ≡ 0x100000 → cells_from 0x7ff00000 6 (replicate n 0) ≡ stack_cells → (stack : Part) × IsStack stack
some_stack n e cells = (stack_of n, stack_is n e cells)

the_stack : (stack : Part) × IsStack stack
unfolding stack_cells
the_stack = some_stack 0x100000 refl refl

pub on_stack_is : (ss : List Segment) (a : ℕ) → IsOnStack a → get (start_map ss) a ≡ Some stack_cell
on_stack_is ss a on = on_stack the_stack.0 ss a the_stack.1 on

pub in_segment_is : (ss : List Segment) (i a : ℕ) (d : Segment) → AreLoaded ss → i < length ss → IsIn (get_or ss i d) a → get (start_map ss) a ≡ Some (segment_cell (get_or ss i d) a)
in_segment_is ss i a d loaded l on = in_segment the_stack.0 ss i a d the_stack.1 loaded l on

pub elsewhere_is : (ss : List Segment) (a : ℕ) → AreLoaded ss → ((i : ℕ) (d : Segment) → i < length ss → IsIn (get_or ss i d) a → ⊥) → (IsOnStack a → ⊥) → get (start_map ss) a ≡ None
elsewhere_is ss a loaded out off = elsewhere the_stack.0 ss a the_stack.1 loaded out off

pub beyond_is : (ss : List Segment) (a : ℕ) → AreLoaded ss → 2 ^ 32 ≤ a → get (start_map ss) a ≡ None
beyond_is ss a loaded far = beyond the_stack.0 ss a the_stack.1 loaded far
