-- The heap's part, and the map after the break has moved.
use Rattle.std.proofs.Common.{◌≡◌, ℕ, zero, suc, ◌+◌, ◌-◌, ◌<◌, ◌≤◌, ◌==◌, ◌^◌, ◌&&◌, nat_le, nat_lt, List, [], ◌∷◌, ◌++◌, Option, Some, None, length, get_or, set, take, replicate, Bool, ◌≢◌, cond, true, false, inl, inr, refl, sym, ap, ◌∙◌, subst, arith, length-append, length-set}
use Rattle.std.proofs.lemmas.Grind.{common_steps}
use Rattle.std.proofs.lemmas.Bool.{cases_lt, cases_eq}
use Rattle.std.proofs.lemmas.List.{length-take, length-replicate, get_or-take, get_or_append_left, get_or-append_right, get_or-replicate, set-get_or, get_or-set_same, get_or-set_other}
use Rattle.std.specs.Cmp.{nat_cmp_total}
use Rattle.std.specs.FinMap.{get, insert, remove, get-insert, get-remove, same_map, nat_cmp-IsAntisymmetric}
use Rattle.memory_map.specs.Part.{Part}
use Rattle.memory_map.specs.Cells.{Map, Cell}
use Rattle.memory_map.specs.Heaps.{Space, heap_size, heap_cell, with_zeros, without_cells, with_break, may_break, after_break, is_in_span}
use Rattle.memory_map.specs.declared.heap.Heap.{Heap}
use Rattle.memory_map.specs.Layout.{map_of, contains, cell_in, first_cell, end_of, resized, IsLaidOut, IsHeapPart, IsHeap, HasHeap}
use Rattle.memory_map.proofs.Places.{chosen, first_cell_cons, none_found, not_held_below, not_held_above}
use Rattle.memory_map.proofs.Maps.{key_eq, get_map}

-- ---- the map

no_more : (a q : ℕ) (v o : Option Cell) → o ≡ cond (is_in_span a 0 q) v o
no_more a q v o = grind (arith, common_steps)

one_more : (a n q : ℕ) (v o : Option Cell) → cond (is_in_span (suc a) n q) v (cond (q == a) v o) ≡ cond (is_in_span a (suc n) q) v o
one_more a n q v o = grind (arith, common_steps)

-- what a look-up finds after zeros came in
pub get-with_zeros : (n : ℕ) (m : Map) (a q : ℕ) → get (with_zeros m a n) q ≡ cond (is_in_span a n q) (Some heap_cell) (get m q)
unfolding with_zeros
get-with_zeros zero m a q = no_more a q (Some heap_cell) (get m q)
get-with_zeros (suc n) m a q =
    get-with_zeros n (insert m a heap_cell) (suc a) q
    ∙ ap (cond (is_in_span (suc a) n q) (Some heap_cell)) (get-insert nat_cmp_total m a heap_cell q ∙ ap (λ t. cond t (Some heap_cell) (get m q)) (key_eq q a))
    ∙ one_more a n q (Some heap_cell) (get m q)

-- what a look-up finds after cells went
pub get-without_cells : (n : ℕ) (m : Map) (a q : ℕ) → get (without_cells m a n) q ≡ cond (is_in_span a n q) None (get m q)
unfolding without_cells
get-without_cells zero m a q = no_more a q None (get m q)
get-without_cells (suc n) m a q =
    get-without_cells n (remove m a) (suc a) q
    ∙ ap (cond (is_in_span (suc a) n q) None) (get-remove nat_cmp_total m a q ∙ ap (λ t. cond t None (get m q)) (key_eq q a))
    ∙ one_more a n q None (get m q)

-- a cell after the break has moved
abbrev pub cell_moved : ℕ → ℕ → ℕ → Option Cell → Option Cell
cell_moved old new q o = cond (is_in_span new (old - new) q) None (cond (is_in_span old (new - old) q) (Some heap_cell) o)

-- what a look-up finds after the break has moved
pub get-with_break : (m : Map) (old new q : ℕ) → get (with_break m old new) q ≡ cell_moved old new q (get m q)
get-with_break m old new q =
    get-without_cells (old - new) (with_zeros m old (new - old)) new q
    ∙ ap (cond (is_in_span new (old - new) q) None) (get-with_zeros (new - old) m old q)

-- ---- the part

abbrev or_else : Option Cell → Option Cell → Option Cell
or_else None o = o
or_else (Some c) o = Some c

abbrev one : Part → ℕ → Option Cell
one w q = chosen (contains w q) (cell_in w q) None

shift : (h : Bool) (c : Cell) (o v : Option Cell) → chosen h c (or_else o v) ≡ or_else (chosen h c o) v
shift true c o v = refl
shift false c o v = refl

-- a look-up finds the last part's cell where no other has one
last_cell : (ps : List Part) (i : ℕ) (w : Part) (q : ℕ) → suc i ≡ length ps → first_cell (set ps i w) q ≡ or_else (first_cell (take i ps) q) (one w q)
last_cell [] i w q e = absurd (omega arith)
last_cell (x ∷ []) zero w q e = first_cell_cons w [] q
last_cell (x ∷ y ∷ ps) zero w q e = absurd (omega arith)
last_cell (x ∷ ps) (suc i) w q e =
    first_cell_cons x (set ps i w) q
    ∙ ap (chosen (contains x q) (cell_in x q)) (last_cell ps i w q (omega arith))
    ∙ shift (contains x q) (cell_in x q) (first_cell (take i ps) q) (one w q)
    ∙ ap (λ o. or_else o (one w q)) (sym (first_cell_cons x (take i ps) q))

resized_length : (bs : List ℕ) (n : ℕ) → length (take n bs ++ replicate (n - length bs) 0) ≡ n
resized_length bs n = omega (arith, length-append (take n bs) (replicate (n - length bs) 0), length-take n bs, length-replicate {A = ℕ} (n - length bs) 0)

-- the bytes that a part keeps, and zeros after them
kept_byte : (bs : List ℕ) (n k : ℕ) → k < n → k < length bs → get_or (take n bs ++ replicate (n - length bs) 0) k 0 ≡ get_or bs k 0
kept_byte bs n k l h = get_or_append_left (take n bs) (replicate (n - length bs) 0) 0 k (omega (arith, length-take n bs)) ∙ get_or-take n bs k 0 l

zero_byte : (bs : List ℕ) (n k : ℕ) → k < n → length bs ≤ k → get_or (take n bs ++ replicate (n - length bs) 0) k 0 ≡ 0
zero_byte bs n k l h =
    let len : length (take n bs) ≡ length bs = omega (arith, length-take n bs) in
    get_or-append_right (take n bs) (replicate (n - length bs) 0) (length bs) k 0 len h
    ∙ get_or-replicate (n - length bs) (k - length bs) 0 0 (omega arith)

by_place : (base len n q : ℕ) (c d z : Cell) → (q - base < n → q - base < len → c ≡ d) → (q - base < n → len ≤ q - base → c ≡ z) → chosen (nat_le base q && nat_lt (q - base) n) c None ≡ cond (is_in_span (base + n) ((base + len) - (base + n)) q) None (cond (is_in_span (base + len) ((base + n) - (base + len)) q) (Some z) (chosen (nat_le base q && nat_lt (q - base) len) d None))
by_place base len n q c d z kept new = grind (arith, common_steps)

same_cell : (b r c s : ℕ) → b ≡ c → r ≡ s → (let x : Cell = record { byte = b; rights = r } in x) ≡ record { byte = c; rights = s }
same_cell b r c s e f = (λ i. record { byte = e i; rights = f i })

-- the part's cells after it is resized
one_moved : (p : Part) (n q : ℕ) → p.rights ≡ 6 → one (resized p n) q ≡ cell_moved (end_of p) (p.base + n) q (one p q)
one_moved p n q is =
    ap (λ len. chosen (nat_le p.base q && nat_lt (q - p.base) len) (cell_in (resized p n) q) None) (resized_length p.bytes n)
    ∙ by_place p.base (length p.bytes) n q (cell_in (resized p n) q) (cell_in p q) heap_cell
    (λ l h. same_cell _ _ _ _ (kept_byte p.bytes n (q - p.base) l h) refl)
    (λ l h. same_cell _ _ _ _ (zero_byte p.bytes n (q - p.base) l h) is)

-- outside of what moves, a cell stays
stays_below : (old new q : ℕ) (o : Option Cell) → q < old → q < new → cell_moved old new q o ≡ o
stays_below old new q o h l = grind (arith, common_steps)

stays_above : (old new q : ℕ) (o : Option Cell) → old ≤ q → new ≤ q → cell_moved old new q o ≡ o
stays_above old new q o h l = grind (arith, common_steps)

not_there : (w : Part) (q : ℕ) → contains w q ≡ false → one w q ≡ None
not_there w q h = ap (λ t. chosen t (cell_in w q) None) h

-- where no other part has a cell
in_heap : (o : Option Cell) (p : Part) (n q : ℕ) → p.rights ≡ 6 → o ≡ None → or_else o (one (resized p n) q) ≡ cell_moved (end_of p) (p.base + n) q (or_else o (one p q))
in_heap o p n q is none =
    ap (λ x. or_else x (one (resized p n) q)) none
    ∙ one_moved p n q is
    ∙ ap (cell_moved (end_of p) (p.base + n) q) (sym (ap (λ x. or_else x (one p q)) none))

-- where neither part has a cell
off_heap : (o : Option Cell) (p : Part) (n q : ℕ) → contains (resized p n) q ≡ false → contains p q ≡ false → cell_moved (end_of p) (p.base + n) q (or_else o (one p q)) ≡ or_else o (one p q) → or_else o (one (resized p n) q) ≡ cell_moved (end_of p) (p.base + n) q (or_else o (one p q))
off_heap o p n q h l same = ap (or_else o) (not_there (resized p n) q h ∙ sym (not_there p q l)) ∙ sym same

resized_end : (p : Part) (n : ℕ) → end_of (resized p n) ≡ p.base + n
resized_end p n = ap (λ len. p.base + len) (resized_length p.bytes n)

-- every cell after the last part is resized
last_moved : (o : Option Cell) (p : Part) (n q size : ℕ) → p.rights ≡ 6 → n ≤ size → end_of p ≤ p.base + size → (p.base ≤ q → q < p.base + size → o ≡ None) → or_else o (one (resized p n) q) ≡ cell_moved (end_of p) (p.base + n) q (or_else o (one p q))
last_moved o p n q size is fits most none = elim (cases_lt q p.base) as (λ _. or_else o (one (resized p n) q) ≡ cell_moved (end_of p) (p.base + n) q (or_else o (one p q))) [
  | inl low ↦ off_heap o p n q (not_held_below (resized p n) q low) (not_held_below p q low) (stays_below (end_of p) (p.base + n) q _ (omega arith) (omega arith))
  | inr from ↦ (elim (cases_lt q (p.base + size)) as (λ _. or_else o (one (resized p n) q) ≡ cell_moved (end_of p) (p.base + n) q (or_else o (one p q))) [
    | inl inside ↦ in_heap o p n q is (none from inside)
    | inr high ↦ off_heap o p n q (not_held_above (resized p n) q (omega (arith, resized_end p n))) (not_held_above p q (omega arith)) (stays_above (end_of p) (p.base + n) q _ (omega arith) (omega arith))
  ])
]

-- ---- the parts

abbrev last_of : List Part → Part → Part
last_of ps d = get_or ps (length ps - 1) d

-- no other part has an address where the heap may be
others_off : (stack : Part) (ps : List Part) (h : Heap) (q k : ℕ) (d : Part) → IsLaidOut stack ps → IsHeap stack ps h → h.start ≤ q → q < h.start + heap_size → k < length ps → contains (get_or (stack ∷ ps) k d) q ≡ false
others_off stack ps h q zero d laid is from below l = elim is.off_stack as (λ _. contains stack q ≡ false) [ inl under ↦ not_held_below stack q (omega arith) | inr over ↦ not_held_above stack q (omega arith) ]
others_off stack ps h q (suc k) d laid is from below l =
    let base : (last_of ps d).base ≡ h.start = (is.last d).base in
    let before : end_of (get_or ps k d) ≤ (last_of ps d).base = laid.ascending k (length ps - 1) d (omega arith) (omega arith) in
    not_held_above (get_or ps k d) q (omega arith)

others_none : (stack : Part) (ps : List Part) (h : Heap) (q : ℕ) → IsLaidOut stack ps → IsHeap stack ps h → h.start ≤ q → q < h.start + heap_size → first_cell (take (length ps) (stack ∷ ps)) q ≡ None
others_none stack ps h q laid is from below =
    none_found (take (length ps) (stack ∷ ps)) q (λ k d l.
    let within : k < length ps = omega (arith, l, length-take (length ps) (stack ∷ ps)) in
    ap (λ x. contains x q) (get_or-take (length ps) (stack ∷ ps) k d within) ∙ others_off stack ps h q k d laid is from below within)

less_one : (n : ℕ) → n ≡ suc n - 1
less_one n = omega arith

set_last : (stack : Part) (ps : List Part) (w : Part) → 0 < length ps → set (stack ∷ ps) (length ps) w ≡ stack ∷ set ps (length ps - 1) w
set_last stack [] w h = absurd (omega arith)
set_last stack (p ∷ ps) w h = ap (λ i. stack ∷ set (p ∷ ps) i w) (less_one (length ps))

-- the cells after the heap is resized
pub cells_moved : (stack : Part) (ps : List Part) (h : Heap) (p : Part) (n q : ℕ) → IsLaidOut stack ps → IsHeap stack ps h → p ≡ last_of ps p → n ≤ heap_size → first_cell (stack ∷ set ps (length ps - 1) (resized p n)) q ≡ cell_moved h.brk (h.start + n) q (first_cell (stack ∷ ps) q)
cells_moved stack ps h p n q laid is at fits =
    let all = stack ∷ ps in
    let part : IsHeapPart h p = subst (λ (x : Part). IsHeapPart h x) (sym at) (is.last p) in
    let base = part.base in
    let end = part.end in
    let some = is.some in
    let most = is.most in
    let whole : set all (length ps) p ≡ all = ap (set all (length ps)) (at ∙ last_is stack ps p some) ∙ set-get_or all (length ps) p in
    let others = first_cell (take (length ps) all) q in
    ap (λ xs. first_cell xs q) (sym (set_last stack ps (resized p n) some))
    ∙ last_cell all (length ps) (resized p n) q refl
    ∙ last_moved others p n q heap_size part.rights fits (omega (arith, base, end, most)) (λ from below. others_none stack ps h q laid is (omega arith) (omega arith))
    ∙ (λ i. cell_moved (end i) (base i + n) q (or_else others (one p q)))
    ∙ ap (cell_moved h.brk (h.start + n) q) (sym (last_cell all (length ps) p q refl) ∙ ap (λ xs. first_cell xs q) whole)
  where
    last_is : (stack : Part) (ps : List Part) (d : Part) → 0 < length ps → last_of ps d ≡ get_or (stack ∷ ps) (length ps) d
    last_is stack [] d h = absurd (omega arith)
    last_is stack (p ∷ ps) d h = ap (λ i. get_or (p ∷ ps) i d) (sym (less_one (length ps)))

-- the map after the heap is resized
pub map_moved : (stack : Part) (ps : List Part) (h : Heap) (p : Part) (n : ℕ) (m : Map) → IsLaidOut stack ps → IsHeap stack ps h → p ≡ last_of ps p → n ≤ heap_size → map_of (stack ∷ ps) ≡ m → map_of (stack ∷ set ps (length ps - 1) (resized p n)) ≡ with_break m h.brk (h.start + n)
map_moved stack ps h p n m laid is at fits e =
    same_map nat_cmp_total nat_cmp-IsAntisymmetric _ _ (λ q.
    get_map (stack ∷ set ps (length ps - 1) (resized p n)) q
    ∙ cells_moved stack ps h p n q laid is at fits
    ∙ ap (cell_moved h.brk (h.start + n) q) (sym (get_map (stack ∷ ps) q) ∙ ap (λ x. get x q) e)
    ∙ sym (get-with_break m h.brk (h.start + n) q))

-- what holds of a part holds of the one that takes its place, and of each other
set_keeps : (P : Part → Type 0) (ps : List Part) (i k : ℕ) (w d : Part) → i < length ps → (k ≡ i → P w) → (k ≢ i → P (get_or ps k d)) → P (get_or (set ps i w) k d)
set_keeps P ps i k w d l here there = elim (cases_eq k i) as (λ _. P (get_or (set ps i w) k d)) [
  | inl e ↦ subst (λ j. P (get_or (set ps i w) j d)) (sym e) (subst P (sym (get_or-set_same ps i w d l)) (here e))
  | inr e ↦ subst P (sym (get_or-set_other ps i k w d e)) (there e)
]

within_size : (p : Part) (n size start : ℕ) → p.base ≡ start → n ≤ size → end_of (resized p n) ≤ start + size
within_size p n size start base fits = omega (arith, resized_end p n, base)

-- the parts stay laid out when the heap is resized
pub laid_out_resized : (stack : Part) (ps : List Part) (h : Heap) (p : Part) (n : ℕ) → IsLaidOut stack ps → IsHeap stack ps h → p ≡ last_of ps p → n ≤ heap_size → IsLaidOut stack (set ps (length ps - 1) (resized p n))
laid_out_resized stack ps h p n laid is at fits =
    let some = is.some in
    let below = is.below in
    let part : IsHeapPart h p = subst (λ (x : Part). IsHeapPart h x) (sym at) (is.last p) in
    let base = part.base in
    let w = resized p n in
    let i = length ps - 1 in
    let len = length-set ps i w in
    let least : i < length ps = omega arith in
    record {
      ascending = λ j k d l m.
          set_keeps (λ x. end_of (get_or (set ps i w) j d) ≤ x.base) ps i k w d least
          (λ e. set_keeps (λ x. end_of x ≤ p.base) ps i j w d least (λ f. absurd (omega arith)) (λ f. (let b : end_of (get_or ps j d) ≤ (get_or ps i d).base = laid.ascending j i d (omega arith) least in let c = (is.last d).base in omega arith)))
          (λ e. set_keeps (λ x. end_of x ≤ (get_or ps k d).base) ps i j w d least (λ f. absurd (omega (arith, len))) (λ f. laid.ascending j k d l (omega (arith, len))));
      off_stack = λ k d m.
          set_keeps (λ x. x.base < end_of stack → end_of x ≤ stack.base) ps i k w d least
          (λ e l. elim is.off_stack as (λ _. end_of w ≤ stack.base) [ inl under ↦ omega (arith, within_size p n heap_size h.start base fits) | inr over ↦ absurd (omega arith) ])
          (λ e. laid.off_stack k d (omega (arith, len)));
      within = λ k d m.
          set_keeps (λ x. end_of x ≤ 2 ^ 32) ps i k w d least
          (λ e. omega (arith, within_size p n heap_size h.start base fits))
          (λ e. laid.within k d (omega (arith, len)));
      stack_within = laid.stack_within;
    }

-- and the last part is that of the heap with the break moved
pub heap_resized : (stack : Part) (ps : List Part) (h : Heap) (p : Part) (n brk : ℕ) → IsHeap stack ps h → p ≡ last_of ps p → n ≤ heap_size → brk ≡ h.start + n → IsHeap stack (set ps (length ps - 1) (resized p n)) (record { start = h.start; brk = brk })
heap_resized stack ps h p n brk is at fits moved =
    let some = is.some in
    let part : IsHeapPart h p = subst (λ (x : Part). IsHeapPart h x) (sym at) (is.last p) in
    let base = part.base in
    let w = resized p n in
    let i = length ps - 1 in
    let len = length-set ps i w in
    let least : i < length ps = omega arith in
    let last : length (set ps i w) - 1 ≡ i = omega (arith, len) in
    let new : IsHeapPart (record { start = h.start; brk = brk }) w = record { base = base; end = omega (arith, resized_end p n); rights = part.rights; room = part.room } in
    record {
      some = omega (arith, len);
      last = λ d. subst (IsHeapPart (record { start = h.start; brk = brk })) (sym (ap (λ k. get_or (set ps i w) k d) last ∙ get_or-set_same ps i w d least)) new;
      most = omega arith;
      below = is.below;
      off_stack = is.off_stack;
    }

may_is : (h : Heap) (a : ℕ) → may_break h a ≡ true → (h.start ≤ a) × (a - h.start ≤ heap_size)
may_is h a e = grind arith

-- the parts and the map after the break has moved
pub record HasMoved (stack : Part) (parts : List Part) (h : Heap) (old new : Map) (a : ℕ) : Type 0 where
  pub laid_out : IsLaidOut stack parts
  pub heap : IsHeap stack parts (record { start = h.start; brk = a })
  pub map : new ≡ with_break old h.brk a

moved_heap : (stack : Part) (ps : List Part) (o : Option Heap) (h : Heap) → HasHeap stack ps o → o ≡ Some h → IsHeap stack ps h
moved_heap stack ps o h is e = subst (λ (x : Option Heap). HasHeap stack ps x) e is

pub has_moved : (stack : Part) (ps : List Part) (o : Option Heap) (h : Heap) (p w : Part) (i a : ℕ) (m : Map) → IsLaidOut stack ps → HasHeap stack ps o → o ≡ Some h → may_break h a ≡ true → i ≡ length ps - 1 → p ≡ get_or ps i p → w ≡ resized p (a - h.start) → map_of (stack ∷ ps) ≡ m → HasMoved stack (set ps i w) h m (map_of (stack ∷ set ps i w)) a
has_moved stack ps o h p w i a m laid has is may at here new e =
    let b = may_is h a may in
    let n = a - h.start in
    let from : h.start ≤ a = b.0 in
    let sum : h.start + n ≡ a = omega arith in
    let last : p ≡ last_of ps p = here ∙ ap (λ j. get_or ps j p) at in
    let heap = moved_heap stack ps o h has is in
    let whole : set ps (length ps - 1) (resized p n) ≡ set ps i w = (λ j. set ps (sym at j) (sym new j)) in
    subst (λ (qs : List Part). HasMoved stack qs h m (map_of (stack ∷ qs)) a) whole
    (record {
      laid_out = laid_out_resized stack ps h p n laid heap last b.1;
      heap = heap_resized stack ps h p n a heap last b.1 (sym sum);
      map = map_moved stack ps h p n m laid heap last b.1 e ∙ ap (with_break m h.brk) sum;
    })

pub break_after : (m new : Map) (o : Option Heap) (h : Heap) (a : ℕ) → o ≡ Some h → may_break h a ≡ true → new ≡ with_break m h.brk a → (let x : Space = record { map = new; heap = Some (record { start = h.start; brk = a }) } in x) ≡ after_break m o a
break_after m new o h a is may e =
    (λ i. record { map = e i; heap = Some (record { start = h.start; brk = a }) })
    ∙ sym (ap (λ t. cond t (record { map = with_break m h.brk a; heap = Some (record { start = h.start; brk = a }) }) (record { map = m; heap = Some h })) may)
    ∙ sym (ap (λ x. after_break m x a) is)
