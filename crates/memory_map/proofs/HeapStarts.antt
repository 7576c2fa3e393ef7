-- The parts at the start, with that of the heap.
use Rattle.std.proofs.Common.{◌≡◌, ℕ, ◌+◌, ◌-◌, ◌<◌, ◌≤◌, ◌^◌, ◌⊎◌, ◌&&◌, ◌||◌, nat_le, nat_lt, Bool, true, false, cond, List, [], ◌∷◌, ◌++◌, Option, Some, None, IfSome, length, get_or, map, inl, inr, refl, sym, ap, ◌∙◌, subst, arith, length-append}
use Rattle.std.specs.List.{slice_get}
use Rattle.std.specs.FinMap.{from_entries}
use Rattle.std.proofs.lemmas.Bool.{cases_lt}
use Rattle.std.proofs.lemmas.Option.{slice_get-get_or}
use Rattle.std.proofs.lemmas.List.{get_or_append_left, get_or-append_right, length-map}
use Rattle.elf32.specs.declared.segments.Segment.{Segment}
use Rattle.elf32.specs.Segments.{AreApart, AreOffStack, AreSized}
use Rattle.memory_map.specs.Part.{Part}
use Rattle.memory_map.specs.Cells.{cells_from, stack_cells, start_map}
use Rattle.memory_map.specs.Heaps.{heap_size, page_up, heap_past, start_heap}
use Rattle.memory_map.specs.declared.heap.Heap.{Heap}
use Rattle.memory_map.specs.Layout.{map_of, entries_of, part_of, heap_parts, end_of, IsLaidOut, IsHeapPart, HasHeap}
use Rattle.memory_map.proofs.Maps.{start_is}
use Rattle.memory_map.proofs.Starts.{laid_out_start, at_place, no_segment}

-- a part without bytes adds nothing
no_entries : (ps : List Part) (o : Option Heap) → entries_of (ps ++ heap_parts o) ≡ entries_of ps
unfolding entries_of cells_from
no_entries [] None = refl
no_entries [] (Some h) = refl
no_entries (p ∷ ps) o = ap (λ es. cells_from p.base p.rights p.bytes ++ es) (no_entries ps o)

same_map_of : (stack : Part) (ps : List Part) (o : Option Heap) → map_of (stack ∷ (ps ++ heap_parts o)) ≡ map_of (stack ∷ ps)
unfolding map_of
same_map_of stack ps o = ap from_entries (no_entries (stack ∷ ps) o)

pub start_with_heap : (stack : Part) (ss : List Segment) → cells_from stack.base stack.rights stack.bytes ≡ stack_cells → map_of (stack ∷ (map part_of ss ++ heap_parts (start_heap ss))) ≡ start_map ss
start_with_heap stack ss e = same_map_of stack (map part_of ss) (start_heap ss) ∙ start_is stack ss e

-- where a heap has room
pub record HasRoom (end : ℕ) (h : Heap) : Type 0 where
  pub past : end ≤ h.start
  pub fresh : h.brk ≡ h.start
  pub below : h.start + heap_size < 2 ^ 32
  pub off_stack : (h.start + heap_size ≤ 0x7ff00000) ⊎ (0x80000000 ≤ h.start)

page_past : (n : ℕ) → n ≤ page_up n
page_past n = omega arith

room_from : (end start : ℕ) (u v w : Bool) → end ≤ start → nat_le (start + heap_size) 0x7ff00000 ≡ u → nat_le 0x80000000 start ≡ v → nat_lt (start + heap_size) (2 ^ 32) ≡ w → IfSome (cond (u || (v && w)) (Some (record { start = start; brk = start })) None) (HasRoom end)
room_from end start true v w h e f g = (let l : start + heap_size ≤ 0x7ff00000 = grind arith in record { past = h; fresh = refl; below = omega arith; off_stack = inl l })
room_from end start false true true h e f g = (let l : 0x80000000 ≤ start = grind arith in let m : start + heap_size < 2 ^ 32 = grind arith in record { past = h; fresh = refl; below = m; off_stack = inr l })
room_from end start false true false h e f g = tt
room_from end start false false w h e f g = tt

has_room : (s : Segment) → IfSome (heap_past (Some s)) (HasRoom (s.base + s.size))
has_room s = room_from (s.base + s.size) (page_up (s.base + s.size)) _ _ _ (page_past (s.base + s.size)) refl refl refl

-- the heap of a program lies past its last segment
pub record IsPast (ss : List Segment) (h : Heap) : Type 0 where
  pub some : 0 < length ss
  pub room : HasRoom ((get_or ss (length ss - 1) no_segment).base + (get_or ss (length ss - 1) no_segment).size) h

past_of : (ss : List Segment) (o : Option Segment) → slice_get ss (length ss - 1) ≡ o → IfSome (heap_past o) (IsPast ss)
past_of ss None e = tt
past_of [] (Some s) e = cc
past_of (t ∷ ts) (Some s) e = by_heap (heap_past (Some s)) (has_room s)
  where
    ss : List Segment
    ss = t ∷ ts

    same : s ≡ get_or (t ∷ ts) (length (t ∷ ts) - 1) no_segment
    same = (let f : Some s ≡ Some (get_or (t ∷ ts) (length (t ∷ ts) - 1) no_segment) = sym e ∙ slice_get-get_or (t ∷ ts) (length (t ∷ ts) - 1) no_segment (omega arith) in cc)

    by_heap : (o : Option Heap) → IfSome o (HasRoom (s.base + s.size)) → IfSome o (IsPast (t ∷ ts))
    by_heap None h = h
    by_heap (Some x) h = record { some = omega arith; room = subst (λ (y : Segment). HasRoom (y.base + y.size) x) same h }

pub heap_past_last : (ss : List Segment) → IfSome (start_heap ss) (IsPast ss)
unfolding start_heap
heap_past_last ss = past_of ss (slice_get ss (length ss - 1)) refl

-- ---- with the heap's part

append_none : (ps : List Part) → ps ++ [] ≡ ps
append_none [] = refl
append_none (p ∷ ps) = ap (λ qs. p ∷ qs) (append_none ps)

-- the part at a place: one of the others, or the last
with_last : (P : Part → Type 0) (ps : List Part) (p : Part) (k : ℕ) (d : Part) → k < length (ps ++ p ∷ []) → (k < length ps → P (get_or ps k d)) → (k ≡ length ps → P p) → P (get_or (ps ++ p ∷ []) k d)
with_last P ps p k d l other last = elim (cases_lt k (length ps)) as (λ _. P (get_or (ps ++ p ∷ []) k d)) [
  | inl less ↦ subst P (sym (get_or_append_left ps (p ∷ []) d k less)) (other less)
  | inr above ↦
      let at : k ≡ length ps = omega (arith, length-append ps (p ∷ [])) in
      let none : k - length ps ≡ 0 = omega arith in
      subst P (sym (get_or-append_right ps (p ∷ []) (length ps) k d refl above ∙ ap (λ i. get_or (p ∷ []) i d) none)) (last at)
]

-- each part ends where the heap starts, or before
all_before : (ss : List Segment) (h : Heap) (k : ℕ) (d : Part) → AreSized ss → AreApart ss → IsPast ss h → k < length ss → end_of (get_or (map part_of ss) k d) ≤ h.start
all_before ss h k d sized ordered past l =
    let last = length ss - 1 in
    let a = at_place ss k d sized l in
    let end = a.end in
    let room = past.room.past in
    elim (cases_lt k last) as (λ _. end_of (get_or (map part_of ss) k d) ≤ h.start) [
      | inl less ↦ (let o : (get_or ss k no_segment).base + (get_or ss k no_segment).size ≤ (get_or ss last no_segment).base = ordered k last no_segment less (omega arith) in omega arith)
      | inr above ↦ (let same : k ≡ last = omega arith in let e = ap (λ i. (get_or ss i no_segment).base + (get_or ss i no_segment).size) same in omega arith)
    ]

laid_out_by : (o : Option Heap) (stack : Part) (ss : List Segment) → IfSome o (IsPast ss) → AreSized ss → AreApart ss → AreOffStack ss → stack.base ≡ 0x7ff00000 → length stack.bytes ≡ 0x100000 → IsLaidOut stack (map part_of ss ++ heap_parts o)
laid_out_by None stack ss past sized ordered off base size = subst (λ (ps : List Part). IsLaidOut stack ps) (sym (append_none (map part_of ss))) (laid_out_start stack ss sized ordered off base size)
laid_out_by (Some h) stack ss past sized ordered off base size =
    let laid = laid_out_start stack ss sized ordered off base size in
    let ps = map part_of ss in
    let p : Part = record { base = h.start; rights = 6; bytes = []; room = heap_size } in
    let len : length ps ≡ length ss = length-map ss part_of in
    let lens = length-append ps (p ∷ []) in
    let below = past.room.below in
    record {
      ascending = λ j k d l m.
          with_last (λ x. end_of (get_or (ps ++ p ∷ []) j d) ≤ x.base) ps p k d m
          (λ n. with_last (λ x. end_of x ≤ (get_or ps k d).base) ps p j d (omega arith) (λ o. laid.ascending j k d l n) (λ e. absurd (omega arith)))
          (λ e. with_last (λ x. end_of x ≤ h.start) ps p j d (omega arith) (λ o. all_before ss h j d sized ordered past (omega (arith, len))) (λ f. absurd (omega arith)));
      off_stack = λ k d m.
          with_last (λ x. x.base < end_of stack → end_of x ≤ stack.base) ps p k d m (λ n. laid.off_stack k d n)
          (λ e l. elim past.room.off_stack as (λ _. h.start + 0 ≤ stack.base) [ inl under ↦ omega arith | inr over ↦ absurd (omega (arith, base, size)) ]);
      within = λ k d m. with_last (λ x. end_of x ≤ 2 ^ 32) ps p k d m (λ n. laid.within k d n) (λ e. omega arith);
      stack_within = laid.stack_within;
    }

pub laid_out_with_heap : (stack : Part) (ss : List Segment) → AreSized ss → AreApart ss → AreOffStack ss → stack.base ≡ 0x7ff00000 → length stack.bytes ≡ 0x100000 → IsLaidOut stack (map part_of ss ++ heap_parts (start_heap ss))
laid_out_with_heap stack ss sized ordered off base size = laid_out_by (start_heap ss) stack ss (heap_past_last ss) sized ordered off base size

has_heap_by : (o : Option Heap) (stack : Part) (ss : List Segment) → IfSome o (IsPast ss) → stack.base ≡ 0x7ff00000 → length stack.bytes ≡ 0x100000 → HasHeap stack (map part_of ss ++ heap_parts o) o
has_heap_by None stack ss past base size = tt
has_heap_by (Some h) stack ss past base size =
    let ps = map part_of ss in
    let p : Part = record { base = h.start; rights = 6; bytes = []; room = heap_size } in
    let lens : length (ps ++ p ∷ []) ≡ length ps + 1 = length-append ps (p ∷ []) in
    let fresh = past.room.fresh in
    record {
      some = omega arith;
      last = λ d. with_last (IsHeapPart h) ps p (length (ps ++ p ∷ []) - 1) d (omega arith) (λ l. absurd (omega arith)) (λ e. record { base = refl; end = omega arith; rights = refl; room = omega arith });
      most = omega arith;
      below = past.room.below;
      off_stack = elim past.room.off_stack as (λ _. (h.start + heap_size ≤ stack.base) ⊎ (end_of stack ≤ h.start)) [ inl under ↦ inl (omega (arith, base)) | inr over ↦ inr (omega (arith, base, size)) ];
    }

pub has_heap : (stack : Part) (ss : List Segment) → stack.base ≡ 0x7ff00000 → length stack.bytes ≡ 0x100000 → HasHeap stack (map part_of ss ++ heap_parts (start_heap ss)) (start_heap ss)
has_heap stack ss base size = has_heap_by (start_heap ss) stack ss (heap_past_last ss) base size

word_break : (ss : List Segment) (o : Option Heap) → IfSome o (IsPast ss) → IfSome o (λ h. h.brk < 2 ^ 32)
word_break ss None past = tt
word_break ss (Some h) past = (let below = past.room.below in let fresh = past.room.fresh in omega arith)

-- the break at the start is a word
pub start_break : (ss : List Segment) → IfSome (start_heap ss) (λ h. h.brk < 2 ^ 32)
start_break ss = word_break ss (start_heap ss) (heap_past_last ss)
