-- The heap at the start.
use Rattle.std.proofs.Common.{◌≡◌, ℕ, ◌+◌, ◌-◌, ◌<◌, ◌≤◌, ◌^◌, List, length, get_or, Option, Some, None, IfSome, inl, inr, ap, subst, arith}
use Rattle.std.proofs.lemmas.Bool.{cases_lt}
use Rattle.std.proofs.lemmas.List.{get_or_default}
use Rattle.std.specs.FinMap.{get}
use Rattle.elf32.specs.declared.segments.Segment.{Segment}
use Rattle.memory_map.specs.Cells.{start_map}
use Rattle.memory_map.specs.Heaps.{heap_size, start_heap}
use Rattle.memory_map.specs.declared.heap.Heap.{Heap}
use Rattle.memory_map.proofs.Starts.{no_segment}
use Rattle.memory_map.proofs.HeapStarts.{IsPast, heap_past_last}
use Rattle.memory_laws.specs.Starts.{AreLoaded, IsIn}
use Rattle.memory_laws.proofs.Starts.{elsewhere_is}

past : (ss : List Segment) (h : Heap) → start_heap ss ≡ Some h → IsPast ss h
past ss h e = subst (λ (o : Option Heap). IfSome o (IsPast ss)) e (heap_past_last ss)

pub heap_empty : (ss : List Segment) (h : Heap) → start_heap ss ≡ Some h → h.brk ≡ h.start
heap_empty ss h e = (past ss h e).room.fresh

pub heap_below : (ss : List Segment) (h : Heap) → start_heap ss ≡ Some h → h.start + heap_size < 2 ^ 32
heap_below ss h e = (past ss h e).room.below

-- no segment has an address from the heap's start on
before : (ss : List Segment) (h : Heap) (q i : ℕ) (d : Segment) → AreLoaded ss → IsPast ss h → h.start ≤ q → i < length ss → IsIn (get_or ss i d) q → ⊥
before ss h q i d loaded is from l on =
    let last = length ss - 1 in
    let some = is.some in
    let end : (get_or ss last d).base + (get_or ss last d).size ≤ h.start = subst (λ (s : Segment). s.base + s.size ≤ h.start) (get_or_default ss last no_segment d (omega arith)) is.room.past in
    let below = on.below in
    elim (cases_lt i last) as (λ _. ⊥) [
      | inl less ↦ (let o : (get_or ss i d).base + (get_or ss i d).size ≤ (get_or ss last d).base = loaded.apart i last d less (omega arith) in omega arith)
      | inr above ↦ (let same : i ≡ last = omega arith in let e = ap (λ j. (get_or ss j d).base + (get_or ss j d).size) same in omega arith)
    ]

pub heap_apart : (ss : List Segment) (h : Heap) (q : ℕ) → AreLoaded ss → start_heap ss ≡ Some h → h.start ≤ q → q < h.start + heap_size → get (start_map ss) q ≡ None
heap_apart ss h q loaded e from below =
    let is = past ss h e in
    elsewhere_is ss q loaded (λ i d l on. before ss h q i d loaded is from l on)
    (λ on. elim is.room.off_stack as (λ _. ⊥) [ inl under ↦ omega (arith, on.from) | inr over ↦ omega (arith, on.below) ])
