use Rattle.std.proofs.Common.{◌≡◌, sym, ap, ◌∙◌, map, ◌∷◌, ◌++◌, subst, List}
use Rattle.memory_map.specs.Part.{Part}
use Rattle.memory_map.specs.Layout.{IsLaidOut, HasHeap, map_of, part_of, heap_parts}
use Rattle.memory_map.specs.Heaps.{start_heap}
use Rattle.memory_map.proofs.HeapStarts.{start_with_heap, laid_out_with_heap, has_heap}
use Rattle.memory_map.proofs.memory.Memory.start.Goals as goal

pub invariant_of-result : goal.invariant_of-result
invariant_of-result c =
    let ss = c.args.image.now.segments in
    let stack = c.in_ok-stack.stack in
    let same = c.as_slice-segments.ensures in
    let heap = c.start_heap-heap.ensures ∙ ap start_heap same in
    let parts : c.in_ok-regions.regions.items ≡ map part_of ss ++ heap_parts (start_heap ss) = c.in_ok-regions.ensures ∙ (λ i. map part_of (same i) ++ heap_parts (heap i)) in (
      subst (λ (ps : List Part). IsLaidOut stack ps) (sym parts) (laid_out_with_heap stack ss c.args.image.now.sized c.args.image.now.apart c.args.image.now.off_stack c.in_ok-stack.ensures.base c.in_ok-stack.ensures.size),
      subst (λ (ps : List Part). HasHeap stack ps c.start_heap-heap.result) (sym parts) (subst (HasHeap stack (map part_of ss ++ heap_parts (start_heap ss))) (sym heap) (has_heap stack ss c.in_ok-stack.ensures.base c.in_ok-stack.ensures.size)),
    )

pub returns-clause-map : goal.returns-clause-map
returns-clause-map c =
    let ss = c.args.image.now.segments in
    let same = c.as_slice-segments.ensures in
    let heap = c.start_heap-heap.ensures ∙ ap start_heap same in
    let parts : c.in_ok-regions.regions.items ≡ map part_of ss ++ heap_parts (start_heap ss) = c.in_ok-regions.ensures ∙ (λ i. map part_of (same i) ++ heap_parts (heap i)) in
    ap (λ ps. map_of (c.in_ok-stack.stack ∷ ps)) parts
    ∙ start_with_heap c.in_ok-stack.stack ss c.in_ok-stack.ensures.cells
