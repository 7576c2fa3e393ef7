use Rattle.std.proofs.Common.{◌≡◌, ◌-◌, true, sym, ap, ◌∙◌, arith}
use Rattle.memory_map.specs.Heaps.{may_break}
use Rattle.memory_map.proofs.Heaps.{has_moved, break_after}
use Rattle.memory_map.proofs.memory.Memory.brk.Goals as goal

pub invariant_of-self : goal.invariant_of-self
invariant_of-self c =
    let h = c.in_ok-heap.heap in
    let may : may_break h c.args.a ≡ true = sym c.may_break.ensures ∙ c.if-not-may_break.false in
    let moved = has_moved c.self.inside.stack c.self.inside.regions.items c.self.inside.heap h c.index_mut.result.now c.resize.new.self (c.len-last.result - 1) c.args.a c.args.self.now.map c.self.invariant.0 c.self.invariant.1 c.in_ok-heap.was may (omega arith) c.index_mut.ensures.value c.resize.ensures (ap (λ s. s.map) c.self.view_is) in
    (moved.laid_out, moved.heap)

pub returns-clause-after : goal.returns-clause-after
returns-clause-after c =
    let h = c.in_ok-heap.heap in
    let may : may_break h c.args.a ≡ true = sym c.may_break.ensures ∙ c.if-not-may_break.false in
    let moved = has_moved c.self.inside.stack c.self.inside.regions.items c.self.inside.heap h c.index_mut.result.now c.resize.new.self (c.len-last.result - 1) c.args.a c.args.self.now.map c.self.invariant.0 c.self.invariant.1 c.in_ok-heap.was may (omega arith) c.index_mut.ensures.value c.resize.ensures (ap (λ s. s.map) c.self.view_is) in
    break_after c.args.self.now.map _ c.args.self.now.heap h c.args.a (sym (ap (λ s. s.heap) c.self.view_is) ∙ c.in_ok-heap.was) may moved.map
