use Rattle.std.proofs.Common.{ℕ, sym, ap, ◌∙◌, subst}
use Rattle.std.specs.Ordering.{nat_cmp}
use Rattle.std.specs.BTreeMap.{get}
use Rattle.memory_map.specs.Heaps.{Space, after_break}
use Rattle.sym_replay.specs.declared.state.ReplayState.{ReplayState}
use Rattle.sym_replay.specs.Cells.{without_bytes}
use Rattle.sym_replay.specs.States.{byte_tree, value_trees, HoldsBytes, IsState}
use Rattle.sym_replay.proofs.CellLemmas.{moved_bare}
use Rattle.sym_replay.proofs.StateLemmas.{other_memory}
use Rattle.sym_replay.proofs.HeapLemmas.{swept, cleared_state, break_done, moved_held}
use Rattle.sym_replay.proofs.state.ReplayState.move_break.Goals as goal

pub returns-clause-terms : goal.returns-clause-terms
returns-clause-terms c trees =
    let s = c.args.self.now in
    let rest = c.clear.ensures.rest in
    let done = c.brk.ensures.after ∙ (λ i. after_break (rest i).memory.map (rest i).memory.heap c.args.address) ∙ break_done s.memory.map s.memory.heap c.args.heap c.args.address c.requires.heap c.requires.place in
    let byte = λ (q : ℕ). (λ i. byte_tree trees (done i).map q (get nat_cmp c.clear.new.self.bytes q))
    ∙ swept trees s.memory.map c.args.heap c.args.address c.min.result c.max.result q (get nat_cmp s.bytes q) (get nat_cmp c.clear.new.self.bytes q) c.min.ensures c.max.ensures (c.clear.ensures.bytes q) in
    let cells = ap (λ (m : Space). without_bytes m.map) done ∙ moved_bare s.memory.map c.args.heap.brk c.args.address in
    (λ i. record {
      registers = value_trees trees (rest i).registers;
      bytes = λ q. byte q i;
      place = (rest i).place;
      cells = cells i;
      heap = (done i).heap;
    })

pub returns-clause-state : goal.returns-clause-state
returns-clause-state c trees h =
    let cleared = cleared_state trees c.args.self.now c.clear.new.self.bytes c.min.result c.max.result h c.clear.ensures.bytes in
    let state = subst (λ (s : ReplayState). IsState trees s) (sym c.clear.ensures.rest) cleared in
    let s = c.args.self.now in
    let rest = c.clear.ensures.rest in
    let done = c.brk.ensures.after ∙ (λ i. after_break (rest i).memory.map (rest i).memory.heap c.args.address) ∙ break_done s.memory.map s.memory.heap c.args.heap c.args.address c.requires.heap c.requires.place in
    let held = subst (λ (m : Space). HoldsBytes m.map) (sym done) (moved_held s.memory.map c.args.heap.brk c.args.address h.held) in
    other_memory trees c.clear.new.self c.brk.new.self held state

pub returns-clause-heap : goal.returns-clause-heap
returns-clause-heap c =
    let s = c.args.self.now in
    let rest = c.clear.ensures.rest in
    let done = c.brk.ensures.after ∙ (λ i. after_break (rest i).memory.map (rest i).memory.heap c.args.address) ∙ break_done s.memory.map s.memory.heap c.args.heap c.args.address c.requires.heap c.requires.place in
    (λ i. (done i).heap)
