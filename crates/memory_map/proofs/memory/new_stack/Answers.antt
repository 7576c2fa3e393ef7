use Rattle.std.proofs.Common.{ap, ◌∙◌, length}
use Rattle.memory_map.specs.Part.{Part}
use Rattle.memory_map.specs.Cells.{cells_from, stack_cells}
use Rattle.memory_map.proofs.memory.new_stack.Goals as goal

pub returns : goal.returns
unfolding stack_cells
returns c = record {
  cells = ap (λ (p : Part). cells_from p.base p.rights p.bytes) c.new.ensures ∙ ap (cells_from 0x7ff00000 6) c.in_ok-bytes.ensures.items;
  base = ap (λ (p : Part). p.base) c.new.ensures;
  size = ap (λ (p : Part). length p.bytes) c.new.ensures ∙ c.in_ok-bytes.ensures.size;
}
