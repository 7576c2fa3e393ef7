-- Memory without its bytes: which addresses it has, with which rights.
use Rattle.std.specs.Prelude.{map}
use Rattle.std.specs.FinMap.{entries, from_entries}
use Rattle.memory_map.specs.Cells.{Map, Cell}
use Rattle.replay_law.specs.Terms.{SymbolicState}

-- a cell with zero for its byte
abbrev pub without_byte : Cell → Cell
without_byte cell = record { byte = 0; rights = cell.rights }

-- each cell with zero for its byte
unfoldable pub without_bytes : Map → Map
without_bytes memory = from_entries (map (λ e. (e.0, without_byte e.1)) (entries memory))

-- terms over such cells: no condition and no later term rests on the bytes of cells
abbrev pub over_bare_cells : SymbolicState → SymbolicState
over_bare_cells s = record s { cells = without_bytes s.cells }
