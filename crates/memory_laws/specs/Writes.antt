-- What a write leaves of a cell.
use Rattle.std.specs.Prelude.{ℕ, Option, Some, None}
use Rattle.memory_map.specs.Cells.{Cell}

-- the rights of a cell, where there is one
abbrev pub rights_of_cell : Option Cell → Option ℕ
rights_of_cell None = None
rights_of_cell (Some cell) = Some cell.rights
