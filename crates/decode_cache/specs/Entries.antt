-- What is kept of a word.
use Rattle.std.specs.Prelude.{◌≡◌, IfSome}
use Rattle.rv_decode.specs.Table.{decoded}
use Rattle.rv_decode.specs.Rows.{IsWellFormed}
use Rattle.decode_cache.specs.declared.Entry.{Entry}

-- an entry has the instruction of its word, well formed where there is one
abbrev pub IsDecoded : Entry → Type 0
IsDecoded entry = (entry.instr ≡ decoded entry.word) × IfSome entry.instr IsWellFormed
