use Rattle.std.proofs.Common.{◌≡◌, ◌++◌, ◌+◌, ◌*◌, ◌-◌, ◌/◌}
use Rattle.std.specs.List.{range_with_len, filter_map}
use Rattle.elf32.specs.Symbols.{symbol_at, symbols_in, bytes_of}
use Rattle.elf32.proofs.symbols.symbols_in.Given as goal

-- the symbols so far, and those of the entries that are left, are all
abbrev pub invariant-loop-i : goal.invariant-loop-i
invariant-loop-i l =
    symbols_in l.bytes l.table l.fn.strings
    ≡ l.list.items ++ filter_map (λ k. symbol_at l.bytes (bytes_of l.bytes l.fn.strings) (l.table.offset + 16 * k)) (range_with_len l.i (l.table.size / 16 - l.i))
