use Rattle.std.proofs.Common.{◌≡◌, ◌+◌, ◌*◌, ◌-◌, map}
use Rattle.std.specs.Prelude.{find}
use Rattle.std.specs.List.{range_with_len}
use Rattle.elf32.specs.Symbols.{sections, section_at, has_symbols, e_shoff, e_shnum}
use Rattle.elf32.proofs.sections.first_with_symbols.Given as goal

-- the first among the headers that are left is the first of all
abbrev pub invariant-loop-i : goal.invariant-loop-i
invariant-loop-i l =
    find has_symbols (sections l.bytes)
    ≡ find has_symbols (map (λ k. section_at l.bytes (e_shoff l.bytes + 40 * k)) (range_with_len l.i (e_shnum l.bytes - l.i)))
