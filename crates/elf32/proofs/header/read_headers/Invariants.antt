use Rattle.std.proofs.Common.{◌≡◌, ℕ, ◌+◌, ◌*◌, ◌<◌, get_or}
use Rattle.elf32.specs.declared.header.Header.{Header}
use Rattle.elf32.specs.Fields.{header_at}
use Rattle.elf32.proofs.header.read_headers.Given as goal

abbrev pub invariant-loop-i : goal.invariant-loop-i
invariant-loop-i l = (k : ℕ) (d : Header) → k < l.i → get_or l.headers k d ≡ header_at l.bytes (l.start + 32 * k)
