use Rattle.std.proofs.Common.{◌+◌, ◌*◌, arith}
use Rattle.std.proofs.lemmas.List.FromFn.{fill_by_all}
use Rattle.elf32.specs.declared.header.Header.{Header}
use Rattle.elf32.specs.Fields.{header_at}
use Rattle.elf32.proofs.header.read_headers.Goals as goal

no_header : Header
no_header = record { kind = 0; offset = 0; vaddr = 0; filesz = 0; memsz = 0; flags = 0 }

pub returns : goal.returns
returns c =
    fill_by_all (λ i. header_at c.args.bytes.now (c.args.start + 32 * i)) _ _ no_header (omega arith) (λ k lt. c.loop-i.invariant k no_header (omega arith))
