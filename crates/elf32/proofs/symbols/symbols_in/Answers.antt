use Rattle.std.proofs.Common.{◌≡◌, ◌∙◌, ◌+◌, ◌-◌, ◌*◌, ◌/◌, ◌++◌, sym, ap, append_assoc}
use Rattle.std.specs.List.{range_with_len, filter_map}
use Rattle.elf32.specs.Symbols.{symbol_at, bytes_of, one_or_none}
use Rattle.elf32.proofs.SymbolLemmas.{next_symbol}
use Rattle.elf32.proofs.symbols.symbols_in.Goals as goal

pub loop-i-preserved : goal.loop-i-preserved
loop-i-preserved c =
    let bytes = c.args.bytes.now in
    let i = c.loop-i.i in
    let n = c.args.table.size / 16 in
    let list = c.loop-i.list.items in
    let place = c.args.table.offset + 16 * i in
    let rest = filter_map (λ k. symbol_at bytes (bytes_of bytes c.args.strings) (c.args.table.offset + 16 * k)) (range_with_len (i + 1) (n - (i + 1))) in
    let next = next_symbol (λ k. symbol_at bytes (bytes_of bytes c.args.strings) (c.args.table.offset + 16 * k)) i n c.loop-i-test.true in
    let pushed = c.in_ok-push_symbol.ensures ∙ ap (λ s. list ++ one_or_none (symbol_at bytes s place)) c.bytes-strings.ensures in
    c.loop-i.invariant
    ∙ (ap (λ r. list ++ r) next
    ∙ (sym (append_assoc list (one_or_none (symbol_at bytes (bytes_of bytes c.args.strings) place)) rest) ∙ ap (λ l. l ++ rest) (sym pushed)))
